-- What the code keeps of the holders, and how it changes them.
use Rattle.std.specs.{Prelude.{◌≡◌, ℕ, Bool, true, false, List, [], Option, Some, None, slice_index_or, nat_lt, ◌&&◌, ◌==◌, ◌%◌}, List.{list_any, list_all}}
use Rattle.std.specs.{Io.KnownBytes.{IsAtEnd}, Prelude.{◌+◌, ◌<◌, IfSome}}
use Rattle.zr_kinds.specs.{declared.{event.Event.{Event}, holding.Holding.{Holding}}, RunText.{RecordText}, Setting.{Setting}}
use Rattle.zr_kinds.specs.Holders.{Holdings, after, is_apart, is_same}
use Rattle.zr_kinds.specs.declared.event.Event.TheVariants as event
use Rattle.zr_kinds.specs.declared.holding.Holding.TheVariants as holding
use Rattle.run_check.specs.{Reading.{event_of}, Unfit.{IsLack, IsUnfitEvent}, declared.{checking.Checked.{Checked, TheVariants.{Yes, No}}, unfit.{Lack.{Lack}, Unfit.{Unfit}}}}
use Rattle.run_check.specs.declared.unfit.Unfit.TheVariants as unfit
pub use Rattle.zr_kinds.specs.Holders.{weight}

-- the holders of each buffer, of which a number past the last has none
abbrev pub holdings_of : List (List Holding) → Holdings
holdings_of buffers = λ buffer. slice_index_or buffers buffer []

-- the same holders, each as often, in any order: they weigh the same, whatever each weighs
abbrev pub SameHolders : List Holding → List Holding → Type 0
SameHolders one other = (weigh : Holding → ℕ) → weight weigh one ≡ weight weigh other

abbrev pub SameHoldings : Holdings → Holdings → Type 0
SameHoldings one other = (buffer : ℕ) → SameHolders (one buffer) (other buffer)

-- `true`: these are the holders that it becomes; `false`: it becomes nothing
abbrev pub Changes : Option (List Holding) → List Holding → Bool → Type 0
Changes becoming now true = (then : List Holding) × (becoming ≡ Some then) × SameHolders then now
Changes becoming now false = becoming ≡ None

abbrev pub HasChanged : Setting → Holdings → Event → Holdings → Option Lack → Type 0
HasChanged setting old e new None = (then : Holdings) × (after setting old e ≡ Some then) × SameHoldings then new
HasChanged setting old e new (Some lack) = IsLack setting old e lack

abbrev pub can_place : List Holding → ℕ → ℕ → Bool
can_place held offset len = list_any (is_same holding.Own) held && nat_lt 0 len && (offset % 64 == 0) && list_all (is_apart offset len) held

-- an application whose user count changes is one of eight
abbrev pub HasSmallApp : Event → Type 0
HasSmallApp (event.Lend a b o l p u) = a < 8
HasSmallApp (event.Back a b o l u) = a < 8
HasSmallApp (event.Honour a b p u) = a < 8
HasSmallApp (event.Own a b l p u) = a < 8
HasSmallApp (event.Scrub a b p u) = a < 8
HasSmallApp other = Unit {0}

-- `None`: the line says an event that changes the holders; `Some`: why it says none that may come
abbrev pub LineChanges : Setting → Holdings → RecordText → Holdings → Option Unfit → Type 0
LineChanges setting old line new None = (e : Event) × (event_of line ≡ Some e) × HasChanged setting old e new None
LineChanges setting old line new (Some why) = IsUnfitEvent setting old line why

-- what is said behind a last line: whether nothing is left
abbrev pub EndsRecord : Option (List ℕ) → ℕ → Checked → Type 0
EndsRecord old line (Yes lines) = (lines ≡ line) × IsAtEnd old
EndsRecord old line (No bad why) = (bad ≡ line + 1) × (why ≡ unfit.Behind) × IfSome old (λ bytes. bytes ≡ [] → ⊥)
