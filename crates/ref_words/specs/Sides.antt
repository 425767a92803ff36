-- What holds of the sides of all roles between any two steps, whatever the words are.
use Rattle.std.specs.{Prelude.{◌≡◌, ℕ, ◌<◌, ◌≤◌, ◌⊎◌, ◌++◌, true, false, List, [], ◌∷◌, length, map, take, count_by, All, Option, Some, None, slice_index}, List.{flat_map}}
use Rattle.zr_kinds.specs.declared.{place.Place.{Place}, ring.Rqe.{Rqe}}
use Rattle.area_layout.specs.Layout.{all_buffers, judged}
use Rattle.board_face.specs.{NicCalls.{apps_of}, AppEvents.{reserve_of}, Counts.{pool_count, EndedWereReturned}, Places.{ArePlaced, IsMadeLast, places_of, filled_places, kind_place}}
use Rattle.board_face.specs.{Fillings.{IsFilledByOne, FillingsFit}, Used.{HasFewPicks}, Relay.{dealt_entries, as_taken, IsProper}, Returns.{AreReturns, entries_on_way}}
use Rattle.board_face.specs.{Sides.{AreNumbered, IsApp}, Judged.{IsHonouredAsNamed}, Holders.{app_holders, ended_in, returned_in, owed_in, sent_to}}
use Rattle.board_face.specs.declared.views.{parts.Setting.{Setting}, nic.{EntryInHand.{EntryInHand}, Judged.{Judged}}}
use Rattle.board_face.specs.declared.views.{nic.{Judged.TheVariants.{Not, Stray, Owed, UserLowered, BothLowered}, NicSide.{NicSide}}, app.WrittenEntry.{WrittenEntry}}
use Rattle.board_face.specs.declared.views.app.AppSide.{AppSide}
use Rattle.ref_words.specs.{Lines.{touches}, Rings.{EntryFits, NoteFits}}

-- all sides are of one board
pub record AreOf (setting : Setting) (nic : NicSide) (apps : List AppSide) : Type 0 where
  pub card : nic.view.setting ≡ setting
  pub many : length apps ≡ apps_of setting
  pub numbers : AreNumbered 0 apps
  pub others : All (λ app. app.view.setting ≡ setting) apps

-- where an application's holdings in a buffer lie
abbrev pub app_places_of : ℕ → NicSide → AppSide → List Place
app_places_of b nic app = flat_map kind_place (app_holders b nic app) ++ filled_places b app

-- all that lies in this line of a buffer is one application's
pub record IsOneApps (b x : ℕ) (nic : NicSide) (apps : List AppSide) : Type 0 where
  pub a : ℕ
  pub app : AppSide
  pub here : IsApp apps a app
  pub all : count_by (touches x) (app_places_of b nic app) ≡ count_by (touches x) (places_of b nic apps)

-- A line has bytes of one place at most, or all that lies in it is one application's: a piece begins with a line, and the parts of what is
-- cut stay with the application.
abbrev pub AreByLine : ℕ → NicSide → List AppSide → Type 0
AreByLine b nic apps = (x : ℕ) → (count_by (touches x) (places_of b nic apps) ≤ 1) ⊎ IsOneApps b x nic apps

-- what a scrub takes and owes is told for each buffer
pub record HasScrubLists (setting : Setting) (app : AppSide) : Type 0 where
  pub took : length app.inside.scrub_took ≡ all_buffers setting.layout
  pub owes : length app.inside.scrub_owes ≡ all_buffers setting.layout

-- How far an application's scrub came: nothing is owed any more of the buffers below its mark, and nothing was taken of those
-- from there on. It began when all refill slots were quiet and no loan was out, and with the last buffer it is done.
pub record IsScrubbedSoFar (nic : NicSide) (app : AppSide) : Type 0 where
  pub within : app.inside.scrub_mark ≤ all_buffers app.view.setting.layout
  pub done : app.view.scrubbed ≡ true → app.inside.scrub_mark ≡ all_buffers app.view.setting.layout
  pub whole : app.inside.scrub_mark ≡ all_buffers app.view.setting.layout → app.view.scrubbed ≡ true
  pub taken : (b : ℕ) → b < app.inside.scrub_mark → length (owed_in b nic app) ≡ 0
  pub untaken : (b : ℕ) → app.inside.scrub_mark ≤ b → slice_index app.inside.scrub_took b ≡ 0
  pub quiet : 0 < app.inside.scrub_mark → app.view.quiet ≡ true
  pub loans : 0 < app.inside.scrub_mark → app.view.loans ≡ []

-- an application that has seen its reserve free, and took no spare since, finds it so
pub record HasFreeReserve (nic : NicSide) (apps : List AppSide) (app : AppSide) : Type 0 where
  pub unheld : app.inside.reserve_seen_free ≡ true → pool_count (reserve_of app.view) nic apps ≡ 0

-- an application has no loan, out or owed
pub record HasNoneOwed (nic : NicSide) (app : AppSide) : Type 0 where
  pub loans : app.view.loans ≡ []
  pub owed : (b : ℕ) → length (owed_in b nic app) ≡ 0

-- the entries that the card dealt with are the first of those that the application wrote
pub record IsDealtInOrder (nic : NicSide) (app : AppSide) : Type 0 where
  pub order : take (length (dealt_entries app.view.app nic)) (map (λ w. w.entry) app.view.written) ≡ dealt_entries app.view.app nic

-- the notes that the application took are the first of those that were sent to it, with the bytes that travelled in them
pub record IsTakenInOrder (nic : NicSide) (app : AppSide) : Type 0 where
  pub order : take (length app.view.taken) (map as_taken (sent_to app.view.app nic)) ≡ app.view.taken

-- the entry is the first of these
pub record IsFirst (entry : Rqe) (way : List WrittenEntry) : Type 0 where
  pub first : WrittenEntry
  pub others : List WrittenEntry
  pub is : way ≡ first ∷ others
  pub same : first.entry ≡ entry

-- the first of these came from no loan
pub record IsFirstRaw (way : List WrittenEntry) : Type 0 where
  pub first : WrittenEntry
  pub others : List WrittenEntry
  pub is : way ≡ first ∷ others
  pub raw : first.of_loan ≡ false

-- the buffer that an entry in hand was judged a return for
abbrev pub judged_for : Judged → Option ℕ
judged_for Not = None
judged_for Stray = None
judged_for (Owed b) = Some b
judged_for (UserLowered b) = Some b
judged_for (BothLowered b) = Some b

-- An entry in hand is the first of those on their way, and it names the buffer that it was judged for. Where the user count was
-- seen above 0 for it and isn't lowered yet, a loan is still owed that it gives back. One that was judged a stray came from no loan.
pub record IsInHand (nic : NicSide) (apps : List AppSide) (inhand : EntryInHand) : Type 0 where
  pub app : inhand.app < length apps
  pub first : (app : AppSide) → IsApp apps inhand.app app → IsFirst inhand.entry (entries_on_way nic app)
  pub named : (b : ℕ) → judged_for inhand.judged ≡ Some b → judged nic.view.setting.layout inhand.entry ≡ Some b
  pub owed : (b : ℕ) → inhand.judged ≡ Owed b
      → (b < all_buffers nic.view.setting.layout) × ((app : AppSide) → IsApp apps inhand.app app → ended_in b nic app < length (returned_in b app))
  pub lowered : (b : ℕ) → inhand.judged ≡ UserLowered b → b < all_buffers nic.view.setting.layout
  pub stray : inhand.judged ≡ Stray → (app : AppSide) → IsApp apps inhand.app app → IsFirstRaw (entries_on_way nic app)

-- the card knows a next slot of each ring
pub record HasSlots (setting : Setting) (nic : NicSide) : Type 0 where
  pub notes : length nic.inside.note_slots ≡ apps_of setting
  pub refills : length nic.inside.refill_slots ≡ apps_of setting

pub record SidesRule (setting : Setting) (nic : NicSide) (apps : List AppSide) : Type 0 where
  pub set : AreOf setting nic apps
  pub lists : All (HasScrubLists setting) apps
  -- the places of a buffer's holders share no byte, one at most fills a buffer, and a piece in the making is its buffer's last
  pub placed : (b : ℕ) → ArePlaced b nic apps
  pub by_one : (b : ℕ) → IsFilledByOne b nic apps
  pub fit : FillingsFit nic apps
  pub made : IsMadeLast nic apps
  -- nor do those of two applications share a line
  pub lines : (b : ℕ) → AreByLine b nic apps
  -- no more was honoured or scrubbed than was given back or abandoned
  pub returned : (b : ℕ) → All (EndedWereReturned b nic) apps
  -- reserves, and picks from the free list
  pub reserves : (a : ℕ) (app : AppSide) → IsApp apps a app → HasFreeReserve nic apps app
  pub few : All HasFewPicks apps
  -- what the card dealt with are the first of the entries that were written, in order
  pub dealt : (a : ℕ) (app : AppSide) → IsApp apps a app → IsDealtInOrder nic app
  -- the notes that an application took are the first of those that were sent to it, in order, and each may be sent
  pub taken : (a : ℕ) (app : AppSide) → IsApp apps a app → IsTakenInOrder nic app
  pub proper : All IsProper nic.view.sent
  -- an entry that was honoured named its buffer
  pub honoured : All (IsHonouredAsNamed setting.layout) nic.view.dealt
  -- the card's next slots, and the fields of what is written into slots
  pub slots : HasSlots setting nic
  pub entries : All (λ app. All EntryFits app.view.written) apps
  pub notes : All NoteFits nic.view.sent
  -- returns on their way, the entry in hand, how far a scrub came, and that an application which has scrubbed has no loan and owes
  -- none
  pub returns : (a : ℕ) (app : AppSide) → IsApp apps a app → AreReturns nic app
  pub hand : (inhand : EntryInHand) → nic.inside.entry ≡ Some inhand → IsInHand nic apps inhand
  pub scrub : (a : ℕ) (app : AppSide) → IsApp apps a app → IsScrubbedSoFar nic app
  pub scrubbed : (a : ℕ) (app : AppSide) → IsApp apps a app → app.view.scrubbed ≡ true → HasNoneOwed nic app
