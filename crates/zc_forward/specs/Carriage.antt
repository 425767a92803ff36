-- What a contract sees of a carrier over a shelf.
use Rattle.std.specs.{Prelude.{◌≡◌, ℕ, ◌<◌, length, nat_eq, nat_le, Bool, true, false, is_none, Option, Some, None, ◌∷◌, if◌then◌else◌}, List.{IsDistinct}, Map.{keys_of}}
use Rattle.futures.specs.{Poll.{IfReady, OnPending}, declared.task.Poll.{Poll, TheVariants.{Ready, Pending}}}
use Rattle.zr_io.specs.{Memory.{raised}, Moved.{Rose}}
use Rattle.zc_forward.specs.Tags.{Pace, Tags, TakesTag}

-- the shelf, how many tags it keeps out, these in the order in which they went out, and how often it had no notice
pub record Carriage (T : Type 0) : Type 0 where
  pub shelf : T
  pub delay : ℕ
  pub out : Tags
  pub looks : ℕ

-- whether so few tags are out that none is told
abbrev pub is_waiting : {T : Type 0} → Carriage T → Bool → Bool
is_waiting carriage urge = nat_le (length carriage.out) (if urge then 0 else carriage.delay)

abbrev pub is_pending : Poll ℕ → Bool
is_pending Pending = true
is_pending (Ready tag) = false

-- it tells of the tag that went out first, or counts a look; all else stays
abbrev pub TellsOldest : {T : Type 0} → Carriage T → Carriage T → Option ℕ → Type 0
TellsOldest old new None = new ≡ record old { looks = raised old.looks }
TellsOldest old new (Some tag) = (flow : ℕ) × (old.out ≡ (tag, flow) ∷ new.out) × (new ≡ record old { out = new.out })

abbrev pub pace_of : {T : Type 0} → Carriage T → Pace
pace_of carriage = record { delay = carriage.delay; looks = carriage.looks }

-- none is told exactly where so few are out, and else the oldest
abbrev pub AnswersLate : {T : Type 0} → Bool → Carriage T → Carriage T → Option ℕ → Type 0
AnswersLate urge old new told = (is_none told ≡ is_waiting old urge) × TellsOldest old new told

-- A poll is pending exactly where so few are out, which is a look. Else it gives the oldest, which is out no longer.
pub record PollsOldest {T : Type 0} (urge : Bool) (old new : Carriage T) (gave : Poll ℕ) : Type 0 where
  pub waits : is_pending gave ≡ is_waiting old urge
  pub oldest : IfReady gave (λ tag. TellsOldest old new (Some tag))
  pub told : IfReady gave (λ tag. TakesTag old.out new.out (Some tag))
  pub pending : OnPending gave (TellsOldest old new None)
  pub none : OnPending gave (new.out ≡ old.out)
  pub looked : OnPending gave (Rose old.looks new.looks)

-- no tag is out twice
pub record AreOut (delay : ℕ) (out : Tags) : Type 0 where
  pub small : delay < 64
  pub each : IsDistinct nat_eq (keys_of out)
