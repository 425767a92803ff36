-- What moved through a source, a sink or a shelf, where it tells its bytes, and why a call may fail.
use Rattle.std.specs.{Prelude.{◌≡◌, ℕ, ◌+◌, ◌-◌, ◌^◌, ◌≤◌, min, List, ◌++◌, length, take, Option, None, Some, Result, OnOk, OnErr, MatchResult}, Io.KnownBytes.{Appends}}

-- A count of faults rose; it stands still at the end of its type.
abbrev pub Rose : ℕ → ℕ → Type 0
Rose before now = min (before + 1) (2 ^ 64 - 1) ≤ now

-- A count of faults never falls. At `Ok` it stood still, so nothing failed in the call; at `Err` it rose.
pub record HasCause {T E : Type 0} (before now : ℕ) (result : Result T E) : Type 0 where
  pub later : before ≤ now
  pub still : OnOk result (now ≡ before)
  pub failed : OnErr result (Rose before now)

-- what a shelf counts: how often it failed, and the bytes of all appends that answered `Ok`
pub record ShelfCounts : Type 0 where
  pub faults : ℕ
  pub appended : ℕ

-- a count with so many more: it stands still at the end of its type
abbrev pub raised_by : ℕ → ℕ → ℕ
raised_by count more = count + min more (2 ^ 64 - 1 - count)

-- A count of bytes rose by those of the piece at `Ok`, and stood still at `Err`.
abbrev pub CountsPiece : {T E : Type 0} → ℕ → ℕ → Result T E → List ℕ → Type 0
CountsPiece before now result piece = MatchResult result (λ _. now ≡ raised_by before (length piece)) (λ _. now ≡ before)

-- What was told before went on by the whole piece at `Ok`, and by a front of it at `Err`.
abbrev pub AddsPiece : {T E : Type 0} → Option (List ℕ) → Option (List ℕ) → Result T E → List ℕ → Type 0
AddsPiece old new result piece =
    MatchResult result (λ _. Appends old new piece) (λ _. (n : ℕ) × Appends old new (take n piece))

-- Over any number of calls: what was told gained some bytes at its end, of which P holds.
abbrev pub Gained : Option (List ℕ) → Option (List ℕ) → (List ℕ → Type 0) → Type 0
Gained None new P = Unit {0}
Gained (Some xs) None P = ⊥
Gained (Some xs) (Some ys) P = (bytes : List ℕ) × (ys ≡ xs ++ bytes) × P bytes

-- Over any number of calls: some bytes were taken from the front of what was told to be left, and P holds of them.
abbrev pub Took : Option (List ℕ) → Option (List ℕ) → (List ℕ → Type 0) → Type 0
Took None new P = Unit {0}
Took (Some xs) None P = ⊥
Took (Some xs) (Some ys) P = (bytes : List ℕ) × (xs ≡ bytes ++ ys) × P bytes
