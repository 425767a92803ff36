-- Seats of the table, and the lines that they have out.
use Rattle.std.specs.Prelude.{◌≡◌, ℕ, ◌+◌, List, [], ◌∷◌, length, map}
use Rattle.atomic_table.specs.{Table.{Me}, declared.shared.Seat.{Seat}}
use Rattle.ref_words.specs.{declared.view.View.{View}, Lines.{AreWide}}

-- It is the same seat, with the same view and the same lines.
pub record IsSameSeat (old new : Seat (List ℕ) View) : Type 0 where
  pub table : new.table_id ≡ old.table_id
  pub number : new.id ≡ old.id
  pub me : new.me ≡ old.me

-- lines from one on, each with its number
abbrev pub numbered : ℕ → List (List ℕ) → List (ℕ × List ℕ)
numbered first [] = []
numbered first (line ∷ lines) = (first, line) ∷ numbered (first + 1) lines

-- what stands in those that a seat has
abbrev pub held : Me (List ℕ) View → List (List ℕ)
held me = map (λ slot. slot.1) me.1

-- A seat has so many lines, from one on.
pub record HasLines (first n : ℕ) (me : Me (List ℕ) View) : Type 0 where
  pub slots : me.1 ≡ numbered first (held me)
  pub many : length (held me) ≡ n
  pub wide : AreWide (held me)

-- A seat took so many lines, from one on. By what stands in them it has this view, and this is told.
pub record TookLines (first n : ℕ) (shows : List (List ℕ) → View) (tells : List (List ℕ) → Type 0) (me : Me (List ℕ) View) : Type 0 where
  pub has : HasLines first n me
  pub view : me.0 ≡ shows (held me)
  pub told : tells (held me)
