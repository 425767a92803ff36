-- When a seat may make a step: whatever the words are and whatever the others did, the rule holds again behind it.
use Rattle.std.specs.Prelude.{◌≡◌, [], ℕ, ◌+◌, ◌-◌, ◌%◌, bit_and, bit_or, ◌<◌, ◌^◌, List, length, take, drop, slice_index, slice_set}
use Rattle.board_face.specs.{Sides.{IsApp}, declared.views.{parts.Setting.{Setting}, nic.NicSide.{NicSide}, app.AppSide.{AppSide}}}
use Rattle.ref_words.specs.{declared.view.View.{View}, Words.{Words, table_of, phase_at}, Lines.{joined, HaveText}, Rule.{BoardRule}}
use Rattle.atomic_table.specs.Table.{Me, Allows}
use Rattle.word_board.specs.{declared.steps.Op.{Op, TheVariants.{Load, Swap, Add, Sub, Or, And}}, Board.{IsBoard, TheSeat, TheApp}, Lines.{numbered, TookLines}}

-- what a step makes of the number that it finds
abbrev pub made_by : Op → ℕ → ℕ
made_by Load n = n
made_by (Swap k) n = k
made_by (Add k) n = (n + k) % 2 ^ 64
made_by (Sub k) n = (n + (2 ^ 64 - k)) % 2 ^ 64
made_by (Or k) n = bit_or n k
made_by (And k) n = bit_and n k

-- What a step on the word i makes of the board, where it leaves m there: words that stand by the rule to the sides, and the lines as they
-- were.
pub record MakesWords (setting : Setting) (words : Words) (i m : ℕ) (nic : NicSide) (apps : List AppSide) : Type 0 where
  pub words' : Words
  pub laid : slice_set (table_of words) i m ≡ table_of words'
  pub roles : words'.roles ≡ words.roles
  pub area : words'.area ≡ words.area
  pub rule : BoardRule setting words' nic apps

-- the number in the word i
abbrev pub word_in : Words → ℕ → ℕ
word_in words i = slice_index (table_of words) i

-- An application may step on the word i, so that f of the number there stands there, its side is the next by that number, and this is
-- told. It stays the one that it is, and the lines that it has out stay out.
pub record MayApp (app : TheApp) (i : ℕ) (f : ℕ → ℕ) (next : ℕ → AppSide) (told : ℕ → Type 0) : Type 0 where
  pub number : (n : ℕ) → (next n).view.app ≡ app.side.view.app
  pub making : (n : ℕ) → (next n).inside.making ≡ app.side.inside.making
  pub step : (words : Words) (nic : NicSide) (apps : List AppSide) → BoardRule app.board.setting words nic apps → IsApp apps app.side.view.app app.side
      → word_in words i < 2 ^ 64
      → MakesWords app.board.setting words i (f (word_in words i)) nic (slice_set apps app.side.view.app (next (word_in words i))) × told (word_in words i)

-- The table allows a step to a seat of the role that has this side, and what the seat knows of its side stays so.
pub record MayStep {Side : Type 0} (view_of : Side → View) (Stays : Side → Side → Type 0) (seat : TheSeat Side) (i : ℕ) (f : ℕ → ℕ) (next : ℕ → Side)
    (told : ℕ → Type 0) : Type 0 where
  pub stays : (n : ℕ) → Stays seat.side (next n)
  pub allowed : (slots id : ℕ) (me : Me (List ℕ) View) → me ≡ (view_of seat.side, [])
      → Allows (IsBoard seat.board.setting) slots id me i f (λ n w. (w ≡ (view_of (next n), me.1)) × told n)

-- ---- lines

-- The table allows a step on the word i to a seat of the role that has this side, in which it takes so many lines, from one on.
pub record MayTake {Side : Type 0} (view_of : Side → View) (seat : TheSeat Side) (i : ℕ) (f : ℕ → ℕ) (first many : ℕ) (next : List (List ℕ) → Side)
    (told : List (List ℕ) → Type 0) : Type 0 where
  pub allowed : (slots id : ℕ) (me : Me (List ℕ) View) → me ≡ (view_of seat.side, [])
      → Allows (IsBoard seat.board.setting) slots id me i f (λ n w. TookLines first many (λ lines. view_of (next lines)) told w)

-- And a load in which the seat gives its lines back, with this in them.
pub record MayGive {Side : Type 0} (view_of : Side → View) (seat : TheSeat Side) (first : ℕ) (lines : List (List ℕ)) (next : Side) : Type 0 where
  pub allowed : (slots id : ℕ) (me : Me (List ℕ) View) → me ≡ (view_of seat.side, numbered first lines)
      → Allows (IsBoard seat.board.setting) slots id me (phase_at seat.board.setting 0) (λ n. n) (λ n w. w ≡ (view_of next, []))

-- A seat stored a text: it gave whole lines back that have it.
pub record HasStored {Side : Type 0} (old new : TheSeat Side) (bytes : List ℕ) (done : List (List ℕ) → Side) : Type 0 where
  pub lines : List (List ℕ)
  pub text : HaveText lines bytes
  pub event : new ≡ record old { side = done lines }

-- A seat read these bytes in lines, from one of the first line on, and gave the lines back as they are.
pub record HasReadLines {Side : Type 0} (old new : TheSeat Side) (skip : ℕ) (read : List ℕ) (done : List (List ℕ) → Side) (tells : List (List ℕ) → Type 0)
    : Type 0 where
  pub lines : List (List ℕ)
  pub told : tells lines
  pub bytes : read ≡ take (length read) (drop skip (joined lines))
  pub event : new ≡ record old { side = done lines }
