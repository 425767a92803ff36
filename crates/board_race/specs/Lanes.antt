-- The lanes of the applications, each with its seat and its half of the stream.
use Rattle.std.specs.Prelude.{◌≡◌, ℕ, ◌<◌, ◌≤◌, true, List, length, map, All, Contains, slice_index_or, IsTrue}
use Rattle.board_race.specs.{Halves.{IsReceiver}, declared.lanes.Lane.{Lane}}
use Rattle.ref_words.specs.declared.view.View.{View}
use Rattle.word_board.specs.Board.{TheBoard}

-- the lanes are at this board, in the order of their applications
abbrev pub AreAt : TheBoard → List Lane → Type 0
AreAt board lanes =
    (i : ℕ) (d : Lane) → i < length lanes
    → ((slice_index_or lanes i d).seat.board ≡ board) × ((slice_index_or lanes i d).seat.side.view.app ≡ i)

-- and there is one for each of so many applications, which can take notes
pub record AreReady (board : TheBoard) (apps : ℕ) (lanes : List Lane) : Type 0 where
  pub many : length lanes ≡ apps
  pub hands : All (λ lane. IsReceiver lane.seat.side.view lane.receiver.loan) lanes
  pub at : AreAt board lanes

-- a lane that says so has left
abbrev pub SayLeft : List Lane → Type 0
SayLeft lanes = (i : ℕ) (d : Lane) → i < length lanes → IsTrue (slice_index_or lanes i d).left → (slice_index_or lanes i d).seat.side.view.left ≡ true

-- a lane's application took its notes, and left if it says so
pub record LaneHasRun (old new : Lane) : Type 0 where
  pub same : new.seat.board ≡ old.seat.board
  pub number : new.seat.side.view.app ≡ old.seat.side.view.app
  pub left : IsTrue new.left → new.seat.side.view.left ≡ true

pub record HaveRun (old new : List Lane) : Type 0 where
  pub many : length new ≡ length old
  pub each : (i : ℕ) (d : Lane) → i < length old → LaneHasRun (slice_index_or old i d) (slice_index_or new i d)

-- the applications from a number on, of so many, are back
abbrev pub AreBackFrom : ℕ → ℕ → View → Type 0
AreBackFrom first apps v = (a : ℕ) → first ≤ a → a < apps → Contains (map (λ app. app.view.app) v.apps) a
