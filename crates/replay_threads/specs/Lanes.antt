-- How the applications go on at their seats.
use Rattle.std.specs.Prelude.{◌≡◌, ℕ, suc, ◌+◌, ◌<◌, true, false, List, [], ◌∷◌, length, slice_index_or, All, Option, ⊤}
use Rattle.board_face.specs.{Opened.{new_app}, declared.views.app.AppSide.{AppSide}}
use Rattle.word_board.specs.{Board.{TheBoard, TheDesk, was_given}, Desk.{AreOfBoard, AreServed}}
use Rattle.replay_threads.specs.{Seated.{Fits, SeatedGoes, is_gone, seat_of}, declared.lane.Lane.{Lane}}
use Rattle.zr_io.specs.Moved.{ShelfCounts}

-- ---- turns

-- Each went on, by this relation.
pub record AllGo {W : Type 0} (goes : W → W → Type 0) (was now : List W) : Type 0 where
  pub many : length now ≡ length was
  pub each : (i : ℕ) (d : W) → i < length was → goes (slice_index_or was i d) (slice_index_or now i d)

-- what the application keeps fits its side
abbrev pub LaneFits : {T : Type 0} → (T → ℕ → Option (List ℕ)) → (T → ShelfCounts) → Lane T → Type 0
LaneFits kept losses lane = Fits kept losses lane.seated

-- some turns of the application
abbrev pub LaneGoes : {T : Type 0} → (T → ℕ → Option (List ℕ)) → (T → ShelfCounts) → Lane T → Lane T → Type 0
LaneGoes kept losses was now = SeatedGoes kept losses was.seated now.seated

abbrev pub LanesFit : {T : Type 0} → (T → ℕ → Option (List ℕ)) → (T → ShelfCounts) → List (Lane T) → Type 0
LanesFit kept losses lanes = All (LaneFits kept losses) lanes

abbrev pub LanesGo : {T : Type 0} → (T → ℕ → Option (List ℕ)) → (T → ShelfCounts) → List (Lane T) → List (Lane T) → Type 0
LanesGo kept losses was now = AllGo (LaneGoes kept losses) was now

-- ---- seats

-- the lanes of the applications from a number on, in order, none of which has done anything
abbrev pub AreAtOpening : {T : Type 0} → TheBoard → ℕ → List (Lane T) → Type 0
AreAtOpening board number [] = ⊤
AreAtOpening board number (lane ∷ lanes) =
    (seat_of lane.seated ≡ record { board = board; side = new_app board.setting number }) × AreAtOpening board (suc number) lanes

abbrev pub AreAtBoard : {T : Type 0} → TheBoard → List (Lane T) → Type 0
AreAtBoard board lanes = All (λ lane. (seat_of lane.seated).board ≡ board) lanes

-- Each is at this board, its application has left, and all that it had to do is done.
pub record AreDone {T : Type 0} (board : TheBoard) (lanes : List (Lane T)) : Type 0 where
  pub at : AreAtBoard board lanes
  pub left : All (λ lane. (seat_of lane.seated).side.view.left ≡ true) lanes
  pub gone : All (λ lane. is_gone lane.seated ≡ true) lanes

-- ---- the desk

-- It is this board's, and no application has its seat yet.
pub record HasTheSeats (desk : TheDesk) (board : TheBoard) : Type 0 where
  pub of_board : desk.board ≡ board
  pub free : (a : ℕ) → was_given desk (1 + a) ≡ false

-- It gave seats out: it is this board's, and what is back is what was.
pub record GaveSeats (old new : TheDesk) (board : TheBoard) : Type 0 where
  pub of_board : new.board ≡ board
  pub nics : new.view.nics ≡ old.view.nics
  pub apps : new.view.apps ≡ old.view.apps

-- What is back is of its board, and the card was served by all that are.
pub record IsServedAndKnown (desk : TheDesk) : Type 0 where
  pub served : AreServed desk.view
  pub known : AreOfBoard desk.board.setting desk.view

-- No application's seat is back.
pub record AwaitsApps (desk : TheDesk) : Type 0 where
  pub apps : desk.view.apps ≡ []
  pub order : IsServedAndKnown desk

-- The seats of these applications are back, and else it is as it was.
pub record TookApps (old new : TheDesk) (sides : List AppSide) : Type 0 where
  pub board : new.board ≡ old.board
  pub nics : new.view.nics ≡ old.view.nics
  pub apps : new.view.apps ≡ sides
  pub order : IsServedAndKnown new
