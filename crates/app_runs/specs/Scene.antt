-- The card and one application between two steps.
use Rattle.std.specs.Prelude.{◌≡◌, ◌<◌, Bool, false, true}
use Rattle.board_face.specs.AppCalls.{IsHere}
use Rattle.face_table.specs.{declared.card.CardHand.{CardHand}, CardHand.{IsCardHand}}
use Rattle.plain_board.specs.Board.{Board, side_of}
use Rattle.app_worker.specs.State.{State, AppStands}

-- There is an application. The hand fits the card's side and the state the application's, which is there until it has left.
pub record IsPlaying (board : Board) (hand : CardHand) (st : State) (left : Bool) : Type 0 where
  pub few : 0 < board.arrays.layout.reserves
  pub card : IsCardHand board.nic.view hand
  pub stands : AppStands st (side_of board 0).view
  pub here : left ≡ false → IsHere (side_of board 0).view
  pub gone : left ≡ true → (side_of board 0).view.left ≡ true
