-- What stays of a stream and its face.
use Rattle.std.specs.Prelude.{◌≡◌}
use Rattle.board_face.specs.declared.views.app.AppView.{AppView}
use Rattle.zc_poll.specs.{Standing.{Desk, StreamStands}, Streaming.{Streaming}}

-- It is the same application at the same board.
pub record SameSeat {F B : Type 0} (seen : F → AppView) (beside : F → B) (was now : F) : Type 0 where
  pub app : (seen now).app ≡ (seen was).app
  pub board : beside now ≡ beside was

-- The stream stands. What it keeps is as it was, and its face is at the same board.
pub record DeskStays {F B : Type 0} (seen : F → AppView) (beside : F → B) (was now : Streaming F) : Type 0 where
  pub stands : StreamStands now.desk (seen now.face)
  pub desk : now.desk ≡ was.desk
  pub board : beside now.face ≡ beside was.face

abbrev pub streaming : {F : Type 0} → F → Desk → Streaming F
streaming face desk = record { face = face; desk = desk }
