-- What a run begins with, and all its turns: every role is back at the desk.
use Rattle.std.specs.Prelude.{◌≡◌, List, ◌++◌, length}
use Rattle.board_face.specs.{Ended.{HaveEnded}, NicCalls.{HasNoToken, IsOpen, apps_of}, declared.views.nic.NicView.{NicView}}
use Rattle.flow_queues.specs.Ends.{AppEnd}
use Rattle.card_feed.specs.{Feed.{FeedState, IsFeedReady, fault_of_stage, new_feed}, Plan.{layout_of}, declared.plan.Plan.{Plan}}
use Rattle.run_account.specs.{Ran.{HasReadOn, RanBeside, Told}, Running.{HasRun}, Views.{Ends, Streams, ends_at}}
use Rattle.word_board.specs.{Board.{TheBoard, TheDesk, card_of_seat, new_desk}, Desk.{AllAreBack}}
use Rattle.replay_threads.specs.{Seated.{AreStarts}, declared.seated.Start.{Start}}

-- The board is the plan's, and its desk gave nothing.
pub record IsOpenedFor (plan : Plan) (board : TheBoard) (desk : TheDesk) : Type 0 where
  pub desk_is : desk ≡ new_desk board
  pub setting : board.setting ≡ record { layout = layout_of plan; places = plan.options.ring }

-- The card begins with a feed that has read nothing, with which it is ready at each board on which nothing has happened, and each
-- application with what the plan says of it.
pub record BeginWith (plan : Plan) (feed : FeedState) (starts : List Start) : Type 0 where
  pub new : feed ≡ new_feed plan.ports.items plan.options.split
  pub ready : (v : NicView) → IsOpen v → HasNoToken v → length plan.ports.items ≡ apps_of v.setting → IsFeedReady feed v
  pub starts_are : AreStarts plan starts

-- All is over and back at the desk, and the plan was run to there: this is what the card keeps and the applications left with, whatever
-- shelves stand behind those of the applications.
pub record HasPlayed {S T : Type 0} {m : Streams S T} (was now : Ends m) (plan : Plan) (desk : TheDesk) (feed : FeedState)
    (ends : List AppEnd) : Type 0 where
  pub back : AllAreBack desk.board.setting desk.view
  pub ended : HaveEnded (card_of_seat desk.view) desk.view.apps
  -- the source as the ending of the reading left it
  pub at : S
  pub ahead : HasReadOn m.source at now.source (fault_of_stage feed.stage)
  pub runs : (more : List T) → HasRun (ends_at m was.source (was.shelves ++ more)) (ends_at m at (now.shelves ++ more)) plan
      (card_of_seat desk.view) desk.view.apps feed ends

-- The stream theorem, what the outcome says, and that all is over at the board and it accounts for the run. The board is the plan's, and
-- every role is back at its desk, so it may be finished.
pub record RanByThreads {S T : Type 0} {m : Streams S T} (was now : Ends m) (plan : Plan) (told : Told) (board : TheBoard) (desk : TheDesk)
    : Type 0 where
  pub beside : RanBeside was now plan told (card_of_seat desk.view) desk.view.apps
  pub setting : board.setting ≡ record { layout = layout_of plan; places = plan.options.ring }
  pub desk_is : desk.board ≡ board
  pub back : AllAreBack board.setting desk.view
