-- What the turns of a run come to, once all is over at its board.
use Rattle.std.specs.Prelude.{◌≡◌, List}
use Rattle.board_face.specs.{Ended.{HaveEnded}, declared.views.{nic.NicSide.{NicSide}, app.AppSide.{AppSide}}}
use Rattle.flow_queues.specs.Ends.{AppEnd}
use Rattle.card_feed.specs.{Feed.{FeedState, fault_of_stage}, declared.{outcome.Outcome.{Outcome}, plan.Plan.{Plan}}}
use Rattle.run_account.specs.{Ran.{Ran, TellsOfEnds, Told, told_of}, Running.{HasRun}, Views.{Ends, Streams}}

-- The outcome that is told is that of the run.
abbrev pub RunsEndWell : {S T : Type 0} → Streams S T → Type 0
RunsEndWell m =
    (was now : Ends m) (plan : Plan) (nic : NicSide) (apps : List AppSide) (feed : FeedState)
    (ends : List AppEnd) (outcome : Outcome)
    → HaveEnded nic apps → HasRun was now plan nic apps feed ends
    → TellsOfEnds feed ends plan.ports.items outcome → Ran was now plan (told_of outcome) nic apps

-- There is something to tell of the run, whether there is memory for it or not, and what ended the reading is as the feed has it.
abbrev pub RunsAreTold : {S T : Type 0} → Streams S T → Type 0
RunsAreTold m =
    (was now : Ends m) (plan : Plan) (nic : NicSide) (apps : List AppSide) (feed : FeedState)
    (ends : List AppEnd)
    → HaveEnded nic apps → HasRun was now plan nic apps feed ends
    → (told : Told) × (told.end ≡ fault_of_stage feed.stage) × Ran was now plan told nic apps
