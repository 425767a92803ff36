-- The log of a run's board.
use Rattle.std.specs.Prelude.{◌≡◌, ℕ, if◌then◌else◌}
use Rattle.zr_kinds.specs.Setting.{most_events}
use Rattle.plain_board.specs.{Board.{Board, sides_of, stand_of}, Recorded.{IsRecorded}, Sound.{IsSound}}
use Rattle.card_feed.specs.declared.plan.Plan.{Plan}

-- it has room for so many events where the plan asks for a log, and for none else
abbrev pub log_room_of : Plan → ℕ
log_room_of plan = if plan.options.events then most_events else 0

-- The board that a run of this plan leaves is sound, and its log tells of it.
pub record LeavesBoard (plan : Plan) (board : Board) : Type 0 where
  pub sound : IsSound (stand_of board)
  pub recorded : IsRecorded (sides_of board) board.log
  pub room : board.log.room ≡ log_room_of plan
