-- The lanes that are left, and that all others are back.
use Rattle.std.specs.Prelude.{◌≡◌, length}
use Rattle.board_face.specs.NicCalls.{apps_of}
use Rattle.board_race.specs.Lanes.{AreAt, SayLeft, AreBackFrom}
use Rattle.board_race.proofs.threads.all_back.Given as goal

abbrev pub invariant-loop-lane : goal.invariant-loop-lane
invariant-loop-lane l =
    AreAt l.fn.desk.board l.lanes.items
    × SayLeft l.lanes.items
    × (l.desk.board ≡ l.fn.desk.board)
    × (length l.desk.view.nics ≡ 1)
    × AreBackFrom (length l.lanes.items) (apps_of l.fn.desk.board.setting) l.desk.view

abbrev pub decreases-loop-lane : goal.decreases-loop-lane
decreases-loop-lane l = length l.lanes.items
