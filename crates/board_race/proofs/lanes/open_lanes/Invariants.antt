-- The lanes so far, and a desk that took nothing back.
use Rattle.std.specs.Prelude.{◌≡◌}
use Rattle.board_race.specs.Lanes.{AreReady}
use Rattle.board_race.proofs.lanes.open_lanes.Given as goal

abbrev pub invariant-loop-app : goal.invariant-loop-app
invariant-loop-app l =
    AreReady l.board l.app l.lanes.items
    × (l.desk.board ≡ l.board)
    × (l.desk.view.nics ≡ l.fn.desk.view.nics)
    × (l.desk.view.apps ≡ l.fn.desk.view.apps)
