-- Hands with nothing are those of a board that was just opened.
use Rattle.std.proofs.Common.{arith, rules, ◌≡◌}
use Rattle.board_runs.proofs.events.logs.Goals as goal

pub plain_rows-board-requires : goal.plain_rows-board-requires
plain_rows-board-requires g c =
    let one : c.in_ok-layout.layout.reserves ≡ 1 = search rules in
    rw (c.in_ok-board.ensures.board, one) record { few = omega arith; card = c.new-card.ensures _; app = c.new-app.ensures _ 0 }
