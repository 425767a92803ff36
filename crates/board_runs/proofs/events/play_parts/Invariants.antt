-- Each hand is that of its role's side.
use Rattle.std.specs.Prelude.{◌<◌}
use Rattle.face_table.specs.{CardHand.{IsCardHand}, AppHand.{IsAppHand}}
use Rattle.plain_board.specs.Board.{side_of}
use Rattle.board_runs.proofs.events.play_parts.Given as goal

abbrev pub invariant-loop-count : goal.invariant-loop-count
invariant-loop-count g l = record {
  few : 0 < l.board.arrays.layout.reserves;
  card : IsCardHand l.board.nic.view l.card;
  app : IsAppHand (side_of l.board 0).view l.app;
}
