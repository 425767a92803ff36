-- What is out stays with the receiver.
use Rattle.std.specs.Prelude.{◌<◌}
use Rattle.board_race.specs.Halves.{IsReceiver}
use Rattle.plain_board.specs.Board.{side_of}
use Rattle.board_race.proofs.plain.end_turns.Given as goal

abbrev pub invariant-loop : goal.invariant-loop
invariant-loop l =
    IsReceiver (side_of l.board 0).view l.receiver.loan
    × (0 < l.board.arrays.layout.reserves)
