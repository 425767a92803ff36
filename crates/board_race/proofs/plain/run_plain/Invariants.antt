-- Each half has out what its side says.
use Rattle.std.specs.Prelude.{◌≡◌, ◌<◌, length}
use Rattle.board_race.specs.Halves.{IsSender, IsReceiver}
use Rattle.plain_board.specs.Board.{side_of}
use Rattle.board_race.proofs.plain.run_plain.Given as goal

abbrev pub invariant-loop : goal.invariant-loop
invariant-loop l =
    IsSender l.board.nic.view l.sender.own l.sender.piece
    × IsReceiver (side_of l.board 0).view l.receiver.loan
    × (0 < l.board.arrays.layout.reserves)
    × (length l.text.items ≡ l.plan.bytes)
