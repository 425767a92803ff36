-- What is out stays with the sender.
use Rattle.std.specs.Prelude.{◌≡◌, length}
use Rattle.board_race.specs.Halves.{IsSender}
use Rattle.board_race.proofs.card.send_all.Given as goal

abbrev pub invariant-loop : goal.invariant-loop
invariant-loop g l =
    IsSender (g.F.NicFace.seen l.face) l.sender.own l.sender.piece
    × (length l.text ≡ length l.fn.text)
    × (g.F.NicFace.beside l.face ≡ g.F.NicFace.beside l.fn.face)
