-- What the card has out stays.
use Rattle.std.specs.Prelude.{◌≡◌}
use Rattle.board_race.specs.Halves.{IsSenderWith}
use Rattle.board_race.proofs.card.count_left.Given as goal

abbrev pub invariant-loop-app : goal.invariant-loop-app
invariant-loop-app g l =
    IsSenderWith (g.F.NicFace.seen l.fn.face) (g.F.NicFace.seen l.face)
    × (g.F.NicFace.beside l.face ≡ g.F.NicFace.beside l.fn.face)
