-- The held piece that was lent was the only one.
use Rattle.std.proofs.Common.{refl}
use Rattle.board_face.proofs.ListLemmas.{places-without_first}
use Rattle.board_race.proofs.app.Receiver.read_held.Goals as goal
use Rattle.zr_kinds.proofs.Lists.{map-none}

pub returns-clause-hand : goal.returns-clause-hand
returns-clause-hand g c =
    rw (c.read.ensures.view, c.lend-loan.ensures.view, c.lend-loan.ensures.place) (record {
      here = c.requires.here;
      settled = c.requires.settled;
      counted = c.requires.counted;
      helds = map-none (λ h. h.place) _ (places-without_first (λ h. h.place) _ _ _ c.requires.helds);
      owns = c.requires.owns;
      loans = rw c.requires.loans refl;
    })
