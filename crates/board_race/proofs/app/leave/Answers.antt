-- Quiet and with nothing out it can scrub, and then leave.
use Rattle.std.proofs.Common.{rules, ◌≡◌, []}
use Rattle.board_race.proofs.app.leave.Goals as goal
use Rattle.zr_kinds.proofs.Lists.{map-none}

pub scrub-requires-clause-can : goal.scrub-requires-clause-can
scrub-requires-clause-can g c =
    let none : (g.F.AppFace.seen c.loop.face).loans ≡ [] = map-none (λ l. l.place) _ c.loop.invariant.0.loans in
    record {
      quiet = search rules;
      loans = search rules;
      counted = search rules;
    }

pub leave-requires-clause-can : goal.leave-requires-clause-can
leave-requires-clause-can g c =
    let none : (g.F.AppFace.seen c.loop.face).loans ≡ [] = map-none (λ l. l.place) _ c.loop.invariant.0.loans in
    record {
      scrubbed = search rules;
      ended = search rules;
      helds = search rules;
      loans = search rules;
      spares = search rules;
    }
