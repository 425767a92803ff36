use Rattle.std.proofs.Common.{rules, ◌≡◌, Some}
use Rattle.flow_queues.{specs.Core.{held_piece}, proofs.{Tokens.{in-contains}, Pieces.{given-up}}}
use Rattle.flow_queues.proofs.queues.give_up.Goals as goal

pub release-requires-clause-out : goal.release-requires-clause-out
release-requires-clause-out g c = in-contains (λ h. h.place) (held_piece c.in-Some.piece) (g.F.AppFace.seen c.args.face.now).helds (search rules)

pub returns-in-Some-clause-only : goal.returns-in-Some-clause-only
returns-in-Some-clause-only g c =
    let is : c.args.piece ≡ Some c.in-Some.piece = search rules in
    rw (c.release.ensures.view, is) (given-up (g.F.AppFace.seen c.args.face.now) c.requires.holds.apart c.in-Some.piece (search rules))
