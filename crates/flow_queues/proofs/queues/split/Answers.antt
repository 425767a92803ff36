use Rattle.std.proofs.Common.{rules, ◌<◌}
use Rattle.board_face.specs.declared.views.app.AppView.{AppView}
use Rattle.flow_queues.{specs.Core.{held_piece}, proofs.{Tokens.{in-contains}, Pieces.{taken-off}}}
use Rattle.flow_queues.proofs.queues.split.Goals as goal

pub cut-front-requires-clause-out : goal.cut-front-requires-clause-out
cut-front-requires-clause-out g c = in-contains (λ h. h.place) (held_piece c.args.piece) (g.F.AppFace.seen c.args.face.now).helds c.requires.out

pub returns-clause-cut : goal.returns-clause-cut
returns-clause-cut g c =
    let v : AppView = g.F.AppFace.seen c.args.face.now in
    let below : c.args.n < c.args.piece.held.len = search rules in
    rw (c.cut-front.ensures.view, c.cut-front.ensures.places.0, c.cut-front.ensures.places.1)
    (taken-off v c.requires.holds.apart c.args.piece c.args.n c.requires.out c.requires.some below)
