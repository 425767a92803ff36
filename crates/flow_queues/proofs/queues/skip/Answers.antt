use Rattle.std.proofs.Common.{◌<◌, arith}
use Rattle.board_face.specs.{AppEvents.{cut}, declared.views.app.{AppView.{AppView}, HeldPiece.{HeldPiece}}}
use Rattle.flow_queues.{specs.Core.{held_piece}, proofs.{Tokens.{in-contains, is-cut, front}, Pieces.{skipped}}}
use Rattle.flow_queues.proofs.queues.skip.Goals as goal

pub cut-front-requires-clause-out : goal.cut-front-requires-clause-out
cut-front-requires-clause-out g c = in-contains (λ h. h.place) (held_piece c.args.piece) (g.F.AppFace.seen c.args.face.now).helds c.requires.out

pub release-requires-clause-out : goal.release-requires-clause-out
release-requires-clause-out g c =
    let v : AppView = g.F.AppFace.seen c.args.face.now in
    let h : HeldPiece = held_piece c.args.piece in
    let some : 0 < c.args.n = omega (arith, c.if-n-eq0.false) in
    let is = is-cut v c.requires.holds.apart h c.args.n c.requires.out some c.requires.part in
    rw (c.cut-front.ensures.view, c.cut-front.ensures.places.0)
    (in-contains (λ h. h.place) (front v c.requires.holds.apart h c.args.n) (cut v h.place c.args.n).helds is.front_out)

pub returns-clause-gave : goal.returns-clause-gave
returns-clause-gave g c =
    let v : AppView = g.F.AppFace.seen c.args.face.now in
    let some : 0 < c.args.n = omega (arith, c.if-n-eq0.false) in
    rw (c.release.ensures.view, c.cut-front.ensures.view, c.cut-front.ensures.places.0, c.cut-front.ensures.places.1)
    (skipped v c.requires.holds.apart c.args.piece c.args.n c.requires.out some c.requires.part)
