use Rattle.std.proofs.Common.{rules, ◌≡◌, subst}
use Rattle.tcp_reorder.specs.Gaps.{LosesFirst}
use Rattle.board_face.specs.declared.views.app.AppView.{AppView}
use Rattle.flow_queues.specs.{declared.queues.{NotePiece.{NotePiece}, Waiting.{Waiting, TheVariants.{InArea}}}, Core.{IsIn, IsInArea, IsOfNote, held_piece}}
use Rattle.flow_queues.proofs.{Tokens.{in-contains}, Lends.{each-first, first-out}, Copying.{piece-lent}}
use Rattle.flow_queues.proofs.lending.lend_piece.Goals as goal

pub lend-loan-requires-clause-out : goal.lend-loan-requires-clause-out
lend-loan-requires-clause-out g c =
    let v : AppView = g.F.AppFace.seen c.args.face.now in
    let p : NotePiece = c.in-InArea.piece in
    let is : c.in-Some.waiting ≡ InArea p = search rules in
    let loses : LosesFirst c.args.own.now.queue c.pop_front.new.self (InArea p) c.in-Some.field-0-1 = subst
    (λ (x : Waiting). LosesFirst c.args.own.now.queue c.pop_front.new.self x c.in-Some.field-0-1) is c.in-Some.ensures.popped in
    let out : IsIn (held_piece p) v.helds = first-out v c.args.own.now.queue c.pop_front.new.self p c.in-Some.field-0-1 loses c.requires.out in
    in-contains (λ h. h.place) (held_piece p) v.helds out

pub returns-clause-lent : goal.returns-clause-lent
returns-clause-lent g c =
    let v : AppView = g.F.AppFace.seen c.args.face.now in
    let w : AppView = g.F.AppFace.seen c.lend-loan.new.self in
    let p : NotePiece = c.in-InArea.piece in
    let is : c.in-Some.waiting ≡ InArea p = search rules in
    let loses : LosesFirst c.args.own.now.queue c.pop_front.new.self (InArea p) c.in-Some.field-0-1 = subst
    (λ (x : Waiting). LosesFirst c.args.own.now.queue c.pop_front.new.self x c.in-Some.field-0-1) is c.in-Some.ensures.popped in
    let of : IsInArea v.taken p = (each-first (IsOfNote v.taken) c.args.own.now.queue c.pop_front.new.self (InArea p) c.in-Some.field-0-1 loses
    c.requires.notes).0 in
    let out : IsIn (held_piece p) v.helds = first-out v c.args.own.now.queue c.pop_front.new.self p c.in-Some.field-0-1 loses c.requires.out in
    piece-lent v w c.args.own.now c.pop_front.new.self c.in-Some.field-0-1 (search rules) c.requires.next.some c.requires.settled c.requires.holds.apart c.lend-loan.result p loses
    of out c.lend-loan.ensures.view c.lend-loan.ensures.place
