use Rattle.std.proofs.Common.{rules, ◌≡◌, subst}
use Rattle.board_face.specs.{AppEvents.{came_to_rest}, declared.views.app.AppView.{AppView}}
use Rattle.flow_queues.{specs.{Core.{HoldsApart, LieApart, lent_piece, is_copy}, Lent.{MayLendNext, IsBacked, LentNext}}, proofs.Copying.{from-rest}}
use Rattle.flow_queues.proofs.lending.lend_next.Goals as goal

pub returns-then-not-is_short-clause-lends : goal.returns-then-not-is_short-clause-lends
returns-then-not-is_short-clause-lends g c =
    let v : AppView = g.F.AppFace.seen c.args.face.now in
    let w : AppView = g.F.AppFace.seen c.lend_piece.new.face in
    let view : g.F.AppFace.seen c.settle.new.self ≡ came_to_rest v = search rules in
    let lent : LentNext (came_to_rest v) w c.args.own.now c.lend_piece.new.own c.lend_piece.result
    × (is_copy (lent_piece v.taken c.lend_piece.result) ≡ 0) =
    subst (λ (x : AppView). LentNext x w c.args.own.now c.lend_piece.new.own c.lend_piece.result
    × (is_copy (lent_piece x.taken c.lend_piece.result) ≡ 0)) view c.lend_piece.ensures.lent in
    (from-rest v w c.args.own.now c.lend_piece.new.own c.lend_piece.result lent.0, lent.1)

pub returns-in-Some-lend_copy-clause-lends : goal.returns-in-Some-lend_copy-clause-lends
returns-in-Some-lend_copy-clause-lends g c =
    let v : AppView = g.F.AppFace.seen c.args.face.now in
    let w : AppView = g.F.AppFace.seen c.lend_copy.new.face in
    let view : g.F.AppFace.seen c.settle.new.self ≡ came_to_rest v = search rules in
    let lent : LentNext (came_to_rest v) w c.args.own.now c.lend_copy.new.own c.in-Some-lend_copy.lending
    × (is_copy (lent_piece v.taken c.in-Some-lend_copy.lending) ≡ 1) =
    subst (λ (x : AppView). LentNext x w c.args.own.now c.lend_copy.new.own c.in-Some-lend_copy.lending
    × (is_copy (lent_piece x.taken c.in-Some-lend_copy.lending) ≡ 1)) view c.in-Some-lend_copy.ensures.lent in
    (from-rest v w c.args.own.now c.lend_copy.new.own c.in-Some-lend_copy.lending lent.0, lent.1)

pub lend_copy-requires-clause-can : goal.lend_copy-requires-clause-can
lend_copy-requires-clause-can g c =
    let view : g.F.AppFace.seen c.settle.new.self ≡ came_to_rest (g.F.AppFace.seen c.args.face.now) = search rules in
    let can : MayLendNext (g.F.AppFace.seen c.args.face.now) = c.requires.can in
    let apart : LieApart (g.F.AppFace.seen c.args.face.now) = can.holds.apart in
    rw view (record {
      holds = record { here = can.holds.here; apart = record { once = apart.once; some = apart.some } };
      counted = can.counted;
      owns = can.owns;
    })

pub lend_copy-requires-clause-backed : goal.lend_copy-requires-clause-backed
lend_copy-requires-clause-backed g c =
    let view : g.F.AppFace.seen c.settle.new.self ≡ came_to_rest (g.F.AppFace.seen c.args.face.now) = search rules in
    let backed : IsBacked (g.F.AppFace.seen c.args.face.now) c.args.own.now.queue = c.requires.backed in
    rw view (record { notes = backed.notes; sized = backed.sized; spare = backed.spare })

pub lend_piece-requires-clause-holds : goal.lend_piece-requires-clause-holds
lend_piece-requires-clause-holds g c =
    let view : g.F.AppFace.seen c.settle.new.self ≡ came_to_rest (g.F.AppFace.seen c.args.face.now) = search rules in
    let holds : HoldsApart (g.F.AppFace.seen c.args.face.now) = c.requires.can.holds in
    rw view (record { here = holds.here; apart = record { once = holds.apart.once; some = holds.apart.some } })

pub lend_piece-requires-clause-notes : goal.lend_piece-requires-clause-notes
lend_piece-requires-clause-notes g c =
    let view : g.F.AppFace.seen c.settle.new.self ≡ came_to_rest (g.F.AppFace.seen c.args.face.now) = search rules in
    rw view (c.requires.backed.notes)
