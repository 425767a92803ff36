use Rattle.std.proofs.Common.{◌≡◌, [], ap}
use Rattle.zr_kinds.specs.declared.ring.Completion.{Completion}
use Rattle.circular_buffer.specs.Buffer.{Buffer}
use Rattle.flow_queues.specs.declared.queues.Lending.{Lending}
use Rattle.app_worker.{specs.StateOf.{state_of}, proofs.Emptied.{gone-all, unread-out, due-still-out, leaked-still-out}}
use Rattle.app_worker.proofs.letting.let_go.Goals as goal

pub abandon_all-requires-clause-out : goal.abandon_all-requires-clause-out
abandon_all-requires-clause-out g c = unread-out (state_of c.args.st.now) (g.F.AppFace.seen c.args.face.now) c.requires.may.torn

pub abandon_due-requires-clause-out : goal.abandon_due-requires-clause-out
abandon_due-requires-clause-out g c = due-still-out (state_of c.args.st.now) (g.F.AppFace.seen c.args.face.now)
    (g.F.AppFace.seen c.abandon_all.new.face) c.requires.may.torn c.abandon_all.ensures.abandons

pub abandon_leaked-requires-clause-out : goal.abandon_leaked-requires-clause-out
abandon_leaked-requires-clause-out g c = leaked-still-out (state_of c.args.st.now) (g.F.AppFace.seen c.args.face.now)
    (g.F.AppFace.seen c.abandon_all.new.face) (g.F.AppFace.seen c.abandon_due.new.face) c.requires.may.torn c.abandon_all.ensures.abandons
    c.abandon_due.ensures.abandons

pub returns-clause-done : goal.returns-clause-done
returns-clause-done g c =
    let items : c.abandon_all.new.unread.items ≡ [] = ap (λ (b : Buffer (Completion × Lending)). b.items) c.abandon_all.ensures.empty in
    let capacity : c.abandon_all.new.unread.capacity ≡ c.args.st.now.reader.unread.capacity = ap
    (λ (b : Buffer (Completion × Lending)). b.capacity) c.abandon_all.ensures.empty in
    rw (items, capacity, c.abandon_due.ensures.none, c.abandon_leaked.ensures.empty) (gone-all (state_of c.args.st.now) c.release_all.new.flows.items
    (g.F.AppFace.seen c.args.face.now)
    (g.F.AppFace.seen c.abandon_all.new.face) (g.F.AppFace.seen c.abandon_due.new.face)
    (g.F.AppFace.seen c.abandon_leaked.new.face) (g.F.AppFace.seen c.release_all.new.face)
    c.requires.may.reaped c.requires.may.not_yet c.requires.may.pushed c.requires.may.torn c.requires.may.common c.abandon_all.ensures.abandons c.abandon_due.ensures.abandons
    c.abandon_leaked.ensures.abandons
    c.release_all.ensures.released)
