use Rattle.std.proofs.Common.{true, None, ◌∙◌, refl}
use Rattle.app_worker.{specs.{State.{State}, StateOf.{state_of}}, proofs.BareLemmas.{bare-apart, bare-finished, bare-not-quiet, out-ended, then-nothing, then-done}}
use Rattle.app_worker.{proofs.{Closing.{turns-finished, turns-not-quiet}, TurnLemmas.{idle-for}}, specs.{Turns.{look_of}, declared.turn.Why.TheVariants.{NotQuiet}}}
use Rattle.board_face.specs.{AppEvents.{app_gist}, declared.views.app.AppLook.TheVariants.{NotQuiet as slot_in_use}}
use Rattle.app_worker.proofs.working.bare_turn.Goals as goal

pub returns-then-leave-clause-turns : goal.returns-then-leave-clause-turns
returns-then-leave-clause-turns g c = λ kept faults. bare-finished (state_of c.args.st.now)
    (g.F.AppFace.seen c.args.face.now) c.requires.bare c.requires.is_bare c.requires.common c.requires.reaped
    (g.F.AppFace.seen c.leave.new.face) kept faults c.leave.new.scrubbed c.requires.here c.if-st.true c.if-leave.ensures.leaves

pub returns-else-leave-clause-turns : goal.returns-else-leave-clause-turns
returns-else-leave-clause-turns g c = λ kept faults. bare-not-quiet (state_of c.args.st.now)
    (g.F.AppFace.seen c.args.face.now) c.requires.bare c.requires.is_bare c.requires.common c.requires.reaped
    (g.F.AppFace.seen c.leave.new.face) kept faults c.leave.new.scrubbed c.if-st.true c.if-leave.ensures.leaves

pub returns-else-leave-clause-told : goal.returns-else-leave-clause-told
returns-else-leave-clause-told g c =
    let saw = c.if-leave.ensures.leaves.1 in
    idle-for NotQuiet (λ why. g.F.AppFace.tells (look_of why) (app_gist (g.F.AppFace.seen c.leave.new.face)) (g.F.AppFace.beside c.leave.new.face))
    (rw (saw.event, c.leave.ensures.beside) ((c.if-leave.ensures.held refl).told slot_in_use saw.rose))

pub pass_note-requires-clause-holds : goal.pass_note-requires-clause-holds
pass_note-requires-clause-holds g c = record { here = c.requires.here; apart = bare-apart _ c.requires.bare.helds c.requires.bare.loans }

pub returns-then-leave-2-clause-turns : goal.returns-then-leave-2-clause-turns
returns-then-leave-2-clause-turns g c = λ kept faults.
    let st : State = state_of c.args.st.now in
    turns-finished st (record st { ended = true }) (g.F.AppFace.seen c.args.face.now) (g.F.AppFace.seen c.pass_note.new.face)
    (g.F.AppFace.seen c.leave-in_default.new.face) kept kept faults faults c.leave-in_default.new.scrubbed
    (out-ended st (g.F.AppFace.seen c.args.face.now) c.requires.bare c.requires.is_bare c.requires.common c.requires.reaped
    (g.F.AppFace.seen c.pass_note.new.face) kept c.requires.here c.if-st.false c.in_default.ensures.passes).0 c.if-leave-2.ensures.leaves

pub returns-else-leave-2-clause-turns : goal.returns-else-leave-2-clause-turns
returns-else-leave-2-clause-turns g c = λ kept faults.
    let st : State = state_of c.args.st.now in
    let out = out-ended st (g.F.AppFace.seen c.args.face.now) c.requires.bare c.requires.is_bare c.requires.common c.requires.reaped
    (g.F.AppFace.seen c.pass_note.new.face) kept c.requires.here c.if-st.false c.in_default.ensures.passes in
    turns-not-quiet st (record st { ended = true }) (g.F.AppFace.seen c.args.face.now) (g.F.AppFace.seen c.pass_note.new.face)
    (g.F.AppFace.seen c.leave-in_default.new.face) kept kept faults faults c.leave-in_default.new.scrubbed out.0 out.1 c.if-leave-2.ensures.leaves

pub returns-then-st-2-clause-turns : goal.returns-then-st-2-clause-turns
returns-then-st-2-clause-turns g c = λ kept faults.
    let passed = c.in-Some.ensures.passes (state_of c.args.st.now) kept faults c.requires.bare c.requires.is_bare c.requires.common c.if-st.false in
    then-nothing _ _ _ _ _ _ c.requires.is_bare c.requires.reaped passed (c.requires.common.scrubbed ∙ c.if-st-2.true)

pub scrub-did-requires : goal.scrub-did-requires
scrub-did-requires g c =
    let passed = c.in-Some.ensures.passes (state_of c.args.st.now) (λ _. None) 0 c.requires.bare c.requires.is_bare c.requires.common c.if-st.false in
    record { may = record { here = passed.here ∙ c.requires.here; loans = passed.bare.loans; known = passed.common.scrubbed } }

pub returns-clause-turns : goal.returns-clause-turns
returns-clause-turns g c = λ kept faults.
    let passed = c.in-Some.ensures.passes (state_of c.args.st.now) kept faults c.requires.bare c.requires.is_bare c.requires.common c.if-st.false in
    rw c.after.ensures (then-done _ _ _ _ _ _ c.requires.is_bare c.requires.reaped passed (g.F.AppFace.seen c.scrub-did.new.face)
    c.scrub-did.new.scrubbed c.scrub-did.result c.if-st-2.false c.scrub-did.ensures.scrubs)
