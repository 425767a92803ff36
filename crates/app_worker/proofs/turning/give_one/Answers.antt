use Rattle.std.proofs.Common.{rules, ◌≡◌, ◌≢◌, ◌≤◌, refl, subst, ◌++◌, ◌∙◌, Some, length}
use Rattle.board_face.specs.{AppEvents.{reserve_of}, declared.views.app.AppView.{AppView}}
use Rattle.flow_queues.specs.declared.queues.Lending.{Lending}
use Rattle.app_worker.{specs.{Steps.{KeptDue, NotKept, Given}, State.{State}, StateOf.{state_of}}, proofs.{LoansStand.{due-out}, Giving.{given-left, kept-left}}}
use Rattle.app_worker.proofs.turning.give_one.Goals as goal

pub give_due-requires-clause-out : goal.give_due-requires-clause-out
give_due-requires-clause-out g c =
    let st : State = state_of c.args.st.now in
    let not : NotKept c.reserve-reserve.result st.how.leak st.due c.keep_due.new.due st.leaked c.keep_due.new.leaked = search rules in
    rw not.due
    (due-out st.notes st.flows (st.unread ++ st.posted.entries) st.due st.leaked.items (g.F.AppFace.seen c.args.face.now) c.requires.works.working.stands)

pub returns-then-keep_due : goal.returns-then-keep_due
returns-then-keep_due g c =
    let st : State = state_of c.args.st.now in
    let v : AppView = g.F.AppFace.seen c.args.face.now in
    let is : c.reserve-reserve.result ≡ reserve_of v = c.reserve-reserve.ensures.value in
    let kept : KeptDue c.reserve-reserve.result st.how.leak st.due c.keep_due.new.due st.leaked c.keep_due.new.leaked = search rules in
    let left = kept-left st c.keep_due.new.due c.keep_due.new.leaked v
    (subst (λ n. KeptDue n st.how.leak st.due c.keep_due.new.due st.leaked c.keep_due.new.leaked) is kept) c.requires.works.working c.requires.works.common in
    record {
      works = left.0;
      gives = left.1;
      told = λ no. absurd (cc);
      beside = refl;
    }

pub returns : goal.returns
returns g c =
    let st : State = state_of c.args.st.now in
    let v : AppView = g.F.AppFace.seen c.args.face.now in
    let is : c.reserve-reserve.result ≡ reserve_of v = c.reserve-reserve.ensures.value in
    let not : NotKept c.reserve-reserve.result st.how.leak st.due c.keep_due.new.due st.leaked c.keep_due.new.leaked = search rules in
    let step : Given st.how.stray v (g.F.AppFace.seen c.give_due.new.face) st.due c.give_due.new.due st.stray
    c.give_due.new.stray c.give_due.result = subst
    (λ d. Given st.how.stray v (g.F.AppFace.seen c.give_due.new.face) d c.give_due.new.due st.stray c.give_due.new.stray c.give_due.result) not.due
    c.give_due.ensures.given in
    let enough : (l : Lending) → st.due ≡ Some l → l.loan.buffer ≢ reserve_of v → st.how.leak ≤ length st.leaked.items =
    λ l due aside. not.enough l due (λ e. aside (e ∙ is)) in
    let given = given-left st st.due c.give_due.new.due c.give_due.new.stray v (g.F.AppFace.seen c.give_due.new.face) c.give_due.result refl step enough
    c.requires.works.working
    c.requires.works.common in
    rw not.same (assumption given)
