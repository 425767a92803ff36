use Rattle.board_face.specs.declared.views.app.AppView.{AppView}
use Rattle.app_worker.specs.{declared.turn.Why.TheVariants.{Unsettled}, State.{State}, StateOf.{state_of}}
use Rattle.app_worker.proofs.{TurnLemmas.{turns-did, turns-saw, turns-no-spare, turns-first}, LentAll.{caught-up, leaves-none, no-next}}
use Rattle.app_worker.proofs.working.go_on.Goals as goal

pub returns-in-Did-clause-turns : goal.returns-in-Did-clause-turns
returns-in-Did-clause-turns g c =
    let a : State = state_of c.args.st.now in
    let lends = c.in-Did.ensures.lends in
    turns-did c.requires.may.none.works.working.live lends.0 lends.1 lends.2 lends.4
    (λ _ rest. absurd (no-next a rest lends.3))

pub returns-in-Stuck-clause-turns : goal.returns-in-Stuck-clause-turns
returns-in-Stuck-clause-turns g c =
    let a : State = state_of c.args.st.now in
    let u : AppView = g.F.AppFace.seen c.args.face.now in
    let lends = c.in-Stuck.ensures.lends in
    turns-saw Unsettled lends.0 lends.1 lends.2 c.requires.may.none.works.working c.requires.may.none.works.common c.requires.may.none.reaped
    (caught-up a u c.requires.may.none.works.working c.requires.may.none.due c.requires.may.none.pushed c.requires.may.none.reaped c.requires.may.few c.requires.may.flush, lends.3)
    (leaves-none a u (g.F.AppFace.seen c.lend_all.new.face) c.requires.may.none.due c.requires.may.none.pushed c.requires.may.flush)

pub returns-in-NoSpare-clause-turns : goal.returns-in-NoSpare-clause-turns
returns-in-NoSpare-clause-turns g c =
    let a : State = state_of c.args.st.now in
    let u : AppView = g.F.AppFace.seen c.args.face.now in
    let lends = c.in-NoSpare.ensures.lends in
    turns-no-spare lends.0 lends.1 lends.2 c.requires.may.none.works.working c.requires.may.none.works.common c.requires.may.none.reaped
    (caught-up a u c.requires.may.none.works.working c.requires.may.none.due c.requires.may.none.pushed c.requires.may.none.reaped c.requires.may.few c.requires.may.flush, lends.3)
    (leaves-none a u (g.F.AppFace.seen c.lend_all.new.face) c.requires.may.none.due c.requires.may.none.pushed c.requires.may.flush)

pub returns-in-Nothing-clause-turns : goal.returns-in-Nothing-clause-turns
returns-in-Nothing-clause-turns g c =
    turns-first c.in-Nothing.ensures.lends.0 c.lend_all.ensures.went.later c.look.ensures.turns
