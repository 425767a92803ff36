-- What a turn makes, by what the turn of the stack says and what stands of an application after any turn.
use Rattle.std.proofs.Common.{rules, subst}
use Rattle.board_face.specs.declared.views.app.AppView.{AppView}
use Rattle.app_worker.specs.{State.{State}, StateOf.{state_of}, Turns.{AnswersTurn}, declared.turn.Turn.TheVariants.{Finished}}
use Rattle.app_worker.proofs.{StreamLemmas.{stands-fronts, stands-failed, stands-all, stands-within}, TurnLemmas.{turns-keep}, FlowBytes.{stands-counted}}
use Rattle.app_worker.proofs.{Counts.{copies-few, copies-within, loans-few, written-within}, ReadMarks.{given-read}}
use Rattle.app_worker.proofs.state.app_turn.Goals as goal

pub returns-clause-makes : goal.returns-clause-makes
returns-clause-makes g c =
    let a : State = state_of c.st.inside.stack in
    let e : State = state_of c.turn.new.st in
    let u : AppView = g.F.AppFace.seen c.args.face.now in
    let w : AppView = g.F.AppFace.seen c.turn.new.face in
    let kept = g.T.Shelf.kept c.turn.new.shelf in
    let faults = (g.T.Shelf.counts c.args.shelf.now).faults in
    let faults_now = (g.T.Shelf.counts c.turn.new.shelf).faults in
    let turns = c.turn.ensures.turns in
    let stands = turns.stands in
    rw (← c.st.view_is) (record {
      turns = turns;
      shows = record {
        fronts = λ first whole shelved. stands-fronts first kept e w stands whole shelved;
        failed = λ first whole shelved. stands-failed first kept e w stands whole shelved;
        counted = λ first shelved. stands-counted first kept e w stands shelved;
        whole = λ first is going whole shelved.
            let answer : AnswersTurn a e u w faults faults_now Finished = subst (AnswersTurn a e u w faults faults_now) is turns.answer in
            stands-all first kept e w stands answer.2 going whole shelved;
      };
      right = record {
        within = stands-within e w stands;
        copies = copies-few e w stands;
        copied = copies-within e w stands;
        lent = written-within e w stands;
        counts = loans-few e w stands;
      };
      given_whole = given-read e w stands;
      keeps = λ off live notes lent read. turns-keep a e u w (g.T.Shelf.kept c.args.shelf.now) kept faults faults_now c.turn.result turns off live notes lent read;
      scrubs = search rules;
      went = c.turn.ensures.went;
    })
