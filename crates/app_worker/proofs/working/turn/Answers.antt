use Rattle.std.proofs.Common.{rules, true, ◌≡◌, sym, ap, ◌∙◌, refl}
use Rattle.zr_io.specs.Moved.{raised_by}
use Rattle.app_worker.specs.{State.{State, Working}, StateOf.{state_of}, declared.turn.Why.TheVariants.{RefillFull}, Turns.{turn_after}}
use Rattle.app_worker.proofs.TurnLemmas.{turns-saw, turns-gave, turns-later, begins-gave}
use Rattle.app_worker.proofs.working.turn.Goals as goal

pub returns-then-st-clause-turns : goal.returns-then-st-clause-turns
returns-then-st-clause-turns g c = c.bare_turn.ensures.turns (g.T.Shelf.kept c.args.shelf.now) (g.T.Shelf.counts c.args.shelf.now).faults

pub returns-in-Part-clause-turns : goal.returns-in-Part-clause-turns
returns-in-Part-clause-turns g c =
    let works : Working (state_of c.args.st.now) (g.F.AppFace.seen c.args.face.now) = search rules in
    turns-gave works c.requires.stands.reaped c.give_back.ensures.works.working c.give_back.ensures.works.common
    (c.give_back.ensures.works.goes (g.T.Shelf.kept c.args.shelf.now)) c.in-Part.ensures.gives.0 c.in-Part.ensures.gives.1

pub returns-in-Did-clause-turns : goal.returns-in-Did-clause-turns
returns-in-Did-clause-turns g c =
    let works : Working (state_of c.args.st.now) (g.F.AppFace.seen c.args.face.now) = search rules in
    let is : c.after.result ≡ turn_after true c.work-turn.result = search rules in
    rw is (turns-later
    (begins-gave works c.requires.here c.give_back.ensures.works.working (c.give_back.ensures.works.goes (g.T.Shelf.kept c.args.shelf.now))
    c.in-Did.ensures.gives.0) c.work-turn.ensures.turns)

pub returns-in-InUse-clause-turns : goal.returns-in-InUse-clause-turns
returns-in-InUse-clause-turns g c =
    let works : Working (state_of c.args.st.now) (g.F.AppFace.seen c.args.face.now) = search rules in
    let gives = c.in-InUse.ensures.gives in
    turns-saw RefillFull gives.0 refl gives.1 works c.requires.stands.common c.requires.stands.reaped gives.2 (λ _. gives.1.rose)

pub returns-in-Did-clause-went : goal.returns-in-Did-clause-went
returns-in-Did-clause-went g c =
    let is : c.after.result ≡ turn_after true c.work-turn.result = search rules in
    let went = c.work-turn.ensures.went in
    record {
      later = went.later;
      still = λ other. went.still (λ same. other (is ∙ ap (turn_after true) same));
      appended = λ had is. went.appended had (is ∙ ap (raised_by had) (sym (ap (λ (s : State). s.written) c.in-Did.ensures.gives.0.same)));
    }

pub returns-then-st-clause-went : goal.returns-then-st-clause-went
returns-then-st-clause-went g c =
    let turns = c.bare_turn.ensures.turns (g.T.Shelf.kept c.args.shelf.now) (g.T.Shelf.counts c.args.shelf.now).faults in
    record {
      later = search rules;
      still = search rules;
      appended = λ had is. is ∙ ap (raised_by had) (sym (ap (λ (s : State). s.written) (turns.rests (search rules)).state));
    }
