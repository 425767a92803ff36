use Rattle.std.proofs.Common.{rules, arith, inl, inr, ◌≡◌, true, sym, ap, ◌∙◌}
use Rattle.app_worker.specs.{Turns.{turn_after}, declared.stages.Drained.TheVariants.{Did, Failed}}
use Rattle.app_worker.proofs.TurnLemmas.{turns-did, turns-later, turns-first, begins-through}
use Rattle.app_worker.proofs.working.work.Goals as goal

pub returns-in-Did-clause-turns : goal.returns-in-Did-clause-turns
returns-in-Did-clause-turns g c =
    let reads = c.in-Did.ensures.reads in
    let is : c.after.result ≡ turn_after true c.go_on-turn.result = search rules in
    rw is (turns-later (begins-through c.requires.none.works.working c.requires.none.works.here reads.0 reads.1 c.drain.ensures.went.later) c.go_on-turn.ensures.turns)

pub returns-in-Nothing-clause-turns : goal.returns-in-Nothing-clause-turns
returns-in-Nothing-clause-turns g c =
    turns-first c.in-Nothing.ensures.reads.0 c.drain.ensures.went.later c.go_on.ensures.turns

pub returns-in-InUse-clause-turns : goal.returns-in-InUse-clause-turns
returns-in-InUse-clause-turns g c =
    let reads = c.in-InUse.ensures.reads in
    turns-did c.requires.none.works.working.live reads.0 reads.1 (λ _. reads.3) (inl (inl reads.3)) (λ _ _. inr (inr (inr reads.3)))

pub returns-in-Did-clause-went : goal.returns-in-Did-clause-went
returns-in-Did-clause-went g c =
    let is : c.after.result ≡ turn_after true c.go_on-turn.result = search rules in
    let drained = c.drain.ensures.went in
    let went = c.go_on-turn.ensures.went in
    record {
      later = omega (arith, drained.later, went.later);
      still = λ other. went.still (λ same. other (is ∙ ap (turn_after true) same))
          ∙ drained.still (λ e. let f : Did ≡ Failed = sym c.in-Did.is ∙ e in absurd (cc));
      appended = λ had is. went.appended had (drained.appended had is);
    }
