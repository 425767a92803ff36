-- How far a run can still come, which each round that did something brings down.
use Rattle.std.{proofs.Common.{◌≡◌, ℕ, ◌-◌, ◌<◌, ◌≤◌, List, [], ◌∷◌, length, Some, refl, ap, ◌∙◌, arith}, specs.List.{slice_get}}
use Rattle.plain_board.specs.Board.{Board}
use Rattle.replay_turns.{specs.{Rounds.{IsOfPlan}, Running.{Moment, PlaysTurns, RunsSince}, Steps.{run_steps, run_most}}, proofs.Bounds.{runs-within}}
use Rattle.run_account.specs.{Views.{Streams}, declared.run.{Run.{Run}, Worker.{Worker}}}

-- how many entries may follow each loan, which is the same for all applications
abbrev pub stray_of : List Worker → ℕ
stray_of [] = 0
stray_of (w ∷ workers) = w.state.how.stray

abbrev pub most_of : Run → ℕ
most_of run = run_most (length run.workers.items) (stray_of run.workers.items)

abbrev pub steps_left : Board → Run → ℕ
steps_left board run = most_of run - run_steps board run

stray-is : (workers : List Worker) (stray : ℕ) → 0 < length workers
    → ((a : ℕ) (w : Worker) → slice_get workers a ≡ Some w → w.state.how.stray ≡ stray) → stray_of workers ≡ stray
stray-is [] stray some each = absurd (omega (arith, some))
stray-is (w ∷ workers) stray some each = each 0 w refl

comes-down : (before after most steps steps_now : ℕ) → before ≡ most → after ≡ most → steps < steps_now → steps_now ≤ most
    → after - steps_now < before - steps
comes-down before after most steps steps_now was now rises within = omega (arith, was, now, rises, within)

module _ {S T : Type 0} {m : Streams S T} (was now : Moment m) (of : IsOfPlan was) (plays : PlaysTurns was now) where
  -- it stays a run of that plan
  pub still-of : IsOfPlan now
  still-of = record { first = of.first; plan = of.plan; runs = plays.runs of.first of.plan of.runs }

  most-is : (at : Moment m) → RunsSince of.first of.plan at → most_of at.run ≡ run_most (length of.plan.ports.items) of.plan.options.how.stray
  most-is at runs =
      let run = at.run in
      let some = runs.plan_is.some in
      let many = runs.many in
      ap (λ n. run_most n (stray_of run.workers.items)) many
      ∙ ap (run_most (length of.plan.ports.items)) (stray-is run.workers.items of.plan.options.how.stray (omega (arith, some, many))
      (λ a w is. ap (λ how. how.stray) (runs.worker a w is).runs.how_is))

  pub left-falls : run_steps was.board was.run < run_steps now.board now.run → steps_left now.board now.run < steps_left was.board was.run
  unfolding still-of
  left-falls rises =
      let later = still-of.runs in
      comes-down (most_of was.run) (most_of now.run) (run_most (length of.plan.ports.items) of.plan.options.how.stray) (run_steps was.board was.run)
      (run_steps now.board now.run) (most-is was of.runs) (most-is now later) rises (runs-within m of.first now of.plan plays.fits later)
