use Rattle.std.specs.Prelude.{◌≡◌}
use Rattle.board_runs.specs.Played.{IsIdleApp}
use Rattle.board_runs.proofs.searches.steps.app_step.Given as goal

abbrev pub invariant-loop : goal.invariant-loop
invariant-loop g l = record {
  idle : IsIdleApp (g.F.AppFace.seen l.face);
  beside : g.F.AppFace.beside l.face ≡ g.F.AppFace.beside l.fn.face;
}
