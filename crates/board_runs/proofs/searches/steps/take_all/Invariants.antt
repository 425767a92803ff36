use Rattle.std.proofs.Common.{◌≡◌}
use Rattle.board_face.specs.NicCalls.{IsOpen}
use Rattle.board_runs.proofs.searches.steps.take_all.Given as goal

abbrev pub invariant-loop : goal.invariant-loop
invariant-loop g l = record {
  going : IsOpen (g.F.NicFace.seen l.face);
  setting : (g.F.NicFace.seen l.face).setting ≡ (g.F.NicFace.seen l.fn.face).setting;
}
