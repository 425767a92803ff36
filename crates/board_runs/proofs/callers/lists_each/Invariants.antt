use Rattle.board_face.specs.NicCalls.{IsOpen}
use Rattle.board_runs.proofs.callers.lists_each.Given as goal

abbrev pub invariant-loop-word : goal.invariant-loop-word
invariant-loop-word g l = IsOpen (g.F.NicFace.seen l.face)
