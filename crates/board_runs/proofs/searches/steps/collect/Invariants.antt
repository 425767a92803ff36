use Rattle.std.proofs.Common.{◌≡◌}
use Rattle.board_face.specs.NicCalls.{IsOpen, free_words_of}
use Rattle.board_runs.proofs.searches.steps.collect.Given as goal

abbrev pub invariant-loop-word : goal.invariant-loop-word
invariant-loop-word g l = record {
  going : IsOpen (g.F.NicFace.seen l.face);
  end : l.word-end ≡ free_words_of (g.F.NicFace.seen l.face).setting;
}
