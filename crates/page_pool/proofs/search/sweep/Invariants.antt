use Rattle.std.proofs.Common.{◌≡◌}
use Rattle.board_face.specs.NicCalls.{free_words_of}
use Rattle.page_pool.specs.Gathering.{SweepsFirst}
use Rattle.page_pool.proofs.search.sweep.Given as goal

abbrev pub invariant-loop-word : goal.invariant-loop-word
invariant-loop-word g l = record {
  sweeps : SweepsFirst (g.F.NicFace.seen l.initial.face) (g.F.NicFace.seen l.face) 64 l.word;
  end : l.word-end ≡ free_words_of (g.F.NicFace.seen l.initial.face).setting;
  beside : g.F.NicFace.beside l.face ≡ g.F.NicFace.beside l.initial.face;
}
