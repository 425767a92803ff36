-- Before the free list there are zeros, and then its words so far.
use Rattle.std.specs.Prelude.{◌≡◌, ◌++◌, replicate}
use Rattle.area_layout.specs.Layout.{pool_buffers}
use Rattle.ref_words.specs.Words.{begin_at, free_list}
use Rattle.word_board.proofs.opening.opened.Given as goal

abbrev pub invariant-loop-word : goal.invariant-loop-word
invariant-loop-word l = l.words.items ≡ replicate (begin_at l.map 4) 0 ++ free_list (pool_buffers l.map.layout) l.word
