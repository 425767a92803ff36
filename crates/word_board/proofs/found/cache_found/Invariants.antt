-- Behind those that are in the cache come those that are still listed.
use Rattle.std.proofs.Common.{◌≡◌, ◌+◌, ◌++◌, length}
use Rattle.ref_words.specs.FreeSteps.{all_listed_in}
use Rattle.word_board.proofs.found.cache_found.Given as goal

abbrev pub invariant-loop-buffer : goal.invariant-loop-buffer
invariant-loop-buffer l =
    (l.cache.items ++ all_listed_in l.word l.left ≡ l.fn.cache.items ++ all_listed_in l.word l.found)
    × (l.count + length (all_listed_in l.word l.left) ≡ length (all_listed_in l.word l.found))

abbrev pub decreases-loop-buffer : goal.decreases-loop-buffer
decreases-loop-buffer l = length (all_listed_in l.word l.left)
