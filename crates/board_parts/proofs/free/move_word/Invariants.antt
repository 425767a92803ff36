-- What is above the place is moved.
use Rattle.std.proofs.Common.{◌-◌, min, length}
use Rattle.board_parts.proofs.Moving.{IsMoved}
use Rattle.board_parts.proofs.free.move_word.Given as goal

abbrev pub invariant-loop-left : goal.invariant-loop-left
invariant-loop-left l = IsMoved l.fn.listed.items l.listed.items l.fn.cache.items l.cache.items l.first
    (min 64 (length l.fn.listed.items - l.first)) l.left l.count

abbrev pub decreases-loop-left : goal.decreases-loop-left
decreases-loop-left l = l.left
