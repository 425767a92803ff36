-- The references to the buffers below this one are taken back.
use Rattle.board_parts.proofs.TakingBack.{IsTakenBelow}
use Rattle.board_parts.proofs.scrubbing.take_back.Given as goal

abbrev pub invariant-loop-buffer : goal.invariant-loop-buffer
invariant-loop-buffer l = IsTakenBelow l.layout l.app l.fn.users.items l.users.items l.fn.pool.items l.pool.items l.fn.listed.items l.listed.items l.buffer
