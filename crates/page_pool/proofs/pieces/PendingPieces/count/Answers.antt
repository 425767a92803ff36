use Rattle.std.proofs.Common.{sym}
use Rattle.page_pool.proofs.Stored.{pending_of-length}
use Rattle.page_pool.proofs.pieces.PendingPieces.count.Goals as goal

pub returns-clause-value : goal.returns-clause-value
returns-clause-value c = rw (sym c.self.view_is, pending_of-length _ c.self.invariant) c.len.ensures.value
