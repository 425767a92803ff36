use Rattle.std.proofs.Common.{sym, arith}
use Rattle.page_pool.proofs.Stored.{pending_of-length}
use Rattle.page_pool.proofs.pieces.PendingPieces.pop_front.Goals as goal

pub returns-clause-few : goal.returns-clause-few
returns-clause-few c = rw (sym c.self.view_is, pending_of-length _ c.self.invariant) (omega (arith, c.len.ensures.value, c.len.ensures.fits))
