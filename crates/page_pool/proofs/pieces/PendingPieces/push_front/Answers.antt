use Rattle.std.proofs.Common.{sym, arith}
use Rattle.page_pool.proofs.Stored.{pending_of-length}
use Rattle.page_pool.proofs.pieces.PendingPieces.push_front.Goals as goal

pub insert-requires : goal.insert-requires
insert-requires c = (search arith, (search arith, omega (arith, rw (sym c.self.view_is, pending_of-length _ c.self.invariant) at c.requires)))
