use Rattle.std.proofs.Common.{sym, arith}
use Rattle.page_pool.proofs.Stored.{pending_of-length, pending_of-push}
use Rattle.page_pool.proofs.pieces.PendingPieces.push_back.Goals as goal

pub push-requires : goal.push-requires
push-requires c = (search arith, omega (arith, rw (sym c.self.view_is, pending_of-length _ c.self.invariant) at c.requires))

pub returns : goal.returns
returns c = rw (c.push.ensures.items, pending_of-push, c.self.view_is)
