use Rattle.zr_io.proofs.Kept.{adds_piece}
use Rattle.zr_io.proofs.mem_shelf.MemShelfShelf.append.Goals as goal

pub returns-then-is_err-clause-bytes : goal.returns-then-is_err-clause-bytes
returns-then-is_err-clause-bytes c = rw (← c.self.view_is) (adds_piece _ _ _ _ _ _ _ _ _ c.store-result.ensures.fails c.store-result.ensures.after)
