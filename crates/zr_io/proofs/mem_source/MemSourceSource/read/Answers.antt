use Rattle.std.proofs.Common.{ap, arith}
use Rattle.zr_io.proofs.Memory.{read_took}
use Rattle.zr_io.proofs.mem_source.MemSourceSource.read.Goals as goal

pub returns-clause-bytes : goal.returns-clause-bytes
returns-clause-bytes c =
    read_took _ _ _ _ _ _ _ c.min.result c.deref-2.ensures.value (ap (λ s. s.left) c.self.view_is) c.copy_from_slice.ensures.after c.min-count.ensures
    (omega (arith, c.min.ensures, c.requires, c.self.invariant.1))
