use Rattle.zr_io.proofs.Memory.{read_took}
use Rattle.zr_io.proofs.sure_source.SureSourceSource.read.Goals as goal

pub returns-clause-bytes : goal.returns-clause-bytes
returns-clause-bytes c =
    read_took _ _ _ _ _ _ _ _ c.deref.ensures.value c.self.view_is c.copy_from_slice.ensures.after c.min-count.ensures c.requires
