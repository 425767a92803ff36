use Rattle.zr_io.proofs.Sending.{goes_on}
use Rattle.zr_io.proofs.send.send.Goals as goal

pub loop-rest-preserved : goal.loop-rest-preserved
loop-rest-preserved g c = goes_on _ _ _ _ _ _ c.loop-rest.invariant c.in-Ok.ensures.bound c.in-Ok.ensures.bytes
