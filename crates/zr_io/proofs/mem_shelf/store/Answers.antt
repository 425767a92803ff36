use Rattle.std.proofs.{Common.{arith}, lemmas.Grind.{common_steps}}
use Rattle.zr_io.proofs.Kept.{store_some}
use Rattle.zr_io.proofs.mem_shelf.store.Goals as goal

pub returns-in-Some-clause-after : goal.returns-in-Some-clause-after
returns-in-Some-clause-after c = store_some _ _ _ _ _ _ _ _ c.in-Some.ensures.value
    (grind (arith, common_steps, c.in-Some.ensures.variant)) c.receive.ensures.after
