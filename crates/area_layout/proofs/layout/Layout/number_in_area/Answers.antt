use Rattle.std.proofs.Common.{arith}
use Rattle.area_layout.proofs.Words.{found-in}
use Rattle.area_layout.proofs.layout.Layout.number_in_area.Goals as goal

pub overflow_sub-result : goal.overflow_sub-result
overflow_sub-result c =
    let here = (found-in c.args.self.now c.args.buffer (omega (arith, c.buffers-pool.ensures.value))).from in
    rw (c.buffers_before.ensures.value, c.area_of.ensures.value) here
