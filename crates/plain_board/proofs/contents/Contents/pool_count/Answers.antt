-- No buffer has many holders.
use Rattle.std.proofs.{Common.{◌<◌, length, arith}, lemmas.List.{get_or_read}}
use Rattle.area_layout.specs.Layout.{all_buffers}
use Rattle.plain_board.proofs.Counting.{holders-few}
use Rattle.plain_board.proofs.contents.Contents.pool_count.Goals as goal

pub overflow_cast-result : goal.overflow_cast-result
overflow_cast-result c =
    let sound = c.self.invariant.0 in
    let within : c.args.buffer < all_buffers c.self.inside.layout = omega (arith, c.if-buffer-total.false, c.total.ensures.value) in
    let there : c.args.buffer < length c.self.inside.pool.items = omega (arith, within, sound.sizes.pool) in
    let read = get_or_read c.self.inside.pool.items _ c.index.result.now there c.index.ensures 0 in
    omega (arith, read, sound.counted.pool c.args.buffer within, holders-few _ sound c.args.buffer)
