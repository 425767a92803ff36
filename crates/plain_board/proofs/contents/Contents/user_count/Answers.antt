-- No application has many loans in a buffer.
use Rattle.std.proofs.{Common.{◌<◌, ◌∙◌, arith}, lemmas.List.{get_or_read}}
use Rattle.area_layout.specs.Layout.{all_buffers}
use Rattle.plain_board.proofs.{Counting.{users-few}, Users.{users-there}}
use Rattle.plain_board.proofs.contents.Contents.user_count.Goals as goal

pub overflow_cast-result : goal.overflow_cast-result
overflow_cast-result c =
    let sound = c.self.invariant.0 in
    let app = rw (← c.self.view_is) at c.requires in
    let within : c.args.buffer < all_buffers c.self.inside.layout = omega (arith, c.if-buffer-total.false, c.total.ensures.value) in
    let there = users-there _ sound c.args.app c.args.buffer app within in
    let read = get_or_read c.self.inside.users.items _ c.index.result.now there (rw c.user_index.ensures at c.index.ensures) 0 in
    omega (
      arith,
      read,
      sound.counted.users c.args.app c.args.buffer (let many = sound.set.many in omega (arith, many, app)) within,
      users-few _ sound c.args.app c.args.buffer,
    )

pub returns : goal.returns
returns c =
    let sound = c.self.invariant.0 in
    let app = rw (← c.self.view_is) at c.requires in
    let within : c.args.buffer < all_buffers c.self.inside.layout = omega (arith, c.if-buffer-total.false, c.total.ensures.value) in
    let there = users-there _ sound c.args.app c.args.buffer app within in
    let read = get_or_read c.self.inside.users.items _ c.index.result.now there (rw c.user_index.ensures at c.index.ensures) 0 in
    rw (← c.self.view_is)
    (read ∙ sound.counted.users c.args.app c.args.buffer (let many = sound.set.many in omega (arith, many, app)) within)
