-- The count of loans says whether one is out, and a buffer behind the area has none.
use Rattle.std.proofs.{Common.{◌∙◌, ◌<◌, arith}, lemmas.{Bool.{le-ltb}, List.{get_or_read}}}
use Rattle.area_layout.specs.Layout.{all_buffers}
use Rattle.plain_board.proofs.{AppFrames.{here-of}, TokensLie.{live-if, live-none}, Users.{loans-there}}
use Rattle.plain_board.proofs.contents.Contents.live.Goals as goal

pub returns-then-buffer-total : goal.returns-then-buffer-total
returns-then-buffer-total c =
    let app = rw (← c.self.view_is) at c.requires in
    let here = here-of _ c.args.app c.self.invariant.0 app in
    let within : c.args.buffer < all_buffers c.self.inside.layout = omega (arith, c.if-buffer-total.true, c.total.ensures.value) in
    let read = get_or_read c.self.inside.loans.items _ c.index.result.now
    (rw c.user_index.ensures (loans-there _ c.self.invariant.0 c.args.app c.args.buffer app within)) c.index.ensures 0 in
    rw (← c.self.view_is) (live-if _ c.args.app _ c.self.invariant.0 here c.args.buffer within _
    (rw c.user_index.ensures at read ∙ c.self.invariant.0.booked.loans c.args.app c.args.buffer _ here within))

pub returns-else-buffer-total : goal.returns-else-buffer-total
returns-else-buffer-total c =
    let app = rw (← c.self.view_is) at c.requires in
    let here = here-of _ c.args.app c.self.invariant.0 app in
    rw (← c.self.view_is) (live-none _ c.args.app _ c.self.invariant.0 here c.args.buffer _ (le-ltb c.args.buffer c.total.result c.if-buffer-total.false)
    (omega (arith, c.if-buffer-total.false, c.total.ensures.value)))
