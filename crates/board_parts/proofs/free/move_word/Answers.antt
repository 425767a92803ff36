-- Each step moves the next buffer, if it is listed.
use Rattle.std.proofs.{Common.{◌≡◌, ◌+◌, ◌-◌, ◌*◌, ◌<◌, true, false, length, sym, ◌∙◌, arith, lit<}, lemmas.List.{get_or_read}}
use Rattle.board_parts.{specs.Free.{listed_in}, proofs.Moving.{IsMoved-yes, few-moved, has-room}}
use Rattle.board_parts.proofs.free.move_word.Goals as goal

pub overflow_add-count : goal.overflow_add-count
overflow_add-count c = omega (arith, few-moved _ _ _ _ _ _ c.loop-left.left (c.loop-left.left - 1) c.loop-left.count c.loop-left.invariant (omega arith))

pub push-requires : goal.push-requires
push-requires c =
    let h = c.loop-left.invariant in
    let m = c.loop-left.left - 1 in
    let x = c.args.word * 64 + (c.loop-left.left - 1) in
    let there : x < length c.loop-left.listed.items = let w = h.within in let l = h.len in let f = h.fits in omega arith in
    let was : listed_in c.loop-left.listed.items x ≡ true = sym (get_or_read c.loop-left.listed.items x c.index.result.now there c.index.ensures false)
    ∙ c.if-index.true in
    (lit< tt, has-room _ _ _ _ _ _ c.loop-left.left m c.loop-left.count h (omega arith) 128 (let w = c.requires.room in omega arith) was)

pub loop-left-preserved-then-index : goal.loop-left-preserved-then-index
loop-left-preserved-then-index c =
    let h = c.loop-left.invariant in
    let m = c.loop-left.left - 1 in
    let x = c.args.word * 64 + (c.loop-left.left - 1) in
    let there : x < length c.loop-left.listed.items = let w = h.within in let l = h.len in let f = h.fits in omega arith in
    let was : listed_in c.loop-left.listed.items x ≡ true = sym (get_or_read c.loop-left.listed.items x c.index.result.now there c.index.ensures false)
    ∙ c.if-index.true in
    rw c.push.ensures.items (IsMoved-yes _ _ _ _ _ _ c.loop-left.left m c.loop-left.count h (omega arith) was)
