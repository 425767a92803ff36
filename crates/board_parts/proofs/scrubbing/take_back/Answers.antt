-- This buffer has its turn: what was counted is taken back, and it is listed where it came to be free by that.
use Rattle.std.proofs.{Common.{◌≡◌, ◌-◌, ◌<◌, length, get_or, refl, ◌∙◌, arith}, lemmas.{List.{get_or_read, get_or-set_same}, Bool.{lt-ltb, le-ltb}, Nat.{mul-add-lt}}}
use Rattle.area_layout.specs.Layout.{all_buffers}
use Rattle.board_parts.{specs.Counts.{user_at, came_back}, proofs.{TakingBack.{IsTakenBelow-more}, scrubbing.take_back.Goals.{then-owed-gt0, else-owed-gt0}}}
use Rattle.board_parts.proofs.scrubbing.take_back.Goals as goal

pub loop-buffer-preserved : goal.loop-buffer-preserved
loop-buffer-preserved c =
    let h = c.loop-buffer.invariant in
    let layout = c.args.layout.now in
    let n = c.loop-buffer.buffer in
    let users = c.loop-buffer.users.items in
    let pool = c.loop-buffer.pool.items in
    let at = user_at layout c.args.app n in
    let place : n < all_buffers layout = omega arith in
    let user_there : at < length users = let row = mul-add-lt c.args.app (all_buffers layout) n layout.reserves c.requires.app place in omega
    (arith, h.users_len) in
    let count_there : n < length pool = omega (arith, h.pool_len) in
    let owed : c.index-owed.result.now ≡ get_or users at 0 = get_or_read users at c.index-owed.result.now user_there
    (rw c.user_index-user.ensures at c.index-owed.ensures) 0 in
    let had : c.index_mut-in-loop-buffer.result.now ≡ get_or pool n 0 = get_or_read pool n c.index_mut-in-loop-buffer.result.now count_there
    c.index_mut-in-loop-buffer.ensures.value 0 in
    let left = c.index_mut-in-loop-buffer.result.now - c.index-owed.result.now in
    let is : c.came_free.result ≡ came_back layout n c.index-owed.result.now left = c.came_free.ensures ∙ elim c.if-owed-gt0.branch [
      | then-owed-gt0 w ↦
          let now : w.index.result.now ≡ left = w.index.ensures ∙ get_or-set_same pool n left w.index.result.now count_there in
          rw (w.last-is, now, lt-ltb 0 c.index-owed.result.now w.if-owed-gt0.true) refl
      | else-owed-gt0 w ↦ rw (w.last-is, le-ltb 0 c.index-owed.result.now w.if-owed-gt0.false) refl
    ] in
    let more = IsTakenBelow-more _ _ _ _ _ _ _ c.loop-buffer.listed.items n h place user_there count_there
    (h.listed_len ∙ c.requires.listed) c.came_free.result (rw (owed, had) at is) in
    rw (c.list_if.ensures, c.user_index-user.ensures, owed, had) more

pub overflow_sub-index_mut : goal.overflow_sub-index_mut
overflow_sub-index_mut c =
    let h = c.loop-buffer.invariant in
    let layout = c.args.layout.now in
    let n = c.loop-buffer.buffer in
    let users = c.loop-buffer.users.items in
    let pool = c.loop-buffer.pool.items in
    let at = user_at layout c.args.app n in
    let place : n < all_buffers layout = omega arith in
    let user_there : at < length users = let row = mul-add-lt c.args.app (all_buffers layout) n layout.reserves c.requires.app place in omega
    (arith, h.users_len) in
    let count_there : n < length pool = omega (arith, h.pool_len) in
    let owed : c.index-owed.result.now ≡ get_or users at 0 = get_or_read users at c.index-owed.result.now user_there
    (rw c.user_index-user.ensures at c.index-owed.ensures) 0 in
    let had : c.index_mut-in-loop-buffer.result.now ≡ get_or pool n 0 = get_or_read pool n c.index_mut-in-loop-buffer.result.now count_there
    c.index_mut-in-loop-buffer.ensures.value 0 in
    let kept = h.above n (omega arith) in
    rw (owed, had, kept.same_user, kept.same_count) (c.requires.few n place)
