-- What the arrays count of a buffer is few, and nothing behind the area.
use Rattle.std.proofs.Common.{◌≡◌, ℕ, ◌<◌, ◌≤◌, length, get_or, ap, sym, ◌∙◌, arith}
use Rattle.area_layout.{specs.Layout.{size_of}, proofs.Words.{words_apart}}
use Rattle.board_face.{specs.Counts.{pool_count, user_count}, proofs.{FewLemmas.{pool_count-few}, FreeLemmas.{user_count-le}}}
use Rattle.plain_board.specs.{Stand.{Stand}, Sound.{IsSound}}

module _ (board : Stand) (sound : IsSound board) where
  pub holders-few : (b : ℕ) → pool_count b board.nic board.apps ≤ 65537
  holders-few b =
      let few = pool_count-few b board.nic board.apps (sound.shown.places b) (sound.by_one b) in
      let layout = ap (λ s. size_of s.layout b) sound.set.card in
      let most = ((words_apart board.arrays.layout sound.sizes.layout).size b).most in
      omega (arith, few, layout, most)

  pub users-few : (a b : ℕ) → user_count a b board.nic board.apps ≤ 65537
  users-few a b = omega (arith, user_count-le a b board.nic board.apps, holders-few b)

  -- the count of a buffer, as the array has it
  pub counted : (b n : ℕ) → b < length board.arrays.pool → get_or board.arrays.pool b 0 ≡ n → n ≡ pool_count b board.nic board.apps
  counted b n there is = sym is ∙ sound.counted.pool b (let all = sound.sizes.pool in omega arith)
