-- Free once: a pool buffer has a holder and stands in no free place, or it has none and stands in exactly one of these:
-- the free list, the card's cache, the hands of one role between two steps. A reserve buffer is never listed and never
-- cached: it is free where it has no holder.
use Rattle.std.specs.{Prelude.{◌≡◌, ℕ, ◌+◌, ◌<◌, ◌≤◌, Bool, if◌then◌else◌, List, nat_eq, ◌==◌, count_by}, List.{flat_map}}
use Rattle.area_layout.specs.Layout.{pool_buffers}
use Rattle.board_face.specs.{declared.views.{nic.NicSide.{NicSide}, app.AppSide.{AppSide}}, Counts.{pool_count}}

-- in how many free places a buffer stands, where `listed` says whether it is on the free list
abbrev pub free_places : (ℕ → Bool) → ℕ → NicSide → List AppSide → ℕ
free_places listed b nic apps =
    (if listed b then 1 else 0)
    + count_by (nat_eq b) nic.view.cache
    + count_by (nat_eq b) nic.inside.hands
    + count_by (nat_eq b) (flat_map (λ app. app.inside.hands) apps)

-- free once, or held
abbrev pub IsFreeOnce : (ℕ → Bool) → ℕ → NicSide → List AppSide → Type 0
IsFreeOnce listed b nic apps = free_places listed b nic apps ≡ (if pool_count b nic apps == 0 then 1 else 0)

-- every buffer is free once, or held
pub record AreFreeOnce (listed : ℕ → Bool) (nic : NicSide) (apps : List AppSide) : Type 0 where
  pub pool : (b : ℕ) → b < pool_buffers nic.view.setting.layout → IsFreeOnce listed b nic apps
  pub reserves : (b : ℕ) → pool_buffers nic.view.setting.layout ≤ b → free_places listed b nic apps ≡ 0
