-- Used buffers: a pool buffer is used once the card has taken it or an application has picked it as a spare.
use Rattle.std.specs.{Prelude.{◌≡◌, false, true, ℕ, ◌+◌, ◌/◌, ◌<◌, ◌≤◌, Bool, not, if◌then◌else◌, List, ◌++◌, length, map, nat_eq, count_by}, List.{flat_map, list_any}}
use Rattle.area_layout.specs.Layout.{pool_buffers}
use Rattle.board_face.specs.{Lists.{count_below}, NicCalls.{HasSweptAll}, NicEvents.{word_bits}, Texts.{unsplit_bytes}, declared.views.nic.NicSide.{NicSide}}
use Rattle.board_face.specs.declared.views.app.AppSide.{AppSide}

-- the buffers that applications have picked
abbrev pub picked_buffers : List AppSide → List ℕ
picked_buffers apps = flat_map (λ app. app.view.picked) apps

-- and all that were used, each as often as it was
abbrev pub used_buffers : NicSide → List AppSide → List ℕ
used_buffers nic apps = nic.view.used ++ picked_buffers apps

-- Each pool buffer is free as it was at the opening, or it was used. One whose word was swept is cached, or was used.
pub record AreKept (listed : ℕ → Bool) (nic : NicSide) (apps : List AppSide) : Type 0 where
  pub kept : (b : ℕ) → b < pool_buffers nic.view.setting.layout
      → 1 ≤ (if listed b then 1 else 0) + count_by (nat_eq b) nic.view.cache + count_by (nat_eq b) (used_buffers nic apps)
  pub swept : (b : ℕ) → b < pool_buffers nic.view.setting.layout → 1 ≤ count_by (nat_eq (b / word_bits)) nic.view.swept
      → 1 ≤ count_by (nat_eq b) nic.view.cache + count_by (nat_eq b) (used_buffers nic apps)

-- how many pool buffers were never used
abbrev pub never_used : NicSide → List AppSide → ℕ
never_used nic apps = count_below (λ b. not (list_any (nat_eq b) (used_buffers nic apps))) (pool_buffers nic.view.setting.layout)

-- Each of those is cached, so they are no more than the cached ones.
pub record HasUnusedCached (nic : NicSide) (apps : List AppSide) : Type 0 where
  pub cached : (b : ℕ) → b < pool_buffers nic.view.setting.layout → list_any (nat_eq b) (used_buffers nic apps) ≡ false
      → list_any (nat_eq b) nic.view.cache ≡ true
  pub few : never_used nic apps ≤ length nic.view.cache

-- It is so once each word of the free list was swept.
abbrev pub UnusedAreCached : Type 0
UnusedAreCached =
    (listed : ℕ → Bool) (nic : NicSide) (apps : List AppSide) → AreKept listed nic apps → HasSweptAll nic.view → HasUnusedCached nic apps

-- An application has picked, and was given, at most as many buffers as the unsplit notes that it has taken have bytes.
pub record HasFewPicks (app : AppSide) : Type 0 where
  pub picks : length app.view.picked ≤ unsplit_bytes (map (λ t. t.note) app.view.taken)
  pub spares : app.view.spares ≤ unsplit_bytes (map (λ t. t.note) app.view.taken)

-- Between two calls each buffer that it picked was given.
abbrev pub PicksAreGiven : AppSide → Type 0
PicksAreGiven app = length app.view.picked ≤ app.view.spares
