-- The setting of a board as the record of its run says it.
use Rattle.std.specs.Prelude.{◌≡◌, ℕ, List, map, filter, nat_lt}
use Rattle.area_layout.specs.{declared.layout.Area.{Area}, Layout.{Shape, IsLayout, pool_buffers, all_buffers, size_of}}
use Rattle.zr_kinds.specs.Setting.{Setting, IsSetting, total_buffers, size_of_buffer, buffers_of_areas as run_pool_buffers}

-- the areas that are there
abbrev pub areas_of : List Area → List (ℕ × ℕ)
areas_of areas = map (λ (a : Area). (a.buffers, a.size)) (filter (λ (a : Area). nat_lt 0 a.buffers) areas)

abbrev pub setting_of_layout : Shape → Setting
setting_of_layout layout = record { areas = areas_of layout.areas; apps = layout.reserves }

-- The setting of a layout is one, and has as many buffers, of the same sizes.
pub record IsSettingOf (layout : Shape) (setting : Setting) : Type 0 where
  pub sound : IsSetting setting
  pub pool : run_pool_buffers setting.areas ≡ pool_buffers layout
  pub all : total_buffers setting ≡ all_buffers layout
  pub sizes : (b : ℕ) → size_of_buffer setting.areas b ≡ size_of layout b

abbrev pub SettingLaw : Type 0
SettingLaw = (layout : Shape) → IsLayout layout → IsSettingOf layout (setting_of_layout layout)
