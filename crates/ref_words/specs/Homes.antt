-- Lines that are at home: no role has them out.
use Rattle.std.specs.Prelude.{◌≡◌, ℕ, ◌<◌, true, false, List, [], length, slice_index_or, All}
use mathlib.Core.Option.{Option, some}
use lib.ListN.{get_elem?}
use Rattle.zr_kinds.specs.declared.place.Place.{Place}
use Rattle.board_face.specs.declared.views.{parts.Setting.{Setting}, nic.NicSide.{NicSide}, app.AppSide.{AppSide}}
use Rattle.ref_words.specs.Lines.{has_line, has_out}

pub record IsHome (setting : Setting) (nic : NicSide) (apps : List AppSide) (k : ℕ) : Type 0 where
  pub card : has_out setting.layout k nic.inside.making ≡ false
  pub others : All (λ app. has_out setting.layout k app.inside.making ≡ false) apps

-- all lines of a place are
abbrev pub AreHome : Setting → NicSide → List AppSide → Place → Type 0
AreHome setting nic apps place = (k : ℕ) → has_line setting.layout k place ≡ true → IsHome setting nic apps k

-- What stands in the slots: each line that no role has out is at home, as it is in the area.
pub record StandInSlots (setting : Setting) (area : List (List ℕ)) (nic : NicSide) (apps : List AppSide) (homes : List (Option (List ℕ))) : Type 0 where
  pub many : length homes ≡ length area
  pub stand : (k : ℕ) → k < length area → IsHome setting nic apps k → get_elem? homes k ≡ some (some (slice_index_or area k []))
