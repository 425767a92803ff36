-- Laws of the areas that words tell: they are read exactly where they make a layout, with as many reserves as there may be.
use Rattle.std.specs.{Prelude.{◌≡◌, ◌≤◌, ◌↔◌, ℕ, List, [], ◌∷◌, Option, Some}, List.{slice_split}}
use Rattle.area_layout.specs.Layout.{MakeLayout}
use Rattle.command_words.specs.{Assigned.{Text}, Options.{number_or, buffer_size_of}, Areas.{is_comma, all_areas, areas_in_word, one_area, pool_areas_of}}

-- Where each part between commas tells an area, the text is read exactly where these areas make a layout.
abbrev pub AreasAreRead : Type 0
AreasAreRead = (reserves : ℕ) → (1 ≤ reserves) × (reserves ≤ 8) → (text : Text) (areas : List (ℕ × ℕ))
    → all_areas (slice_split is_comma text) ≡ Some areas
    → (areas_in_word text ≡ Some areas) ↔ MakeLayout areas reserves

-- Where a number of buffers and a size are read, the one area is read exactly where it makes a layout.
abbrev pub OneAreaIsRead : Type 0
OneAreaIsRead = (reserves : ℕ) → (1 ≤ reserves) × (reserves ≤ 8) → (number size : Option Text) (buffers bytes : ℕ)
    → number_or 64 1 4096 number ≡ Some buffers → buffer_size_of size ≡ Some bytes
    → (one_area number size ≡ Some ((buffers, bytes) ∷ [])) ↔ MakeLayout ((buffers, bytes) ∷ []) reserves

-- What is read makes a layout: one area, or those of a text.
abbrev pub PoolsMakeLayouts : Type 0
PoolsMakeLayouts = (reserves : ℕ) → (1 ≤ reserves) × (reserves ≤ 8) → (value : Text → Option Text) (areas : List (ℕ × ℕ))
    → pool_areas_of value ≡ Some areas
    → MakeLayout areas reserves
