-- The areas of a replay's pool, as words tell them: each by its number of buffers and their size.
use Rattle.std.specs.Prelude.{ℕ, ◌*◌, Bool, List, [], ◌∷◌, length, sum_by, nat_le, ◌==◌, ◌&&◌, if◌then◌else◌, Option, Some, None, option_map, option_and_then, codes}
use Rattle.std.specs.List.{list_any, before_first, after_first, slice_split}
use Rattle.command_words.specs.{Assigned.{Text}, Numbers.{in_range}, Options.{given, number_or, buffer_size_of}}

abbrev pub is_colon : ℕ → Bool
is_colon byte = byte == 58

abbrev pub is_comma : ℕ → Bool
is_comma byte = byte == 44

-- the number and the size that stand before and behind the first colon
abbrev pub area_in_word : Text → Option (ℕ × ℕ)
area_in_word text =
    if list_any is_colon text
    then given (in_range 1 4096 (before_first is_colon text)) (λ buffers.
    option_map (λ size. (buffers, size)) (buffer_size_of (Some (after_first is_colon text))))
    else None

abbrev pub all_areas : List Text → Option (List (ℕ × ℕ))
all_areas [] = Some []
all_areas (part ∷ parts) = option_and_then (λ area. option_map (λ areas. area ∷ areas) (all_areas parts)) (area_in_word part)

-- the buffers of all areas together are at most 4,096, of at most 64 MiB
abbrev pub fit_together : List (ℕ × ℕ) → Bool
fit_together areas =
    nat_le (sum_by (λ (a : ℕ × ℕ). a.0) areas) 4096 && nat_le (sum_by (λ (a : ℕ × ℕ). a.0 * a.1) areas) 67108864

-- the areas of these parts; None where a part is no area, or where there are more than four
abbrev pub few_areas : List Text → Option (List (ℕ × ℕ))
few_areas parts = given (all_areas parts) (λ areas. if nat_le (length areas) 4 then Some areas else None)

-- one to four areas, between commas
abbrev pub areas_in_word : Text → Option (List (ℕ × ℕ))
areas_in_word text = given (few_areas (slice_split is_comma text)) (λ areas. if fit_together areas then Some areas else None)

-- one area, by what was said of its number of buffers and of their size
abbrev pub one_area : Option Text → Option Text → Option (List (ℕ × ℕ))
one_area number size =
    given (number_or 64 1 4096 number) (λ buffers.
    given (buffer_size_of size) (λ bytes.
    if nat_le (buffers * bytes) 67108864 then Some ((buffers, bytes) ∷ []) else None))

-- the areas that are said, and then neither a number nor a size stands beside them; or else one area
abbrev pub areas_or : Option Text → Option Text → Option Text → Option (List (ℕ × ℕ))
areas_or None number size = one_area number size
areas_or (Some text) None None = areas_in_word text
areas_or (Some text) number size = None

-- the areas by the value of each option
unfoldable pub pool_areas_of : (Text → Option Text) → Option (List (ℕ × ℕ))
pool_areas_of value = areas_or (value (codes "areas")) (value (codes "buffers")) (value (codes "size"))
