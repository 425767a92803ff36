-- The areas that are read, with some reserves, make a layout; and those that make one are read.
use Rattle.std.proofs.Common.{◌≡◌, ◌≤◌, ◌*◌, ℕ, Bool, true, false, zero, suc, refl, subst, ap, ◌∙◌, arith}
use Rattle.std.{proofs.Common.{List, [], ◌∷◌, length, Option, Some, None, option_map, All, codes}, specs.Prelude.{◌↔◌, nat_le, sum_by, if◌then◌else◌}}
use Rattle.std.{specs.List.{list_any, before_first, after_first, slice_split}, proofs.lemmas.List.Splits.{length-slice_split}}
use Rattle.std.proofs.lemmas.{Option.{option_and_then_some, same_Some}, Bool.{Decides.{nat_tests}, and_parts}}
use Rattle.area_layout.specs.Layout.{IsArea, MakeLayout}
use Rattle.command_words.specs.{Assigned.{Text}, Numbers.{in_range, value_of}, Options.{number_or, buffer_size_of}}
use Rattle.command_words.specs.Areas.{is_colon, is_comma, area_in_word, all_areas, few_areas, fit_together, areas_in_word, one_area, areas_or, pool_areas_of}
use Rattle.command_words.proofs.Ranges.{IsSize, passed, read-within, number_or-within, size_of-sized}

-- what a test lets through, where there may be nothing
chosen : {A : Type 0} (test : Bool) (o : Option A) (y : A) → (if test then o else None) ≡ Some y → o ≡ Some y
chosen true o y is = is
chosen false o y is = cc

sized : (buffers size : ℕ) → (1 ≤ buffers) × (buffers ≤ 4096) → IsSize size → IsArea buffers size
sized buffers size some is = record { some = some; fits = record { power = is.0; least = is.1.0; most = is.1.1 } }

pair_of : (buffers : ℕ) (size : Option ℕ) (a : ℕ × ℕ) → (1 ≤ buffers) × (buffers ≤ 4096) → ((s : ℕ) → size ≡ Some s → IsSize s)
    → option_map (λ s. (buffers, s)) size ≡ Some a → IsArea a.0 a.1
pair_of buffers None a some is_size is = cc
pair_of buffers (Some size) a some is_size is =
    subst (λ (p : ℕ × ℕ). IsArea p.0 p.1) (same_Some (buffers, size) a is) (sized buffers size some (is_size size refl))

area-made : (text : Text) (a : ℕ × ℕ) → area_in_word text ≡ Some a → IsArea a.0 a.1
area-made text a is =
    option_and_then_some _ (in_range 1 4096 (before_first is_colon text)) a (chosen (list_any is_colon text) _ a is) (λ buffers buffers_is with_size.
    pair_of buffers (buffer_size_of (Some (after_first is_colon text))) a (read-within 1 4096 (value_of (before_first is_colon text)) buffers buffers_is)
    (λ size size_is. size_of-sized (Some (after_first is_colon text)) size size_is) with_size)

abbrev IsMade : ℕ × ℕ → Type 0
IsMade a = IsArea a.0 a.1

one_more : (a : ℕ × ℕ) (areas : List (ℕ × ℕ)) → IsMade a → All IsMade areas → All IsMade (a ∷ areas)
one_more a areas is all zero d lt = is
one_more a areas is all (suc k) d lt = all k d (omega arith)

behind : (area : ℕ × ℕ) (o : Option (List (ℕ × ℕ))) (areas : List (ℕ × ℕ)) (n : ℕ) → IsMade area
    → ((others : List (ℕ × ℕ)) → o ≡ Some others → All IsMade others × (length others ≡ n))
    → option_map (λ l. area ∷ l) o ≡ Some areas → All IsMade areas × (length areas ≡ suc n)
behind area None areas n made below rest = cc
behind area (Some others) areas n made below rest =
    let found = below others refl in
    let many = found.1 in
    subst (λ (l : List (ℕ × ℕ)). All IsMade l × (length l ≡ suc n)) (same_Some (area ∷ others) areas rest)
    (one_more area others made found.0, omega arith)

-- all areas are made, and there is one for each part
pub all-made : (parts : List Text) (areas : List (ℕ × ℕ)) → all_areas parts ≡ Some areas → All IsMade areas × (length areas ≡ length parts)
all-made [] areas is =
    subst (λ (l : List (ℕ × ℕ)). All IsMade l × (length l ≡ 0)) (same_Some [] areas is) ((λ k d lt. absurd (omega arith)), refl)
all-made (part ∷ parts) areas is =
    option_and_then_some _ (area_in_word part) areas is (λ area area_is rest.
    behind area (all_areas parts) areas (length parts) (area-made part area area_is) (λ others at. all-made parts others at) rest)

makes : (areas : List (ℕ × ℕ)) (reserves : ℕ) → (1 ≤ length areas) × (length areas ≤ 4) → All IsMade areas → fit_together areas ≡ true
    → (1 ≤ reserves) × (reserves ≤ 8) → MakeLayout areas reserves
makes areas reserves few each fit kept =
    let sums = and_parts (nat_le (sum_by (λ (a : ℕ × ℕ). a.0) areas) 4096) (nat_le (sum_by (λ (a : ℕ × ℕ). a.0 * a.1) areas) 67108864) fit in
    let buffers = sums.0 in
    let bytes = sums.1 in
    record { few = few; each = each; buffers = grind (arith, nat_tests, buffers); bytes = grind (arith, nat_tests, bytes); kept = kept }

module _ (reserves : ℕ) (kept : (1 ≤ reserves) × (reserves ≤ 8)) where
  -- the areas of a text
  areas-make : (text : Text) (areas : List (ℕ × ℕ)) → areas_in_word text ≡ Some areas → MakeLayout areas reserves
  areas-make text areas is =
      let parts = slice_split is_comma text in
      option_and_then_some _ (few_areas parts) areas is (λ found found_is fits.
      option_and_then_some _ (all_areas parts) found found_is (λ all all_are few.
      let most = passed (nat_le (length all) 4) all found few in
      let fit = passed (fit_together found) found areas fits in
      let made = all-made parts found (all_are ∙ ap Some most.1) in
      let count = length-slice_split is_comma text in
      let many = made.1 in
      let equal = most.1 in
      let four = most.0 in
      let within : length found ≤ 4 = grind (arith, nat_tests, equal, four) in
      subst (λ (l : List (ℕ × ℕ)). MakeLayout l reserves) fit.1 (makes found reserves (omega arith, within) made.0 fit.0 kept)))

  -- and the other way round
  pub areas-read : (text : Text) (areas : List (ℕ × ℕ)) → all_areas (slice_split is_comma text) ≡ Some areas
      → (areas_in_word text ≡ Some areas) ↔ MakeLayout areas reserves
  areas-read text areas all = (
    areas-make text areas,
    λ m.
        let most = m.few.1 in
        let buffers = m.buffers in
        let bytes = m.bytes in
        let few : nat_le (length areas) 4 ≡ true = grind (arith, nat_tests, most) in
        let number_fits : nat_le (sum_by (λ (a : ℕ × ℕ). a.0) areas) 4096 ≡ true = grind (arith, nat_tests, buffers) in
        let bytes_fit : nat_le (sum_by (λ (a : ℕ × ℕ). a.0 * a.1) areas) 67108864 ≡ true = grind (arith, nat_tests, bytes) in
        rw (all, few, number_fits, bytes_fit) refl,
  )

  -- one area
  one-makes : (number size : Option Text) (areas : List (ℕ × ℕ)) → one_area number size ≡ Some areas → MakeLayout areas reserves
  one-makes number size areas is =
      option_and_then_some _ (number_or 64 1 4096 number) areas is (λ buffers buffers_is with_size.
      option_and_then_some _ (buffer_size_of size) areas with_size (λ bytes bytes_is fits.
      let through = passed (nat_le (buffers * bytes) 67108864) ((buffers, bytes) ∷ []) areas fits in
      let few = through.0 in
      let some = number_or-within 64 1 4096 number buffers (omega arith, omega arith) buffers_is in
      let product : buffers * bytes ≤ 67108864 = grind (arith, nat_tests, few) in
      let made : IsMade (buffers, bytes) = sized buffers bytes some (size_of-sized size bytes bytes_is) in
      subst (λ (l : List (ℕ × ℕ)). MakeLayout l reserves) through.1 (record {
        few = (omega arith, omega arith);
        each = one_more (buffers, bytes) [] made (λ k d lt. absurd (omega arith));
        buffers = omega (arith, some.1);
        bytes = omega arith;
        kept = kept;
      })))

  -- and the other way round
  pub one-read : (number size : Option Text) (buffers bytes : ℕ) → number_or 64 1 4096 number ≡ Some buffers → buffer_size_of size ≡ Some bytes
      → (one_area number size ≡ Some ((buffers, bytes) ∷ [])) ↔ MakeLayout ((buffers, bytes) ∷ []) reserves
  one-read number size buffers bytes number_is size_is = (
    one-makes number size ((buffers, bytes) ∷ []),
    λ m.
        let most = m.bytes in
        let product : buffers * bytes ≤ 67108864 = omega (arith, most) in
        let fits : nat_le (buffers * bytes) 67108864 ≡ true = grind (arith, nat_tests, product) in
        rw (number_is, size_is, fits) refl,
  )

  either-makes : (text number size : Option Text) (areas : List (ℕ × ℕ)) → areas_or text number size ≡ Some areas → MakeLayout areas reserves
  either-makes None number size areas is = one-makes number size areas is
  either-makes (Some text) None None areas is = areas-make text areas is
  either-makes (Some text) None (Some size) areas is = cc
  either-makes (Some text) (Some number) None areas is = cc
  either-makes (Some text) (Some number) (Some size) areas is = cc

  -- the areas that are read make a layout
  pub pool-makes : (value : Text → Option Text) (areas : List (ℕ × ℕ)) → pool_areas_of value ≡ Some areas → MakeLayout areas reserves
  unfolding pool_areas_of
  pool-makes value areas is = either-makes (value (codes "areas")) (value (codes "buffers")) (value (codes "size")) areas is
