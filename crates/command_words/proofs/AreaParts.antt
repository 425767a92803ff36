-- The areas of a text, one part after another.
use Rattle.std.proofs.Common.{◌≡◌, ◌≢◌, ◌<◌, ◌≤◌, ◌++◌, ◌∙◌, ℕ, Bool, true, false, List, [], ◌∷◌, length, get_or, refl, sym, ap, arith}
use Rattle.std.{proofs.Common.{Option, Some, None, option_map, All, append_assoc, append-nil}, specs.Prelude.{option_and_then, nat_le, if◌then◌else◌}}
use Rattle.std.{specs.List.{slice_split}, proofs.lemmas.{Bool.{ne_eqb, Decides.{nat_tests}}, List.{get_or_default, length-append}}}
use Rattle.std.proofs.lemmas.List.Splits.{slice_split_at, slice_split_none}
use Rattle.command_words.{specs.{Assigned.{Text}, Areas.{is_comma, area_in_word, all_areas, few_areas}}, proofs.AreaRanges.{all-made}}

free_of : (xs : Text) → ((i : ℕ) → i < length xs → get_or xs i 0 ≢ 44) → All (λ x. is_comma x ≡ false) xs
free_of xs none = λ k d lt. ne_eqb (get_or xs k d) 44 (λ e. none k lt (get_or_default xs k 0 d lt ∙ e))

-- a text without a comma is one part
pub one-part : (rest : Text) → ((i : ℕ) → i < length rest → get_or rest i 0 ≢ 44) → slice_split is_comma rest ≡ rest ∷ []
one-part rest none = slice_split_none is_comma rest (free_of rest none)

-- what stands before the first comma is the first part
pub first-part : (rest part more : Text) → rest ≡ part ++ 44 ∷ more → ((i : ℕ) → i < length part → get_or part i 0 ≢ 44)
    → slice_split is_comma rest ≡ part ∷ slice_split is_comma more
first-part rest part more whole none = ap (slice_split is_comma) whole ∙ slice_split_at is_comma part 44 more (free_of part none) refl

abbrev pub onto : List (ℕ × ℕ) → Option (List (ℕ × ℕ)) → Option (List (ℕ × ℕ))
onto areas = option_map (λ others. areas ++ others)

abbrev first_then : Option (ℕ × ℕ) → Option (List (ℕ × ℕ)) → Option (List (ℕ × ℕ))
first_then area others = option_and_then (λ a. option_map (λ areas. a ∷ areas) others) area

onto_next : (areas : List (ℕ × ℕ)) (a : ℕ × ℕ) (others : Option (List (ℕ × ℕ))) → onto areas (first_then (Some a) others) ≡ onto (areas ++ a ∷ []) others
onto_next areas a None = refl
onto_next areas a (Some others) = ap Some (sym (append_assoc areas (a ∷ []) others))

module _ (parts rest : List Text) (areas : List (ℕ × ℕ)) (before : all_areas parts ≡ onto areas (all_areas rest)) where
  -- a part that is no area
  pub no-area : (part : Text) (more : List Text) → rest ≡ part ∷ more → None ≡ area_in_word part → None ≡ few_areas parts
  no-area part more is none =
      let gone : all_areas parts ≡ None = before ∙ ap (λ r. onto areas (all_areas r)) is ∙ ap (λ o. onto areas (first_then o (all_areas more))) (sym none) in
      sym (ap (option_and_then (λ found. if nat_le (length found) 4 then Some found else None)) gone)

  -- an area more
  pub next-area : (part : Text) (more : List Text) (a : ℕ × ℕ) → rest ≡ part ∷ more → Some a ≡ area_in_word part
      → all_areas parts ≡ onto (areas ++ a ∷ []) (all_areas more)
  next-area part more a is some =
      before ∙ ap (λ r. onto areas (all_areas r)) is ∙ ap (λ o. onto areas (first_then o (all_areas more))) (sym some)
      ∙ onto_next areas a (all_areas more)

  -- the last area, of no more than four
  pub last-area : (part : Text) (a : ℕ × ℕ) → rest ≡ part ∷ [] → Some a ≡ area_in_word part → length areas < 4 → Some (areas ++ a ∷ []) ≡ few_areas parts
  last-area part a is some few =
      let all : all_areas parts ≡ Some (areas ++ a ∷ []) = next-area part [] a is some ∙ ap Some (append-nil (areas ++ a ∷ [])) in
      let many = length-append areas (a ∷ []) in
      let fits : nat_le (length (areas ++ a ∷ [])) 4 ≡ true = grind (arith, nat_tests, many, few) in
      sym (ap (option_and_then (λ found. if nat_le (length found) 4 then Some found else None)) all
      ∙ ap (λ (b : Bool). if b then Some (areas ++ a ∷ []) else None) fits)

  -- four, and a part more
  pub too-many : 4 ≤ length areas → 1 ≤ length rest → None ≡ few_areas parts
  too-many four some = go (all_areas rest) (λ others at. (all-made rest others at).1) before
    where
      go : (o : Option (List (ℕ × ℕ))) → ((others : List (ℕ × ℕ)) → o ≡ Some others → length others ≡ length rest) → all_areas parts ≡ onto areas o
          → None ≡ few_areas parts
      go None many all = sym (ap (option_and_then (λ found. if nat_le (length found) 4 then Some found else None)) all)
      go (Some others) many all =
          let count = many others refl in
          let joined = length-append areas others in
          let above : nat_le (length (areas ++ others)) 4 ≡ false = grind (arith, nat_tests, count, joined, four, some) in
          sym (ap (option_and_then (λ found. if nat_le (length found) 4 then Some found else None)) all
          ∙ ap (λ (b : Bool). if b then Some (areas ++ others) else None) above)
