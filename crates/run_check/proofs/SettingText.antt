-- The first line of a record and what is read of it.
use Rattle.std.proofs.Common.{◌≡◌, ◌∙◌, ℕ, ◌<◌, ◌≤◌, ◌^◌, List, [], ◌∷◌, length, map, All, Bool, true, false, refl, sym, ap, arith, rules, inl, inr, suc}
use Rattle.std.{proofs.Common.{Option, Some, None, option_map, lit<}, specs.{Prelude.{◌==◌, if◌then◌else◌, option_and_then, codes}, Fmt.{decimal}}}
use Rattle.std.{specs.{List.{AllByRecursion, join_with_byte}, Str.{bytes_eq}}, proofs.lemmas.{Slice.Eq.{bytes_eq-Decides}, List.Splits.{join_with_byte-slice_split}}}
use Rattle.zr_kinds.specs.{Setting.{IsRunArea, IsSetting, Setting}, RunText.{RecordText, area_text, run_line}}
use Rattle.run_check.specs.Reading.{all_run_areas, all_of, area_by, area_in_line, number_in_word, parts_of, setting_by, setting_from, setting_of}
use Rattle.run_check.proofs.AllOf.{first_and_rest}
use Rattle.run_check.proofs.{Numerals.{decimal-number_of, number_of-decimal}, Parting.{Lacks, lacks_decimal, lacks_from_test, lacks_joined, parts_of-joined}}

-- ---- an area

area_small : (area : ℕ × ℕ) → IsRunArea area → (area.0 < 2 ^ 32) × (area.1 < 2 ^ 32)
area_small area is = (omega (arith, is.buffers.1), omega (arith, is.size.most))

area_read : (b s : ℕ) → b < 2 ^ 32 → s < 2 ^ 32 → area_by (decimal b ∷ decimal s ∷ []) ≡ Some (b, s)
area_read b s small_b small_s = rw (number_of-decimal b small_b, number_of-decimal s small_s) refl

area_of-area_text : (area : ℕ × ℕ) → IsRunArea area → area_in_line (area_text area) ≡ Some area
area_of-area_text area is =
    let small = area_small area is in
    ap area_by (parts_of-joined 58 (decimal area.0) (decimal area.1 ∷ []) (lacks_decimal 58 area.0 (inr (lit< tt)) small.0)
    (lacks_decimal 58 area.1 (inr (lit< tt)) small.1, tt)) ∙ area_read area.0 area.1 small.0 small.1

area_lacks : (byte : ℕ) (area : ℕ × ℕ) → (58 == byte) ≡ false → byte < 48 → IsRunArea area → Lacks byte (area_text area)
area_lacks byte area other low is =
    let small = area_small area is in
    lacks_joined byte 58 (decimal area.0 ∷ decimal area.1 ∷ []) other (lacks_decimal byte area.0 (inl low) small.0, (lacks_decimal byte area.1 (inl low) small.1, tt))

areas_lack : (byte : ℕ) (areas : List (ℕ × ℕ)) → (58 == byte) ≡ false → byte < 48 → All IsRunArea areas → AllByRecursion (Lacks byte) (map area_text areas)
areas_lack byte [] other low each = tt
areas_lack byte (area ∷ areas) other low each =
    (area_lacks byte area other low (each 0 area (omega arith)), areas_lack byte areas other low (λ k d lt. each (suc k) d (omega arith)))

all_areas-area_text : (areas : List (ℕ × ℕ)) → All IsRunArea areas → all_run_areas (map area_text areas) ≡ Some areas
all_areas-area_text [] each = refl
all_areas-area_text (area ∷ areas) each =
    let first = area_of-area_text area (each 0 area (omega arith)) in
    let rest = all_areas-area_text areas (λ k d lt. each (suc k) d (omega arith)) in
    rw (first, rest) refl

-- ---- the line

areas_read : (areas : List (ℕ × ℕ)) → 1 ≤ length areas → All IsRunArea areas
    → all_run_areas (parts_of 44 (join_with_byte 44 (map area_text areas))) ≡ Some areas
areas_read [] some each = absurd (omega arith)
areas_read (area ∷ areas) some each =
    let lack = areas_lack 44 (area ∷ areas) refl (lit< tt) each in
    ap all_run_areas (parts_of-joined 44 (area_text area) (map area_text areas) lack.0 lack.1) ∙ all_areas-area_text (area ∷ areas) each

from_read : (s : Setting) → IsSetting s → setting_from (join_with_byte 44 (map area_text s.areas)) (decimal s.apps) ≡ Some s
from_read s sound =
    let apps = number_of-decimal s.apps (omega (arith, sound.apps.1)) in
    let areas = areas_read s.areas sound.areas.some sound.areas.each in
    rw (apps, areas) refl

words_lack : (byte : ℕ) (s : Setting) → (58 == byte) ≡ false → (44 == byte) ≡ false → byte < 48 → IsSetting s
    → AllByRecursion (Lacks byte) (join_with_byte 44 (map area_text s.areas) ∷ decimal s.apps ∷ [])
words_lack byte s colon comma low sound = (
  lacks_joined byte 44 (map area_text s.areas) comma (areas_lack byte s.areas colon low sound.areas.each),
  (lacks_decimal byte s.apps (inl low) (omega (arith, sound.apps.1)), tt),
)

pub setting_of-run_line : (s : Setting) → IsSetting s → setting_of (run_line s) ≡ Some s
unfolding run_line
setting_of-run_line s sound =
    ap setting_by (parts_of-joined 32 (codes "run") (join_with_byte 44 (map area_text s.areas) ∷ decimal s.apps ∷ []) (lacks_from_test 32 (codes "run") refl)
    (words_lack 32 s refl refl (lit< tt) sound)) ∙ from_read s sound

pub run_line-one : (s : Setting) → IsSetting s → Lacks 10 (run_line s)
unfolding run_line
run_line-one s sound =
    lacks_joined 10 32 (codes "run" ∷ join_with_byte 44 (map area_text s.areas) ∷ decimal s.apps ∷ []) refl
    (lacks_from_test 10 (codes "run") refl, words_lack 10 s refl refl (lit< tt) sound)

-- ---- back

pub same_text : (name : RecordText) (other : RecordText) → bytes_eq name other ≡ true → name ≡ other
same_text name other t = search (rules, bytes_eq-Decides)

pair_of : (b s : Option ℕ) (area : ℕ × ℕ) → option_and_then (λ x. option_map (λ y. (x, y)) s) b ≡ Some area
    → (b ≡ Some area.0) × (s ≡ Some area.1)
pair_of None s area is = cc
pair_of (Some b) None area is = cc
pair_of (Some b) (Some s) area is = let same : (b, s) ≡ area = cc in (ap (λ p. Some p.0) same, ap (λ p. Some p.1) same)

area_from : (words : List RecordText) (area : ℕ × ℕ) → area_by words ≡ Some area → words ≡ decimal area.0 ∷ decimal area.1 ∷ []
area_from [] area is = cc
area_from (b ∷ []) area is = cc
area_from (b ∷ s ∷ []) area is =
    let parts = pair_of (number_in_word b) (number_in_word s) area is in
    let first = decimal-number_of b area.0 parts.0 in
    let second = decimal-number_of s area.1 parts.1 in
    let one : b ≡ decimal area.0 = first.0 in
    let two : s ≡ decimal area.1 = second.0 in
    cc
area_from (b ∷ s ∷ more ∷ words) area is = cc

area_text-area_of : (part : RecordText) (area : ℕ × ℕ) → area_in_line part ≡ Some area → part ≡ area_text area
area_text-area_of part area is = sym (join_with_byte-slice_split 58 part) ∙ ap (join_with_byte 58) (area_from (parts_of 58 part) area is)

area_texts : (parts : List RecordText) (areas : List (ℕ × ℕ)) → all_run_areas parts ≡ Some areas → parts ≡ map area_text areas
area_texts [] [] is = refl
area_texts [] (area ∷ areas) is = cc
area_texts (part ∷ parts) areas is =
    let found = first_and_rest (area_in_line part) (all_of area_in_line parts) areas is in
    let first : part ≡ area_text found.0 = area_text-area_of part found.0 found.2 in
    let rest : parts ≡ map area_text found.1 = area_texts parts found.1 found.3 in
    rw found.4 cc

setting_parts : (apps : Option ℕ) (areas : Option (List (ℕ × ℕ))) (s : Setting)
    → option_and_then (λ n. option_map (λ all. record { areas = all; apps = n }) areas) apps ≡ Some s → (apps ≡ Some s.apps) × (areas ≡ Some s.areas)
setting_parts None areas s is = cc
setting_parts (Some n) None s is = cc
setting_parts (Some n) (Some all) s is =
    let built : Setting = record { areas = all; apps = n } in
    let same : built ≡ s = cc in (ap (λ t. Some t.apps) same, ap (λ t. Some t.areas) same)

named_run : (t : Bool) (inner : Option Setting) (s : Setting) → (if t then inner else None) ≡ Some s → (t ≡ true) × (inner ≡ Some s)
named_run true inner s is = (refl, is)
named_run false inner s is = cc

from_words : (words : List RecordText) (s : Setting) → setting_by words ≡ Some s
    → words ≡ codes "run" ∷ join_with_byte 44 (map area_text s.areas) ∷ decimal s.apps ∷ []
from_words [] s is = cc
from_words (name ∷ []) s is = cc
from_words (name ∷ areas ∷ []) s is = cc
from_words (name ∷ areas ∷ apps ∷ []) s is =
    let outer = named_run (bytes_eq name (codes "run")) (setting_from areas apps) s is in
    let parts = setting_parts (number_in_word apps) (all_run_areas (parts_of 44 areas)) s outer.1 in
    let number = decimal-number_of apps s.apps parts.0 in
    let name_is : name ≡ codes "run" = same_text name (codes "run") outer.0 in
    let apps_are : apps ≡ decimal s.apps = number.0 in
    let areas_are : areas ≡ join_with_byte 44 (map area_text s.areas) =
    sym (join_with_byte-slice_split 44 areas) ∙ ap (join_with_byte 44) (area_texts (parts_of 44 areas) s.areas parts.1) in
    cc
from_words (name ∷ areas ∷ apps ∷ more ∷ words) s is = cc

pub run_line-setting_of : (line : RecordText) (s : Setting) → setting_of line ≡ Some s → line ≡ run_line s
unfolding run_line
run_line-setting_of line s is = sym (join_with_byte-slice_split 32 line) ∙ ap (join_with_byte 32) (from_words (parts_of 32 line) s is)
