-- The lines of a run are short.
use Rattle.std.proofs.Common.{◌≡◌, ℕ, ◌+◌, ◌*◌, ◌++◌, ◌<◌, ◌≤◌, ◌^◌, List, [], ◌∷◌, length, map, All, Bool, true, false, refl, ap, arith, lit<, length-append, suc}
use Rattle.std.{specs.{Prelude.{codes}, Fmt.{decimal}, List.{AllByRecursion, join_with_byte}}, proofs.lemmas.Fmt.{length-decimal-le}}
use Rattle.zr_kinds.specs.{declared.event.Event.{Event}, Setting.{IsRunArea, IsSetting, Setting}, LegalRun.{HasSmallNumbers}}
use Rattle.zr_kinds.specs.RunText.{RecordText, area_text, last_line, line_of, name_of, numbers_of, run_line}
use Rattle.zr_kinds.specs.declared.event.Event.TheVariants as event
use Rattle.run_check.proofs.Numerals.{AreSmall}

joined_short : (byte most : ℕ) (word : RecordText) (words : List RecordText) → AllByRecursion (λ w. length w ≤ most) words
    → length (join_with_byte byte (word ∷ words)) ≤ length word + (most + 1) * length words
joined_short byte most word [] short = omega arith
joined_short byte most word (next ∷ words) short =
    let rest = joined_short byte most next words short.1 in
    let more : (most + 1) * suc (length words) ≡ (most + 1) + (most + 1) * length words = times_more (most + 1) (length words) in
    omega (arith, rest, more, short.0, length-append word (byte ∷ join_with_byte byte (next ∷ words)))
  where
    times_more : (n k : ℕ) → n * suc k ≡ n + n * k
    times_more n k = grind arith

decimal_short : (n : ℕ) → n < 2 ^ 32 → length (decimal n) ≤ 10
decimal_short n small = length-decimal-le 10 n (lit< tt) (omega arith) (omega arith)

decimals_short : (numbers : List ℕ) → AreSmall numbers → AllByRecursion (λ w. length w ≤ 10) (map decimal numbers)
decimals_short [] small = tt
decimals_short (n ∷ numbers) small = (decimal_short n small.0, decimals_short numbers small.1)

decimals_length : (numbers : List ℕ) → length (map decimal numbers) ≡ length numbers
decimals_length [] = refl
decimals_length (n ∷ numbers) = ap suc (decimals_length numbers)

name_short : (e : Event) → length (name_of e) ≤ 6
name_short (event.Take b p) = omega arith
name_short (event.Place b o l p) = omega arith
name_short (event.Sent a b o l) = omega arith
name_short (event.Held a b o l) = omega arith
name_short (event.Cut a b o l m p) = omega arith
name_short (event.Lend a b o l p u) = omega arith
name_short (event.Back a b o l u) = omega arith
name_short (event.Honour a b p u) = omega arith
name_short (event.Stray a) = omega arith
name_short (event.Free a b o l p) = omega arith
name_short (event.Spare a b p) = omega arith
name_short (event.Own a b l p u) = omega arith
name_short (event.Shut b p) = omega arith
name_short (event.Scrub a b p u) = omega arith

numbers_few : (e : Event) → length (numbers_of e) ≤ 6
numbers_few (event.Take b p) = omega arith
numbers_few (event.Place b o l p) = omega arith
numbers_few (event.Sent a b o l) = omega arith
numbers_few (event.Held a b o l) = omega arith
numbers_few (event.Cut a b o l m p) = omega arith
numbers_few (event.Lend a b o l p u) = omega arith
numbers_few (event.Back a b o l u) = omega arith
numbers_few (event.Honour a b p u) = omega arith
numbers_few (event.Stray a) = omega arith
numbers_few (event.Free a b o l p) = omega arith
numbers_few (event.Spare a b p) = omega arith
numbers_few (event.Own a b l p u) = omega arith
numbers_few (event.Shut b p) = omega arith
numbers_few (event.Scrub a b p u) = omega arith

pub line_of-short : (e : Event) → HasSmallNumbers e → length (line_of e) ≤ 128
unfolding line_of
line_of-short e small =
    omega (
      arith,
      joined_short 32 10 (name_of e) (map decimal (numbers_of e)) (decimals_short (numbers_of e) small),
      name_short e,
      numbers_few e,
      decimals_length (numbers_of e),
    )

pub last_line-short : (whole : Bool) → length (last_line whole) ≤ 128
last_line-short true = omega arith
last_line-short false = omega arith

area_short : (area : ℕ × ℕ) → IsRunArea area → length (area_text area) ≤ 21
area_short area is =
    omega (
      arith,
      length-append (decimal area.0) (58 ∷ decimal area.1),
      decimal_short area.0 (omega (arith, is.buffers.1)),
      decimal_short area.1 (omega (arith, is.size.most)),
    )

areas_short : (areas : List (ℕ × ℕ)) → All IsRunArea areas → AllByRecursion (λ w. length w ≤ 21) (map area_text areas)
areas_short [] each = tt
areas_short (area ∷ areas) each = (area_short area (each 0 area (omega arith)), areas_short areas (λ k d lt. each (suc k) d (omega arith)))

areas_length : (areas : List (ℕ × ℕ)) → length (map area_text areas) ≡ length areas
areas_length [] = refl
areas_length (area ∷ areas) = ap suc (areas_length areas)

all_short : (areas : List (ℕ × ℕ)) → length areas ≤ 4 → All IsRunArea areas → length (join_with_byte 44 (map area_text areas)) ≤ 87
all_short [] most each = omega arith
all_short (area ∷ areas) most each =
    let short = areas_short (area ∷ areas) each in
    omega (arith, joined_short 44 21 (area_text area) (map area_text areas) short.1, short.0, areas_length areas)

pub run_line-short : (s : Setting) → IsSetting s → length (run_line s) ≤ 128
unfolding run_line
run_line-short s sound =
    let areas = all_short s.areas sound.areas.most sound.areas.each in
    let apps = decimal_short s.apps (omega (arith, sound.apps.1)) in
    omega (
      arith,
      areas,
      apps,
      length-append (codes "run") (32 ∷ (join_with_byte 44 (map area_text s.areas) ++ 32 ∷ decimal s.apps)),
      length-append (join_with_byte 44 (map area_text s.areas)) (32 ∷ decimal s.apps),
    )
