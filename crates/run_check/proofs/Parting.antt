-- Words that a byte parts, and lists of such words.
use Rattle.std.proofs.Common.{◌≡◌, ◌∙◌, ℕ, ◌<◌, ◌^◌, List, [], ◌∷◌, map, get_or, All, Bool, true, false, refl, ap, arith, not, ◌⊎◌, ⊎_elim}
use Rattle.std.{proofs.lemmas.Grind.{get_or_default_zero}, specs.{Prelude.{◌==◌, ◌&&◌}, Fmt.{decimal}, List.{AllByRecursion, join_with_byte, list_all}}}
use Rattle.std.proofs.lemmas.{Bool.Decides.{nat_tests}, List.{Splits.{slice_split_none, slice_split_at}, Elements.{All-append, All-cons}}, Fmt.{digits_decimal}}
use Rattle.std.proofs.lemmas.Str.Parse.{digit_at}
use Rattle.run_check.{specs.Reading.{parts_of}, proofs.Numerals.{AreSmall, own}}

-- the text has no such byte
abbrev pub Lacks : ℕ → List ℕ → Type 0
Lacks byte text = All (λ b. (b == byte) ≡ false) text

pub lacks_nothing : (byte : ℕ) → Lacks byte []
lacks_nothing byte k d lt = absurd (omega arith)

first_lacks : (t : Bool) (rest : Bool) → (not t && rest) ≡ true → (t ≡ false) × (rest ≡ true)
first_lacks true rest h = cc
first_lacks false rest h = (refl, h)

pub lacks_from_test : (byte : ℕ) (text : List ℕ) → list_all (λ b. not (b == byte)) text ≡ true → Lacks byte text
lacks_from_test byte [] h = lacks_nothing byte
lacks_from_test byte (b ∷ text) h = let parts = first_lacks (b == byte) _ h in All-cons (λ x. (x == byte) ≡ false) b text parts.0 (lacks_from_test byte text parts.1)

-- ---- the words that were joined

pub parts_of-joined : (byte : ℕ) (word : List ℕ) (words : List (List ℕ)) → Lacks byte word → AllByRecursion (Lacks byte) words
    → parts_of byte (join_with_byte byte (word ∷ words)) ≡ word ∷ words
parts_of-joined byte word [] first others = slice_split_none (λ b. b == byte) word first
parts_of-joined byte word (next ∷ words) first others =
    slice_split_at (λ b. b == byte) word byte (join_with_byte byte (next ∷ words)) first (grind (arith, nat_tests))
    ∙ ap (λ parts. word ∷ parts) (parts_of-joined byte next words others.0 others.1)

-- a byte that joins is not the one that lacks
pub lacks_joined : (byte by : ℕ) (words : List (List ℕ)) → (by == byte) ≡ false → AllByRecursion (Lacks byte) words
    → Lacks byte (join_with_byte by words)
lacks_joined byte by [] other lack = lacks_nothing byte
lacks_joined byte by (word ∷ []) other lack = lack.0
lacks_joined byte by (word ∷ next ∷ words) other lack =
    All-append (λ x. (x == byte) ≡ false) word (by ∷ join_with_byte by (next ∷ words)) lack.0 (All-cons (λ x. (x == byte) ≡ false) by (join_with_byte by (next ∷ words)) other (lacks_joined byte by (next ∷ words) other lack.1))

-- ---- numbers

apart : (a b : ℕ) → (a ≡ b → ⊥) → (a == b) ≡ false
apart a b other = grind (arith, nat_tests, other)

pub lacks_decimal : (byte n : ℕ) → (byte < 48) ⊎ (57 < byte) → n < 2 ^ 32 → Lacks byte (decimal n)
lacks_decimal byte n out small k d lt =
    let range = digit_at (decimal n) k (own.to (decimal n) (digits_decimal own n (omega arith))) lt in
    let same = get_or_default_zero (decimal n) k d lt in
    ⊎_elim (λ low. apart (get_or (decimal n) k d) byte (λ e. omega (arith, range.0, range.1))) (λ high. apart (get_or (decimal n) k d) byte (λ e. omega (arith, range.0, range.1))) out

pub lack_decimals : (byte : ℕ) (numbers : List ℕ) → (byte < 48) ⊎ (57 < byte) → AreSmall numbers → AllByRecursion (Lacks byte) (map decimal numbers)
lack_decimals byte [] out small = tt
lack_decimals byte (n ∷ numbers) out small = (lacks_decimal byte n out small.0, lack_decimals byte numbers out small.1)
