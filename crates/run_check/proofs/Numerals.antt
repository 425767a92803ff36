-- Numbers as words: what is read of a word is what is written of a number.
use Rattle.std.proofs.Common.{◌≡◌, ℕ, ◌+◌, ◌-◌, ◌*◌, ◌<◌, ◌≤◌, ◌^◌, ◌∙◌, List, [], ◌∷◌, length, take, get_or, Bool, true, false, refl, sym, ap}
use Rattle.std.{proofs.Common.{Some, None, if◌then◌else◌, arith, rules, zero, suc, lit<, lit≤}, specs.Prelude.{map, ◌&&◌, ◌||◌, nat_lt, nat_le, ◌==◌}}
use Rattle.std.{specs.{Char.{is_ascii_digit, digit_value}, Fmt.{decimal}, List.{list_all, AllByRecursion}, Str.Parse.{digits_value}}, proofs.lemmas.Bool.{false≢true}}
use Rattle.std.proofs.lemmas.{Bool.Decides.{nat_tests}, Int.Digits.{digits_value_more}}
use Rattle.std.proofs.lemmas.Fmt.{decimal-digits_value, digits_decimal, digits_value-decimal, decimal_nonempty, first_decimal, length-decimal-le, decimal_digit}
use Rattle.std.proofs.lemmas.Str.Parse.{IsNumeralModel, numerals_by_value, digits_value_short, digits_value-take-le, digit_at}
use Rattle.run_check.{specs.Reading.{is_numeral, number_in_word, all_numbers}, proofs.AllOf.{first_and_rest}}

pub own : IsNumeralModel (λ word. list_all is_ascii_digit word ≡ true) (digits_value 10)
own = numerals_by_value _ (search rules)

-- what `is_numeral` tests
pub record HasForm (word : List ℕ) : Type 0 where
  pub some : 1 ≤ length word
  pub short : length word ≤ 10
  pub digits : list_all is_ascii_digit word ≡ true
  pub first : get_or word 0 0 ≡ 48 → length word ≡ 1

and_parts : (a b : Bool) → (a && b) ≡ true → (a ≡ true) × (b ≡ true)
and_parts true b h = (refl, h)
and_parts false b h = absurd (false≢true h)

abbrev first_test : List ℕ → Bool
first_test word = (length word == 1) || (if get_or word 0 0 == 48 then false else true)

first_zero : (word : List ℕ) → first_test word ≡ true → get_or word 0 0 ≡ 48 → length word ≡ 1
first_zero word h is_zero = grind (arith, nat_tests)

pub form : (word : List ℕ) → is_numeral word ≡ true → HasForm word
form word h =
    let last = and_parts (nat_le 1 (length word) && nat_le (length word) 10 && list_all is_ascii_digit word) (first_test word) h in
    let third = and_parts (nat_le 1 (length word) && nat_le (length word) 10) (list_all is_ascii_digit word) last.0 in
    let sizes = and_parts (nat_le 1 (length word)) (nat_le (length word) 10) third.0 in
    let least = sizes.0 in
    let most = sizes.1 in
    record {
      some = grind (arith, nat_tests, least);
      short = grind (arith, nat_tests, most);
      digits = third.1;
      first = first_zero word last.1;
    }

pub formed : (word : List ℕ) → HasForm word → is_numeral word ≡ true
formed word f =
    let digits = f.digits in
    grind (arith, nat_tests, f.some, f.short, f.digits, f.first)

-- ---- the value of a word, digit by digit

pub below_ten_digits : (word : List ℕ) → is_numeral word ≡ true → digits_value 10 word < 10 ^ 10
below_ten_digits word h = let f = form word h in digits_value_short own word 10 f.digits f.short

digit_of : (c : ℕ) → 48 ≤ c → c ≤ 57 → digit_value c ≡ c - 48
digit_of c low high = grind (arith, nat_tests)

pub next_digit : (word : List ℕ) (i : ℕ) → is_numeral word ≡ true → i < length word
    → digits_value 10 (take (i + 1) word) ≡ digits_value 10 (take i word) * 10 + (get_or word i 0 - 48)
next_digit word i h lt =
    let f = form word h in
    let range = digit_at word i (own.to word f.digits) lt in
    digits_value_more 10 word i lt ∙ ap (λ d. digits_value 10 (take i word) * 10 + d) (digit_of (get_or word i 0) range.0 range.1)

pub next_fits : (word : List ℕ) (i : ℕ) → is_numeral word ≡ true → i < length word
    → digits_value 10 (take i word) * 10 + (get_or word i 0 - 48) < 10 ^ 10
next_fits word i h lt =
    omega (arith, next_digit word i h lt, digits_value-take-le 10 word (i + 1) (lit≤ tt), below_ten_digits word h)

-- ---- there and back

first_of_zero : (n : ℕ) → n < 2 ^ 64 → get_or (decimal n) 0 0 ≡ 48 → length (decimal n) ≡ 1
first_of_zero zero small h = ap length (decimal_digit 0 (lit< tt))
first_of_zero (suc n) small h = absurd (omega (arith, first_decimal (suc n) (omega arith) small))

written : (n : ℕ) → n < 2 ^ 32 → HasForm (decimal n)
written n small =
    let wide : n < 2 ^ 64 = omega arith in
    record {
      some = omega (arith, decimal_nonempty n wide);
      short = length-decimal-le 10 n (lit< tt) (omega arith) wide;
      digits = digits_decimal own n wide;
      first = first_of_zero n wide;
    }

pub number_of-decimal : (n : ℕ) → n < 2 ^ 32 → number_in_word (decimal n) ≡ Some n
number_of-decimal n small =
    let value : digits_value 10 (decimal n) ≡ n = digits_value-decimal own n (omega arith) in
    let formed : is_numeral (decimal n) ≡ true = formed (decimal n) (written n small) in
    let fits : nat_lt n (2 ^ 32) ≡ true = grind (arith, nat_tests) in
    rw (formed, value, fits) refl

pub decimal-number_of : (word : List ℕ) (n : ℕ) → number_in_word word ≡ Some n → (word ≡ decimal n) × (n < 2 ^ 32)
decimal-number_of word n is = go (is_numeral word) refl
  where
    go : (b : Bool) → is_numeral word ≡ b → (word ≡ decimal n) × (n < 2 ^ 32)
    go false e = let bad : None ≡ Some n = rw e at is in cc
    go true e = sized (nat_lt (digits_value 10 word) (2 ^ 32)) refl
      where
        sized : (b : Bool) → nat_lt (digits_value 10 word) (2 ^ 32) ≡ b → (word ≡ decimal n) × (n < 2 ^ 32)
        sized false f = let bad : None ≡ Some n = rw (e, f) at is in cc
        sized true f =
            let same : Some (digits_value 10 word) ≡ Some n = rw (e, f) at is in
            let value : digits_value 10 word ≡ n = cc in
            let small : digits_value 10 word < 2 ^ 32 = grind (arith, nat_tests) in
            let shape = form word e in
            (sym (decimal-digits_value own word shape.digits shape.some shape.first (omega arith)) ∙ ap decimal value, omega arith)

-- ---- the numbers of all words

abbrev pub AreSmall : List ℕ → Type 0
AreSmall numbers = AllByRecursion (λ number. number < 2 ^ 32) numbers

pub all_numbers-decimal : (numbers : List ℕ) → AreSmall numbers → all_numbers (map decimal numbers) ≡ Some numbers
all_numbers-decimal [] small = refl
all_numbers-decimal (n ∷ numbers) small = rw (number_of-decimal n small.0, all_numbers-decimal numbers small.1) refl

pub decimal-all_numbers : (words : List (List ℕ)) (numbers : List ℕ) → all_numbers words ≡ Some numbers
    → (words ≡ map decimal numbers) × AreSmall numbers
decimal-all_numbers [] [] is = (refl, tt)
decimal-all_numbers [] (n ∷ numbers) is = cc
decimal-all_numbers (word ∷ words) numbers is =
    let parts = first_and_rest (number_in_word word) (all_numbers words) numbers is in
    let first = decimal-number_of word parts.0 parts.2 in
    let below = decimal-all_numbers words parts.1 parts.3 in
    rw parts.4 (ap2 first.0 below.0, (first.1, below.1))
  where
    ap2 : {x y : List ℕ} {xs ys : List (List ℕ)} → x ≡ y → xs ≡ ys → x ∷ xs ≡ y ∷ ys
    ap2 p q = cc
