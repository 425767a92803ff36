-- A word of digits is parsed to its value.
use Rattle.std.{proofs.Common.{◌≡◌, ℕ, ◌<◌, ◌≤◌, ◌^◌, List, [], ◌∷◌, length, true, refl, ap, subst, sym, Result, Ok, arith}, specs.Char.{is_ascii_digit}}
use Rattle.std.specs.{List.{list_all}, Str.{all_ascii_digits, Parse.{ParsesUnsigned, digits_value}}}
use Rattle.std.{proofs.lemmas.Str.Parse.{IsNumeralModel, numerals_by_value, tells_all_ascii_digits, parse_gives, digits_value_short}, specs.Prelude.{◌&&◌, nat_le}}
use Rattle.std.proofs.lemmas.Bool.{and_parts, Decides.{nat_tests}}
use Rattle.command_words.specs.Numbers.{is_number}

digits_alike : (word : List ℕ) → all_ascii_digits word ≡ list_all is_ascii_digit word
digits_alike [] = refl
digits_alike (c ∷ cs) = ap (λ b. is_ascii_digit c && b) (digits_alike cs)

own : IsNumeralModel (λ word. all_ascii_digits word ≡ true) (digits_value 10)
own = numerals_by_value _ tells_all_ascii_digits

parsed : {E : Type 0} (word : List ℕ) (result : Result ℕ E) → ParsesUnsigned 64 10 word result → list_all is_ascii_digit word ≡ true
    → 1 ≤ length word → length word ≤ 18 → result ≡ Ok (digits_value 10 word)
parsed word result parses digits some short =
    let all : all_ascii_digits word ≡ true = subst (λ b. b ≡ true) (sym (digits_alike word)) digits in
    let below : digits_value 10 word < 10 ^ 18 = digits_value_short own word 18 all short in
    parse_gives own 64 word result parses all (omega arith) (omega arith)

pub read : {E : Type 0} (word : List ℕ) (result : Result ℕ E) → ParsesUnsigned 64 10 word result → is_number word ≡ true
    → result ≡ Ok (digits_value 10 word)
read word result parses number =
    let digits = and_parts (nat_le 1 (length word) && nat_le (length word) 18) (list_all is_ascii_digit word) number in
    let sizes = and_parts (nat_le 1 (length word)) (nat_le (length word) 18) digits.0 in
    parsed word result parses digits.1 (grind (arith, nat_tests, sizes.0)) (grind (arith, nat_tests, sizes.1))
