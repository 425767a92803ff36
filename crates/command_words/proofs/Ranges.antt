-- The numbers and the text of turns that are read are in their ranges.
use Rattle.std.proofs.Common.{◌≡◌, ◌≤◌, ◌<◌, ◌+◌, ◌&&◌, ◌||◌, ◌⊎◌, ℕ, Bool, true, false, refl, subst, arith, length, Option, Some, None, All, codes}
use Rattle.std.specs.{Prelude.{IfSome, option_and_then, nat_le, nat_lt, if◌then◌else◌, ◌==◌}, Int.{IsPowerOfTwo}, List.{list_all, list_any}}
use Rattle.std.{proofs.lemmas.Option.{option_and_then_some, same_Some}, specs.Bool.{Decides}}
use Rattle.std.proofs.lemmas.Bool.{Decides.{nat_tests, Decides-and, Decides-or, Decides-eqb, Decides-ltb, Decides-by_and}, and_parts}
use Rattle.zr_kinds.specs.declared.behaviour.Behaviour.{Behaviour}
use Rattle.command_words.specs.{Assigned.{Text}, Numbers.{value_of, within}}
use Rattle.command_words.specs.Options.{IsTextOfTurns, are_turns, behaviour_of, is_turn, number_or, quit_of, buffer_size_of, sizes, turns_of}

abbrev Within : ℕ → ℕ → ℕ → Type 0
Within least most n = (least ≤ n) × (n ≤ most)

-- what a test lets through
pub passed : {A : Type 0} (test : Bool) (x y : A) → (if test then Some x else None) ≡ Some y → (test ≡ true) × (x ≡ y)
passed true x y is = (refl, same_Some x y is)
passed false x y is = cc

within-within : (least most number n : ℕ) → within least most number ≡ Some n → Within least most n
within-within least most number n is =
    let through = passed (nat_le least number && nat_le number most) number n is in
    let parts = and_parts (nat_le least number) (nat_le number most) through.0 in
    let low = parts.0 in
    let high = parts.1 in
    let equal = through.1 in
    (grind (arith, nat_tests, low, equal), grind (arith, nat_tests, high, equal))

pub read-within : (least most : ℕ) (value : Option ℕ) (n : ℕ) → option_and_then (within least most) value ≡ Some n → Within least most n
read-within least most None n is = cc
read-within least most (Some number) n is = within-within least most number n is

pub number_or-within : (default least most : ℕ) (said : Option Text) (n : ℕ) → Within least most default → number_or default least most said ≡ Some n
    → Within least most n
number_or-within default least most None n known is = subst (Within least most) (same_Some default n is) known
number_or-within default least most (Some word) n known is = read-within least most (value_of word) n is

-- ---- the size of a buffer

-- the first number, or one of the rest
first-or : (n size : ℕ) (rest : Bool) (P : ℕ → Type 0) → P n → (rest ≡ true → P size) → ((n == size) || rest) ≡ true → P size
first-or n size rest P here there among = go (n == size) refl
  where
    go : (b : Bool) → (n == size) ≡ b → P size
    go true e = let same : n ≡ size = grind (arith, nat_tests, e) in subst P same here
    go false e = there (rw e at among)

abbrev pub IsSize : ℕ → Type 0
IsSize size = IsPowerOfTwo size × Within 1024 65536 size

size-among : (size : ℕ) → list_any (λ n. n == size) sizes ≡ true → IsSize size
size-among size =
    first-or 1024 size _ IsSize ((10, refl), (omega arith, omega arith)) (
    first-or 2048 size _ IsSize ((11, refl), (omega arith, omega arith)) (
    first-or 4096 size _ IsSize ((12, refl), (omega arith, omega arith)) (
    first-or 8192 size _ IsSize ((13, refl), (omega arith, omega arith)) (
    first-or 16384 size _ IsSize ((14, refl), (omega arith, omega arith)) (
    first-or 32768 size _ IsSize ((15, refl), (omega arith, omega arith)) (
    first-or 65536 size false IsSize ((16, refl), (omega arith, omega arith)) (λ none. cc)))))))

pub size_of-sized : (said : Option Text) (size : ℕ) → buffer_size_of said ≡ Some size → IsSize size
size_of-sized said size is =
    option_and_then_some (λ size. if list_any (λ n. n == size) sizes then Some size else None) (number_or 4096 1024 65536 said) size is
    (λ number read chosen. let through = passed (list_any (λ n. n == number) sizes) number size chosen in
    subst IsSize through.1 (size-among number through.0))

-- ---- how an application behaves

unfoldable pub AreKept : Behaviour → Type 0
AreKept how = (how.hold ≤ 4096) × (how.leak ≤ 4096) × (how.stray ≤ 16)

pub behaviour_of-kept : (value : Text → Option Text) (how : Behaviour) → behaviour_of value ≡ Some how → AreKept how
unfolding behaviour_of AreKept
behaviour_of-kept value how is =
    option_and_then_some _ (number_or 0 0 4096 (value (codes "hold"))) how is (λ hold hold_is with_hold.
    option_and_then_some _ (number_or 0 0 4096 (value (codes "leak"))) how with_hold (λ leak leak_is with_leak.
    option_and_then_some _ (number_or 0 0 16 (value (codes "stray"))) how with_leak (λ stray stray_is with_stray.
    option_and_then_some _ (quit_of (value (codes "quit"))) how with_stray (λ quit quit_is whole.
    subst AreKept (same_Some _ how whole) (
      (number_or-within 0 0 4096 (value (codes "hold")) hold (omega arith, omega arith) hold_is).1,
      (number_or-within 0 0 4096 (value (codes "leak")) leak (omega arith, omega arith) leak_is).1,
      (number_or-within 0 0 16 (value (codes "stray")) stray (omega arith, omega arith) stray_is).1,
    )))))

-- ---- the text of turns

abbrev IsLetter : ℕ → ℕ → Type 0
IsLetter apps letter = (letter ≡ 110) ⊎ ((48 ≤ letter) × (letter < 48 + apps))

is_turn-decides : (apps letter : ℕ) → Decides (is_turn apps letter) (IsLetter apps letter)
is_turn-decides apps letter =
    Decides-or (letter == 110) (nat_le 48 letter && nat_lt letter (48 + apps)) (Decides-eqb letter 110)
    (Decides-and (nat_le 48 letter) (nat_lt letter (48 + apps)) ((λ h. grind (arith, nat_tests, h)), (λ h. grind (arith, nat_tests, h)))
    (Decides-ltb letter (48 + apps)))

letters : (apps : ℕ) (text : Text) → list_all (is_turn apps) text ≡ true → All (IsLetter apps) text
letters apps text all =
    (Decides-by_and (is_turn apps) (IsLetter apps) (list_all (is_turn apps)) (is_turn-decides apps) refl (λ x xs. refl) text).0 all

are_turns-turns : (apps : ℕ) (text : Text) → are_turns apps text ≡ true → IsTextOfTurns apps text
are_turns-turns apps text are =
    let parts = and_parts (nat_le 1 (length text) && nat_le (length text) 4096) (list_all (is_turn apps) text) are in
    let sizes = and_parts (nat_le 1 (length text)) (nat_le (length text) 4096) parts.0 in
    let least = sizes.0 in
    let most = sizes.1 in
    record {
      some = grind (arith, nat_tests, least);
      most = grind (arith, nat_tests, most);
      letters = letters apps text parts.1;
    }

pub turns_of-turns : (apps : ℕ) (said turns : Option Text) → turns_of apps said ≡ Some turns → IfSome turns (IsTextOfTurns apps)
turns_of-turns apps None turns is = subst (λ (t : Option Text). IfSome t (IsTextOfTurns apps)) (same_Some None turns is) tt
turns_of-turns apps (Some text) turns is =
    let through = passed (are_turns apps text) (Some text) turns is in
    subst (λ (t : Option Text). IfSome t (IsTextOfTurns apps)) through.1 (are_turns-turns apps text through.0)
