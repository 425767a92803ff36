-- The free buffers in one list: those of the cache, and the listed ones behind them.
use Rattle.std.proofs.Common.{◌≡◌, ℕ, zero, suc, ◌+◌, ◌<◌, ◌≤◌, Bool, true, false, List, [], ◌∷◌, ◌++◌, length}
use Rattle.std.proofs.Common.{get_or, refl, ap, sym, ◌∙◌, arith, ⊎_elim, subst, length-append}
use Rattle.std.{specs.Prelude.{◌≢◌, ◌==◌, All, AllPairs, nat_eq, count_by, if◌then◌else◌}, proofs.lemmas.List.{append-nil, Elements.{All-nil, All-push, All-weaker}}}
use Rattle.std.proofs.lemmas.{List.Quantifiers.{all_pairs_push}, Bool.{cases_lt, Decides.{eqb_tells}}}
use Rattle.board_face.{specs.Ended.{IsEachOnce}, proofs.{Tallies.{one_if}, Counting.{weight-same, count-append, count-cons}}}
use Rattle.board_parts.specs.Free.{listed_in, listed_below}
pub use Rattle.board_face.proofs.Counting.{weight-other}
use Rattle.zr_kinds.proofs.Booleans.{if-none, if-one}

-- ---- sums of such numbers

-- a sum over the numbers below n
abbrev sum_below : (ℕ → ℕ) → ℕ → ℕ
sum_below f zero = 0
sum_below f (suc n) = f n + sum_below f n

sum-ones : (f : ℕ → ℕ) (n : ℕ) → ((b : ℕ) → b < n → f b ≡ 1) → sum_below f n ≡ n
sum-ones f zero ones = refl
sum-ones f (suc n) ones = omega (arith, ones n (omega arith), sum-ones f n (λ b less. ones b (omega arith)))

sum-both : (f g : ℕ → ℕ) (n : ℕ) → sum_below (λ b. f b + g b) n ≡ sum_below f n + sum_below g n
sum-both f g zero = refl
sum-both f g (suc n) = omega (arith, sum-both f g n)

sum-agree : (f g : ℕ → ℕ) (n : ℕ) → ((b : ℕ) → f b ≡ g b) → sum_below f n ≡ sum_below g n
sum-agree f g zero same = refl
sum-agree f g (suc n) same = omega (arith, same n, sum-agree f g n same)

sum-none : (n : ℕ) → sum_below (λ b. 0) n ≡ 0
sum-none zero = refl
sum-none (suc n) = omega (arith, sum-none n)

-- of the numbers below n one is x, where it is below n
sum-past : (x n : ℕ) → n ≤ x → sum_below (λ b. one_if (b == x)) n ≡ 0
sum-past x zero past = refl
sum-past x (suc n) past = omega (arith, weight-other n x (λ e. absurd (omega (arith, e))), sum-past x n (omega arith))

sum-one : (x n : ℕ) → x < n → sum_below (λ b. one_if (b == x)) n ≡ 1
sum-one x zero less = absurd (omega arith)
sum-one x (suc n) less =
    ⊎_elim
    (λ t. let e : n ≡ x = t.1 in omega (arith, ap one_if t.0, sum-past x n (omega (arith, e))))
    (λ t. let ne : n ≢ x = t.1 in omega (arith, ap one_if t.0, sum-one x n (omega (arith, ne))))
    (eqb_tells n x)

-- A list has as many numbers as are counted below n, where it has none from n on.
length-counts : (n : ℕ) (xs : List ℕ) → ((b : ℕ) → n ≤ b → count_by (nat_eq b) xs ≡ 0)
    → sum_below (λ b. count_by (nat_eq b) xs) n ≡ length xs
length-counts n [] none = sum-agree (λ b. count_by (nat_eq b) []) (λ b. 0) n (λ b. refl) ∙ sum-none n
length-counts n (x ∷ xs) none =
    let within : x < n = ⊎_elim (λ less. less) (λ past. absurd (omega (arith, none x past, count-cons x x xs, weight-same x))) (cases_lt x n) in
    let rest : (b : ℕ) → n ≤ b → count_by (nat_eq b) xs ≡ 0 = λ b past. omega (arith, none b past, count-cons b x xs) in
    omega (
      arith,
      sum-agree (λ b. count_by (nat_eq b) (x ∷ xs)) (λ b. one_if (b == x) + count_by (nat_eq b) xs) n (λ b. count-cons b x xs),
      sum-both (λ b. one_if (b == x)) (λ b. count_by (nat_eq b) xs) n,
      sum-one x n within,
      length-counts n xs rest,
    )

listed-case : (c : Bool) (b n : ℕ) → count_by (nat_eq b) (if c then n ∷ [] else []) ≡ (if c then one_if (b == n) else 0)
listed-case true b n = omega (arith, count-cons b n [])
listed-case false b n = refl

below-more : (b n : ℕ) (listed : List Bool) → count_by (nat_eq b) (listed_below listed (suc n))
    ≡ count_by (nat_eq b) (listed_below listed n) + (if get_or listed n false then one_if (b == n) else 0)
below-more b n listed = omega (
  arith,
  count-append b (listed_below listed n) (if get_or listed n false then n ∷ [] else []),
  listed-case (get_or listed n false) b n,
)

-- No listed buffer below n is n or more,
below-past : (b n : ℕ) (listed : List Bool) → n ≤ b → count_by (nat_eq b) (listed_below listed n) ≡ 0
below-past b zero listed past = refl
below-past b (suc n) listed past =
    let other = weight-other b n (λ e. absurd (omega (arith, e))) in
    omega (arith, below-more b n listed, if-none (get_or listed n false) (one_if (b == n)) other, below-past b n listed (omega arith))

-- and each stands there once.
below-once : (b n : ℕ) (listed : List Bool) → b < n → count_by (nat_eq b) (listed_below listed n) ≡ one_if (listed_in listed b)
below-once b zero listed within = absurd (omega arith)
below-once b (suc n) listed within =
    ⊎_elim
    (λ t. let e : b ≡ n = t.1 in omega (
      arith,
      below-more b n listed,
      if-one (get_or listed n false) (one_if (b == n)) (ap one_if t.0),
      below-past b n listed (omega (arith, e)),
      ap (λ k. one_if (get_or listed k false)) e,
    ))
    (λ t. let ne : b ≢ n = t.1 in omega (
      arith,
      below-more b n listed,
      if-none (get_or listed n false) (one_if (b == n)) (ap one_if t.0),
      below-once b n listed (omega (arith, ne)),
    ))
    (eqb_tells b n)

-- ---- the free buffers

module _ (n : ℕ) (cache : List ℕ) (listed : List Bool) (many : length listed ≡ n)
    (one : (b : ℕ) → b < n → count_by (nat_eq b) cache + one_if (listed_in listed b) ≡ 1)
    (none : (b : ℕ) → n ≤ b → count_by (nat_eq b) cache ≡ 0) where
  abbrev free : List ℕ
  free = cache ++ listed_below listed (length listed)

  free-once : (b : ℕ) → b < n → count_by (nat_eq b) free ≡ 1
  free-once b within = omega (
    arith,
    count-append b cache (listed_below listed (length listed)),
    below-once b (length listed) listed (omega (arith, many)),
    one b within,
  )

  free-past : (b : ℕ) → n ≤ b → count_by (nat_eq b) free ≡ 0
  free-past b past = omega (
    arith,
    count-append b cache (listed_below listed (length listed)),
    below-past b (length listed) listed (omega (arith, many)),
    none b past,
  )

  -- Where each buffer is cached or listed, and not both, and no others are cached, each stands in the list once.
  pub IsEachOnce-free : IsEachOnce n free
  IsEachOnce-free = record {
    many = sym (length-counts n free free-past) ∙ sum-ones (λ b. count_by (nat_eq b) free) n free-once;
    once = free-once;
  }

  -- so they fit where each buffer does
  pub free-fit : (room : ℕ) → n ≤ room → length cache + length (listed_below listed (length listed)) ≤ room
  free-fit room enough = omega (arith, IsEachOnce-free.many, length-append cache (listed_below listed (length listed)))

-- ---- the listed ones rise

below-less : (n : ℕ) (listed : List Bool) → All (λ b. b < n) (listed_below listed n)
below-less zero listed = All-nil (λ b. b < 0)
below-less (suc n) listed =
    let others = All-weaker (λ b. b < n) (λ b. b < suc n) (λ b less. omega arith) (listed_below listed n) (below-less n listed) in
    with-less (get_or listed n false) (listed_below listed n) others
  where
    with-less : (c : Bool) (xs : List ℕ) → All (λ b. b < suc n) xs → All (λ b. b < suc n) (xs ++ (if c then n ∷ [] else []))
    with-less true xs others = All-push (λ b. b < suc n) xs n others (omega arith)
    with-less false xs others = subst (All (λ b. b < suc n)) (sym (append-nil xs)) others

pub below-rises : (n : ℕ) (listed : List Bool) → AllPairs (λ a b. a < b) (listed_below listed n)
below-rises zero listed = λ i j d less there. absurd (omega arith)
below-rises (suc n) listed = if-one-more (get_or listed n false) (listed_below listed n) (below-rises n listed) (below-less n listed)
  where
    if-one-more : (c : Bool) (xs : List ℕ) → AllPairs (λ a b. a < b) xs → All (λ b. b < n) xs
        → AllPairs (λ a b. a < b) (xs ++ (if c then n ∷ [] else []))
    if-one-more true xs rises less = all_pairs_push (λ a b. a < b) xs n rises less
    if-one-more false xs rises less = subst (AllPairs (λ a b. a < b)) (sym (append-nil xs)) rises
