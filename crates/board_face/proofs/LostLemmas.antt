-- Once every free word was swept, each pool buffer is cached, was taken by the card, or is lost to a spare.
use Rattle.std.proofs.Common.{◌≡◌, ℕ, zero, suc, ◌+◌, ◌<◌, ◌≤◌, Bool, true, false, List, [], ◌∷◌, length, refl, ap, arith, ⊎_elim}
use Rattle.std.{specs.{Prelude.{not, ◌&&◌, ◌||◌, ◌/◌, nat_eq, count_by}, List.{list_any}}, proofs.lemmas.Bool.{cases_Bool, not-true, or_parts, Decides.{eqb_tells}}}
use Rattle.area_layout.specs.Layout.{pool_buffers}
use Rattle.board_face.specs.{Lists.{count_below}, NicEvents.{word_bits}, NicCalls.{HasSweptAll, is_lost, lost_of}, Used.{used_buffers, UnusedAreCached}}
use Rattle.board_face.{specs.declared.views.nic.NicView.{NicView}, proofs.{Tallies.{one_if, one_if-le}, ListLemmas.{not-eqb}, Counting.{count-first}}}

-- ---- how many numbers below n stand in a list

below-first : (x n : ℕ) → n ≤ x → count_below (λ b. nat_eq b x) n ≡ 0
below-first x zero small = refl
below-first x (suc n) small =
    let none : one_if (nat_eq n x) ≡ 0 = ap one_if (not-eqb n x (λ e. absurd (omega arith))) in
    omega (arith, none, below-first x n (omega arith))

below-one : (x n : ℕ) → count_below (λ b. nat_eq b x) n ≤ 1
below-one x zero = omega arith
below-one x (suc n) =
    ⊎_elim
    (λ t. let e : n ≡ x = t.1 in omega (arith, one_if-le (nat_eq n x), below-first x n (omega arith)))
    (λ t. let none : one_if (nat_eq n x) ≡ 0 = ap one_if t.0 in omega (arith, below-one x n))
    (eqb_tells n x)

weight-or : (c d : Bool) → one_if (c || d) ≤ one_if c + one_if d
weight-or true d = omega arith
weight-or false d = omega arith

below-or : (p q : ℕ → Bool) (n : ℕ) → count_below (λ b. p b || q b) n ≤ count_below p n + count_below q n
below-or p q zero = omega arith
below-or p q (suc n) = omega (arith, weight-or (p n) (q n), below-or p q n)

below-none : (n : ℕ) → count_below (λ _. false) n ≡ 0
below-none zero = refl
below-none (suc n) = omega (arith, below-none n)

below-list : (xs : List ℕ) (n : ℕ) → count_below (λ b. list_any (nat_eq b) xs) n ≤ length xs
below-list [] n = omega (arith, below-none n)
below-list (x ∷ xs) n = omega (arith, below-or (λ b. nat_eq b x) (λ b. list_any (nat_eq b) xs) n, below-one x n, below-list xs n)

-- ---- what stands in a list is counted there, and nothing else

pub none-counted : (b : ℕ) (xs : List ℕ) → list_any (nat_eq b) xs ≡ false → count_by (nat_eq b) xs ≡ 0
none-counted b [] none = refl
none-counted b (x ∷ xs) none =
    let both = or_parts (nat_eq b x) (list_any (nat_eq b) xs) none in
    omega (arith, count-first (nat_eq b) x xs, ap one_if both.0, none-counted b xs both.1)

some-case : (c d : Bool) (n : ℕ) → (d ≡ true → 1 ≤ n) → (c || d) ≡ true → 1 ≤ one_if c + n
some-case true d n rest any = omega arith
some-case false d n rest any = omega (arith, rest any)

pub some-counted : (b : ℕ) (xs : List ℕ) → list_any (nat_eq b) xs ≡ true → 1 ≤ count_by (nat_eq b) xs
some-counted b [] any = absurd (let no : ⊥ = cc in no)
some-counted b (x ∷ xs) any = omega (
  arith,
  count-first (nat_eq b) x xs,
  some-case (nat_eq b x) (list_any (nat_eq b) xs) (count_by (nat_eq b) xs) (some-counted b xs) any,
)

-- ---- buffers

some-of-three : (c d : Bool) → 1 ≤ one_if (not c && not d) + (one_if c + one_if d)
some-of-three true d = omega arith
some-of-three false true = omega arith
some-of-three false false = omega arith

each-somewhere : (v : NicView) → HasSweptAll v → (n : ℕ) → n ≤ pool_buffers v.setting.layout
    → n ≤ count_below (is_lost v) n + (count_below (λ b. list_any (nat_eq b) v.cache) n + count_below (λ b. list_any (nat_eq b) v.used) n)
each-somewhere v swept zero within = omega arith
each-somewhere v swept (suc n) within =
    let c = list_any (nat_eq n) v.cache in
    let u = list_any (nat_eq n) v.used in
    let word : list_any (nat_eq (n / word_bits)) v.swept ≡ true = swept (n / word_bits) (omega arith) in
    let lost : one_if (is_lost v n) ≡ one_if (not c && not u) = ap (λ s. one_if (s && not c && not u)) word in
    omega (arith, lost, some-of-three c u, each-somewhere v swept n (omega arith))

-- Where every word of the free list was swept, the pool's buffers are at most as many as those that are cached, the
-- takes so far, and those that are lost to spares.
pub buffers-accounted : (v : NicView) → HasSweptAll v → pool_buffers v.setting.layout ≤ lost_of v + (length v.cache + length v.used)
buffers-accounted v swept =
    let n = pool_buffers v.setting.layout in
    omega (arith, each-somewhere v swept n (omega arith), below-list v.cache n, below-list v.used n)

-- ---- what is lost was picked

below-fewer : (p q : ℕ → Bool) (n : ℕ) → ((b : ℕ) → b < n → p b ≡ true → q b ≡ true) → count_below p n ≤ count_below q n
below-fewer p q zero each = omega arith
below-fewer p q (suc n) each =
    omega (arith, weight-fewer (p n) (q n) (each n (omega arith)), below-fewer p q n (λ b less. each b (omega (arith, less))))
  where
    weight-fewer : (c d : Bool) → (c ≡ true → d ≡ true) → one_if c ≤ one_if d
    weight-fewer true d e = let one : one_if d ≡ 1 = ap one_if (e refl) in omega arith
    weight-fewer false d e = omega arith

-- Where each lost buffer is among these picks, no more are lost than these.
pub lost-few : (v : NicView) (picks : List ℕ) → ((b : ℕ) → b < pool_buffers v.setting.layout → is_lost v b ≡ true
    → list_any (nat_eq b) picks ≡ true) → lost_of v ≤ length picks
lost-few v picks each = omega (
  arith,
  below-fewer (is_lost v) (λ b. list_any (nat_eq b) picks) (pool_buffers v.setting.layout) each,
  below-list picks (pool_buffers v.setting.layout),
)

-- Where each word was swept, what was never used is cached.
pub unused_are_cached : UnusedAreCached
unused_are_cached listed nic apps kept swept = record {
  cached = is_cached;
  few = omega (
    arith,
    below-fewer (λ b. not (list_any (nat_eq b) used)) (λ b. list_any (nat_eq b) cache) (pool_buffers nic.view.setting.layout)
        (λ b within unused. is_cached b within (not-true (list_any (nat_eq b) used) unused)),
    below-list cache (pool_buffers nic.view.setting.layout),
  );
}
  where
    used : List ℕ
    used = used_buffers nic apps

    cache : List ℕ
    cache = nic.view.cache

    is_cached : (b : ℕ) → b < pool_buffers nic.view.setting.layout → list_any (nat_eq b) used ≡ false → list_any (nat_eq b) cache ≡ true
    is_cached b within unused = ⊎_elim
        (λ there. there)
        (λ none. absurd (omega (
          arith,
          kept.swept b within (some-counted (b / word_bits) nic.view.swept (swept (b / word_bits) (omega arith))),
          none-counted b cache none,
          none-counted b used unused,
        )))
        (cases_Bool (list_any (nat_eq b) cache))
