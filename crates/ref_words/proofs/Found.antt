-- The buffers that a number lists in a word of the free list.
use Rattle.std.proofs.Common.{◌≡◌, ⊎_elim, ℕ, zero, suc, ◌+◌, ◌-◌, ◌*◌, ◌/◌, ◌%◌, ◌^◌, ◌<◌, ◌≤◌, Bool, true, false, List, ◌∷◌, length, refl, ap, sym, ◌∙◌, arith, subst}
use Rattle.std.{specs.{Prelude.{◌≢◌, ◌==◌, nat_eq, count_by, if◌then◌else◌, All, AllPairs}, Int.{bit_at}}, proofs.Math.Nat.{pow-suc}}
use Rattle.std.proofs.lemmas.{Nat.Bits.{bit_at_cat_high, bit_at_above}, Bool.{cases_lt, Decides.{eqb_tells}}, List.Elements.{All-nil, All-cons, All-weaker}}
use Rattle.std.proofs.lemmas.List.Kept.{AllPairs-cons}
use Rattle.board_face.{specs.NicEvents.{word_bits}, proofs.{Tallies.{one_if}, Counting.{count-cons, weight-other, weight-same}}}
use Rattle.ref_words.specs.FreeSteps.{found_below, all_listed_in}
use Rattle.zr_kinds.proofs.Booleans.{if-none, if-one}

found-case : (c : Bool) (b x : ℕ) (rest : List ℕ)
    → count_by (nat_eq b) (if c then x ∷ rest else rest) ≡ (if c then one_if (b == x) else 0) + count_by (nat_eq b) rest
found-case true b x rest = count-cons b x rest
found-case false b x rest = omega arith

module _ (word n : ℕ) where
  abbrev at : ℕ → ℕ
  at k = word_bits * word + k

  -- a buffer of another word isn't found, and one of this word not below its bit
  pub found-none : (k b : ℕ) → k ≤ 64 → (b / word_bits ≡ word → k ≤ b % word_bits) → count_by (nat_eq b) (found_below word n k) ≡ 0
  found-none zero b small past = refl
  found-none (suc k) b small past =
      let other : b ≢ at k = λ e. absurd (let here : b / word_bits ≡ word = omega arith in omega (arith, past here)) in
      omega (
        arith,
        found-case (bit_at n k == 1) b (at k) (found_below word n k),
        if-none (bit_at n k == 1) (one_if (b == at k)) (weight-other b (at k) other),
        found-none k b (omega arith) (λ here. omega (arith, past here)),
      )

  -- one of this word is found where its bit is set
  pub found-one : (k b : ℕ) → k ≤ 64 → b / word_bits ≡ word → b % word_bits < k
      → count_by (nat_eq b) (found_below word n k) ≡ one_if (bit_at n (b % word_bits) == 1)
  found-one zero b small here below = absurd (omega arith)
  found-one (suc k) b small here below =
      ⊎_elim
      (λ less. omega (
        arith,
        found-case (bit_at n k == 1) b (at k) (found_below word n k),
        if-none (bit_at n k == 1) (one_if (b == at k)) (weight-other b (at k) (λ e. absurd (omega arith))),
        found-one k b (omega arith) here less,
      ))
      (λ top. let bit : b % word_bits ≡ k = omega arith in
      let same : b ≡ at k = omega arith in
      omega (
        arith,
        found-case (bit_at n k == 1) b (at k) (found_below word n k),
        if-one (bit_at n k == 1) (one_if (b == at k)) (subst (λ x. one_if (b == x) ≡ 1) same (weight-same b)),
        found-none k b (omega arith) (λ _. omega arith),
        ap (λ x. one_if (bit_at n x == 1)) bit,
      ))
      (cases_lt (b % word_bits) k)

  -- those that are found are of this word, and their bits are set
  abbrev pub IsFound : ℕ → ℕ → Type 0
  IsFound k b = (b / word_bits ≡ word) × (b % word_bits < k) × (bit_at n (b % word_bits) ≡ 1)

  pub found-all : (k : ℕ) → k ≤ 64 → All (IsFound k) (found_below word n k)
  found-all zero small = All-nil (IsFound zero)
  found-all (suc k) small =
      let rest : All (IsFound (suc k)) (found_below word n k) = All-weaker (IsFound k) (IsFound (suc k)) (λ b h. (h.0, omega (arith, h.1), h.2))
      (found_below word n k) (found-all k (omega arith)) in
      ⊎_elim
      (λ t. let low : at k % word_bits ≡ k = omega arith in
      subst (λ c. All (IsFound (suc k)) (if c then at k ∷ found_below word n k else found_below word n k)) (sym t.0)
      (All-cons (IsFound (suc k)) (at k) (found_below word n k) (omega arith, omega arith, ap (bit_at n) low ∙ t.1) rest))
      (λ t. subst (λ c. All (IsFound (suc k)) (if c then at k ∷ found_below word n k else found_below word n k)) (sym t.0) rest)
      (eqb_tells (bit_at n k) 1)

  falling-case : (c : Bool) (k : ℕ) → All (λ b. b < at k) (found_below word n k) → AllPairs (λ a b. b < a) (found_below word n k)
      → AllPairs (λ a b. b < a) (if c then at k ∷ found_below word n k else found_below word n k)
  falling-case true k below rest = AllPairs-cons (λ a b. b < a) (at k) (found_below word n k) below rest
  falling-case false k below rest = rest

  pub found-falling : (k : ℕ) → k ≤ 64 → AllPairs (λ a b. b < a) (found_below word n k)
  found-falling zero small = λ i j d less within. absurd (omega arith)
  found-falling (suc k) small =
      let below = All-weaker (IsFound k) (λ b. b < at k) (λ b h. omega (arith, h.0, h.1)) (found_below word n k) (found-all k (omega arith)) in
      falling-case (bit_at n k == 1) k below (found-falling k (omega arith))

  few-case : (c : Bool) (k : ℕ) → length (found_below word n k) ≤ k
      → length (if c then at k ∷ found_below word n k else found_below word n k) ≤ suc k
  few-case true k few = omega (arith, few)
  few-case false k few = omega (arith, few)

  pub found-few : (k : ℕ) → length (found_below word n k) ≤ k
  found-few zero = omega arith
  found-few (suc k) = few-case (bit_at n k == 1) k (found-few k)

-- ---- the highest one

module _ (word : ℕ) where
  none-case : (c : Bool) (x : ℕ) (rest : List ℕ) → c ≡ false → (if c then x ∷ rest else rest) ≡ rest
  none-case true x rest e = absurd (let no : ⊥ = cc in no)
  none-case false x rest e = refl

  -- where no bit is set from `low` on, nothing is found there
  none-above : (n low : ℕ) → ((i : ℕ) → low ≤ i → bit_at n i ≡ 0) → (k : ℕ) → low ≤ k → found_below word n k ≡ found_below word n low
  none-above n low none zero from = let e : low ≡ 0 = omega arith in ap (found_below word n) (sym e)
  none-above n low none (suc k) from =
      ⊎_elim
      (λ less. none-case (bit_at n k == 1) (word_bits * word + k) (found_below word n k) (ap (λ x. x == 1) (none k (omega arith)))
      ∙ none-above n low none k (omega arith))
      (λ top. let e : low ≡ suc k = omega arith in ap (found_below word n) (sym e))
      (cases_lt low (suc k))

  -- two numbers with the same bits below k list the same there
  same-below : (m n k : ℕ) → ((i : ℕ) → i < k → bit_at m i ≡ bit_at n i) → found_below word m k ≡ found_below word n k
  same-below m n zero same = refl
  same-below m n (suc k) same =
      ap (λ x. if x == 1 then (word_bits * word + k) ∷ found_below word m k else found_below word m k) (same k (omega arith))
      ∙ ap (λ rest. if bit_at n k == 1 then (word_bits * word + k) ∷ rest else rest) (same-below m n k (λ i less. same i (omega arith)))

  -- the highest bit that is set tells the first buffer, and the others are listed by the number without it
  pub found-first : (m n j : ℕ) → j < 64 → 2 ^ j ≤ n → n < 2 ^ suc j → ((i : ℕ) → j ≤ i → bit_at m i ≡ 0)
      → ((i : ℕ) → i < j → bit_at m i ≡ bit_at n i)
      → all_listed_in word n ≡ (word_bits * word + j) ∷ all_listed_in word m
  found-first m n j small from to above below =
      let cut : n ≡ 1 * 2 ^ j + (n - 2 ^ j) = omega (arith, from) in
      let top : bit_at n j ≡ 1 = ap (λ x. bit_at x j) cut ∙ (bit_at_cat_high 1 j (n - 2 ^ j) j (omega (arith, from, to, pow-suc 2 j)) (omega arith)
      ∙ ap (bit_at 1) (let e : j - j ≡ 0 = omega arith in e)) in
      none-above n (suc j) (λ i past. bit_at_above n (suc j) i to past) 64 (omega arith)
      ∙ (ap (λ x. if x == 1 then (word_bits * word + j) ∷ found_below word n j else found_below word n j) top
      ∙ ap (λ rest. (word_bits * word + j) ∷ rest) (sym (same-below m n j below) ∙ sym (none-above m j above 64 (omega arith))))
