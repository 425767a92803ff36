-- Bits of the free list, and the rule where one of its words changes.
use Rattle.std.proofs.Common.{◌≡◌, ⊎_elim, ℕ, ◌+◌, ◌/◌, ◌%◌, ◌^◌, ◌<◌, ◌≤◌, Bool, true, false, List, length, set, get_or, refl, ap, sym, ◌∙◌, arith, subst}
use Rattle.std.{specs.{Prelude.{◌≢◌, ◌==◌, bit_and, bit_or}, Int.{bit_at, bit_not, w64}}, proofs.lemmas.Nat.{one_shl}}
use Rattle.std.proofs.lemmas.Nat.Bits.{bit_at_or, bit_at-lt, bit_at-pow_same, bit_at-pow_other, bit_at_clear_same, bit_at_clear_other}
use Rattle.std.proofs.lemmas.{List.{length-set, get_or-set_same, get_or-set_other}, Bool.{cases_lt, Decides.{eqb_tells}}}
use Rattle.area_layout.specs.Layout.{pool_buffers}
use Rattle.board_face.specs.{Counts.{pool_count, user_count}, FreeOnce.{free_places}, NicEvents.{word_bits}, Used.{AreKept}, declared.views.parts.Setting.{Setting}}
use Rattle.board_face.{specs.declared.views.{nic.NicSide.{NicSide}, app.AppSide.{AppSide}}, proofs.{Tallies.{one_if, one_if-le}, Counting.{weight-other, weight-same}}}
use Rattle.ref_words.specs.{Words.{Words, free_word_of, with_free, with_listed, with_unlisted, listed_bit}, Sides.{SidesRule}, Rule.{RefRule}}
use Rattle.ref_words.proofs.RingSteps.{AllRings, rings-words}

-- ---- bits

-- of the buffers of the word j, those are listed whose bits are set in n; of the others, those that were
pub listed-here : (words : Words) (j n b : ℕ) → j < length words.free → b / word_bits ≡ j
    → listed_bit (with_free words j n) b ≡ (bit_at n (b % word_bits) == 1)
listed-here words j n b there e =
    ap (λ x. bit_at (get_or (set words.free j n) x 0) (b % word_bits) == 1) e
    ∙ ap (λ w. bit_at w (b % word_bits) == 1) (get_or-set_same words.free j n 0 there)

pub listed-there : (words : Words) (j n b : ℕ) → b / word_bits ≢ j → listed_bit (with_free words j n) b ≡ listed_bit words b
listed-there words j n b ne = ap (λ w. bit_at w (b % word_bits) == 1) (get_or-set_other words.free j (b / word_bits) n 0 ne)

clear-same : (n k : ℕ) → k < 64 → bit_at (bit_and n (bit_not w64 (2 ^ k))) k ≡ 0
clear-same n k small = subst (λ m. bit_at (bit_and n (bit_not w64 m)) k ≡ 0) (one_shl k 64 small) (bit_at_clear_same w64 n k small)

clear-other : (n k i : ℕ) → k < 64 → i < 64 → i ≢ k → bit_at (bit_and n (bit_not w64 (2 ^ k))) i ≡ bit_at n i
clear-other n k i small low ne =
    subst (λ m. bit_at (bit_and n (bit_not w64 m)) i ≡ bit_at n i) (one_shl k 64 small) (bit_at_clear_other w64 n k small i low ne)

module _ (words : Words) (i : ℕ) (there : i / word_bits < length words.free) where
  abbrev j : ℕ
  j = i / word_bits

  abbrev n : ℕ
  n = free_word_of words j

  abbrev k : ℕ
  k = i % word_bits

  -- the bits of the other buffers stay
  others : (m : ℕ) → ((x : ℕ) → x < 64 → x ≢ k → bit_at m x ≡ bit_at n x) → (b : ℕ) → b ≢ i
      → listed_bit (with_free words j m) b ≡ listed_bit words b
  others m same b other =
      ⊎_elim
      (λ t. let e : b / word_bits ≡ j = t.1 in
      listed-here words j m b there e
      ∙ (ap (λ x. x == 1) (same (b % word_bits) (omega arith) (λ low. other (omega (arith, e, low))))
      ∙ ap (λ x. bit_at (get_or words.free x 0) (b % word_bits) == 1) (sym e)))
      (λ t. listed-there words j m b t.1)
      (eqb_tells (b / word_bits) j)

  set-other : (x : ℕ) → x < 64 → x ≢ k → bit_at (bit_or n (2 ^ k)) x ≡ bit_at n x
  set-other x low ne = omega (arith, bit_at_or n (2 ^ k) x, bit_at-pow_other k x ne)

  set-same : bit_at (bit_or n (2 ^ k)) k ≡ 1
  set-same = omega (arith, bit_at_or n (2 ^ k) k, bit_at-pow_same k, bit_at-lt n k)

  -- the buffer, which wasn't listed, is listed
  pub listed-more : listed_bit words i ≡ false → (b : ℕ) → one_if (listed_bit (with_listed words i) b) ≡ one_if (listed_bit words b) + one_if (i == b)
  listed-more unlisted b =
      ⊎_elim
      (λ t. let e : b ≡ i = t.1 in
      subst (λ x. one_if (listed_bit (with_listed words i) x) ≡ one_if (listed_bit words x) + one_if (i == x)) (sym e)
      (omega (
        arith,
        ap one_if (listed-here words j (bit_or n (2 ^ k)) i there refl ∙ ap (λ x. x == 1) set-same),
        ap one_if unlisted,
        weight-same i,
      )))
      (λ t. let ne : b ≢ i = t.1 in
      omega (arith, ap one_if (others (bit_or n (2 ^ k)) set-other b ne), weight-other i b (λ e. ne (sym e))))
      (eqb_tells b i)

  abbrev left : ℕ
  left = bit_and n (bit_not w64 (2 ^ k))

  cleared : listed_bit (with_unlisted words i) i ≡ false
  cleared = listed-here words j left i there refl ∙ ap (λ x. x == 1) (clear-same n k (omega arith))

  left-other : (x : ℕ) → x < 64 → x ≢ k → bit_at left x ≡ bit_at n x
  left-other x low ne = clear-other n k x (omega arith) low ne

  -- the buffer, which was listed, isn't any more
  pub listed-fewer : listed_bit words i ≡ true → (b : ℕ) → one_if (listed_bit (with_unlisted words i) b) + one_if (i == b) ≡ one_if (listed_bit words b)
  listed-fewer listed b =
      ⊎_elim
      (λ t. let e : b ≡ i = t.1 in
      subst (λ x. one_if (listed_bit (with_unlisted words i) x) + one_if (i == x) ≡ one_if (listed_bit words x)) (sym e)
      (omega (arith, ap one_if cleared, ap one_if listed, weight-same i)))
      (λ t. let ne : b ≢ i = t.1 in omega (arith, ap one_if (others left left-other b ne), weight-other i b (λ e. ne (sym e))))
      (eqb_tells b i)

  -- and where it wasn't listed nothing changes
  pub listed-same : listed_bit words i ≡ false → (b : ℕ) → listed_bit (with_unlisted words i) b ≡ listed_bit words b
  listed-same unlisted b =
      ⊎_elim
      (λ t. let e : b ≡ i = t.1 in
      subst (λ x. listed_bit (with_unlisted words i) x ≡ listed_bit words x) (sym e) (cleared ∙ sym unlisted))
      (λ t. others left left-other b t.1)
      (eqb_tells b i)

-- ---- free places

module _ (setting : Setting) (words : Words) (nic : NicSide) (apps : List AppSide) (b : ℕ) (rule : RefRule setting words nic apps)
    (some : 1 ≤ free_places (listed_bit words) b nic apps) where
  small : b < pool_buffers nic.view.setting.layout
  small =
      ⊎_elim
      (λ less. less)
      (λ past. absurd (omega (arith, some, rule.free.reserves b past)))
      (cases_lt b (pool_buffers nic.view.setting.layout))

  -- what stands in a free place is of the pool, and stands in no other
  pub of-pool : b < pool_buffers setting.layout
  of-pool = let s = small in omega (arith, ap (λ s. pool_buffers s.layout) rule.sides.set.card)

  pub in-list : b / word_bits < length words.free
  in-list = let s = of-pool in omega (arith, rule.sizes.free)

  pub one-place : free_places (listed_bit words) b nic apps ≡ 1
  one-place = omega (arith, some, rule.free.pool b small, one_if-le (pool_count b nic apps == 0))

-- as many buffers are listed, or more
pub AreKept-listed : (listed listed' : ℕ → Bool) (nic : NicSide) (apps : List AppSide) → ((b : ℕ) → one_if (listed b) ≤ one_if (listed' b))
    → AreKept listed nic apps → AreKept listed' nic apps
AreKept-listed listed listed' nic apps more kept = record { kept = λ b within. omega (arith, kept.kept b within, more b); swept = kept.swept }

-- ---- the rule

-- What is to be known of the sides after the step, where the word j of the free list becomes n.
pub record IsFreeStep (setting : Setting) (words : Words) (nic now : NicSide) (apps apps' : List AppSide) (j n : ℕ) : Type 0 where
  pub sides : SidesRule setting now apps'
  pub pool : (b : ℕ) → pool_count b now apps' ≡ pool_count b nic apps
  pub users : (a b : ℕ) → user_count a b now apps' ≡ user_count a b nic apps
  pub free : (b : ℕ) → free_places (listed_bit (with_free words j n)) b now apps' ≡ free_places (listed_bit words) b nic apps
  pub kept : AreKept (listed_bit (with_free words j n)) now apps'
  pub rings : AllRings setting words now apps'

pub RefRule-free : (setting : Setting) (words : Words) (nic now : NicSide) (apps apps' : List AppSide) (j n : ℕ) → RefRule setting words nic apps
    → IsFreeStep setting words nic now apps apps' j n → RefRule setting (with_free words j n) now apps'
RefRule-free setting words nic now apps apps' j n rule step = record {
  layout = rule.layout;
  sizes = assumption (length-set words.free j n ∙ rule.sizes.free, rule.sizes);
  sides = step.sides;
  pool = λ b small. rule.pool b small ∙ sym (step.pool b);
  users = λ a b app small. rule.users a b app small ∙ sym (step.users a b);
  free = let card = step.sides.set.card ∙ sym rule.sides.set.card in record {
    pool = λ b small. step.free b ∙ (rule.free.pool b (rw (← card) small) ∙ ap (λ p. one_if (p == 0)) (sym (step.pool b)));
    reserves = λ b past. step.free b ∙ rule.free.reserves b (rw (← card) past);
  };
  kept = step.kept;
  rings = rings-words setting words (with_free words j n) now apps' refl refl step.rings;
}
