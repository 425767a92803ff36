-- Spares lie in buffers of their own, so a length that is kept by buffer is that of one spare.
use Rattle.std.proofs.Common.{◌≡◌, ℕ, zero, suc, Bool, true, false, cond, List, [], ◌∷◌, length, map, set, get_or, refl, ap, sym, ◌∙◌, subst, arith}
use Rattle.std.{specs.Prelude.{◌≢◌, All, AllPairs, Contains}, proofs.lemmas.{Bool.{false≢true}, List.{get_or-set_other}}}
use Rattle.std.proofs.lemmas.List.{Elements.{All-nil, All-cons, All-head, All-tail, All-map, All-contains}, Kept.{AllPairs-cons}}
use Rattle.board_face.specs.{Lists.{without, at_first}, Tokens.{same_filling}, declared.views.{parts.Filling.{Filling}, app.SpareOwn.{SpareOwn}}}
use Rattle.board_face.proofs.ListLemmas.{All-without, same_filling-is, same_filling-refl}

-- ---- pairs

module _ {A : Type 0} (R : A → A → Type 0) where
  pairs-head : (x : A) (xs : List A) → AllPairs R (x ∷ xs) → All (R x) xs
  pairs-head x xs apart k d there = apart 0 (suc k) d (omega arith) (omega arith)

  pairs-tail : (x : A) (xs : List A) → AllPairs R (x ∷ xs) → AllPairs R xs
  pairs-tail x xs apart i j d less there = apart (suc i) (suc j) d (omega arith) (omega arith)

  pairs-case : (c : Bool) (x : A) (xs ys : List A) → AllPairs R xs → All (R x) ys → AllPairs R ys → AllPairs R (cond c xs (x ∷ ys))
  pairs-case true x xs ys all head rest = all
  pairs-case false x xs ys all head rest = AllPairs-cons R x ys head rest

  pub AllPairs-without : (m : A → Bool) (xs : List A) → AllPairs R xs → AllPairs R (without m xs)
  AllPairs-without m [] apart = apart
  AllPairs-without m (x ∷ xs) apart =
      pairs-case (m x) x xs (without m xs) (pairs-tail x xs apart) (All-without (R x) m xs (pairs-head x xs apart))
      (AllPairs-without m xs (pairs-tail x xs apart))

-- ---- spares

abbrev pub AreApartBuffers : SpareOwn → SpareOwn → Type 0
AreApartBuffers s t = s.own.buffer ≢ t.own.buffer

abbrev pub IsElsewhere : ℕ → SpareOwn → Type 0
IsElsewhere buffer s = s.own.buffer ≢ buffer

later : (own : Filling) (x : SpareOwn) (xs : List SpareOwn) → Contains (map (λ s. s.own) (x ∷ xs)) own → same_filling own x.own ≡ false
    → Contains (map (λ s. s.own) xs) own
later own x xs (zero, there, e) other = absurd (false≢true (sym other ∙ (ap (same_filling own) e ∙ same_filling-refl own)))
later own x xs (suc k, there, e) other = (k, omega arith, e)

elsewhere-case : (own : Filling) (x : SpareOwn) (xs ys : List SpareOwn) (c : Bool) → (c ≡ true → All (IsElsewhere own.buffer) xs)
    → (c ≡ false → All (IsElsewhere own.buffer) (x ∷ ys)) → All (IsElsewhere own.buffer) (cond c xs (x ∷ ys))
elsewhere-case own x xs ys true here there = here refl
elsewhere-case own x xs ys false here there = there refl

-- the spares without this one lie in other buffers
pub others-elsewhere : (own : Filling) (xs : List SpareOwn) → Contains (map (λ s. s.own) xs) own → AllPairs AreApartBuffers xs
    → All (IsElsewhere own.buffer) (without (λ s. same_filling own s.own) xs)
others-elsewhere own [] out apart = All-nil (IsElsewhere own.buffer)
others-elsewhere own (x ∷ xs) out apart =
    let away = pairs-head AreApartBuffers x xs apart in
    let IsAway : Filling → Type 0 = λ o. x.own.buffer ≢ o.buffer in
    elsewhere-case own x xs (without (λ s. same_filling own s.own) xs) (same_filling own x.own)
    (λ same k d there e. away k d there (ap (λ o. o.buffer) (same_filling-is own x.own same) ∙ sym e))
    (λ other. let behind = later own x xs out other in
    All-cons (IsElsewhere own.buffer) x (without (λ s. same_filling own s.own) xs)
    (All-contains IsAway (map (λ (s : SpareOwn). s.own) xs) own (All-map IsAway (λ (s : SpareOwn). s.own) xs away) behind)
    (others-elsewhere own xs behind (pairs-tail AreApartBuffers x xs apart)))

-- ---- lengths

abbrev pub HasLength : List ℕ → SpareOwn → Type 0
HasLength lengths s = get_or lengths s.own.buffer 0 ≡ length s.bytes

-- a length that is kept for a buffer leaves those of other buffers
pub lengths-elsewhere : (lengths : List ℕ) (buffer n : ℕ) (xs : List SpareOwn) → All (IsElsewhere buffer) xs → All (HasLength lengths) xs
    → All (HasLength (set lengths buffer n)) xs
lengths-elsewhere lengths buffer n xs others were k d there =
    get_or-set_other lengths buffer (get_or xs k d).own.buffer n 0 (others k d there) ∙ were k d there

text-case : (P : Filling → List ℕ → Type 0) (own : Filling) (c : Bool) (bytes rest : List ℕ) → (c ≡ true → P own bytes) → (c ≡ false → P own rest)
    → P own (cond c bytes rest)
text-case P own true bytes rest here there = here refl
text-case P own false bytes rest here there = there refl

-- what is so of each spare's text is so of the text of one that is out
pub text-of_spare : (P : Filling → List ℕ → Type 0) (own : Filling) (xs : List SpareOwn) → Contains (map (λ s. s.own) xs) own
    → All (λ s. P s.own s.bytes) xs → P own (at_first (λ s. same_filling own s.own) (λ s. s.bytes) [] xs)
text-of_spare P own [] (k, there, e) all = absurd (omega arith)
text-of_spare P own (x ∷ xs) out all =
    text-case P own (same_filling own x.own) x.bytes (at_first (λ s. same_filling own s.own) (λ s. s.bytes) [] xs)
    (λ same. subst (λ o. P o x.bytes) (same_filling-is own x.own same) (All-head (λ (s : SpareOwn). P s.own s.bytes) x xs all))
    (λ other. text-of_spare P own xs (later own x xs out other) (All-tail (λ (s : SpareOwn). P s.own s.bytes) x xs all))

-- and what is so of each spare's buffer is so of that of one that is out
pub own-of_spare : (P : Filling → Type 0) (own : Filling) (xs : List SpareOwn) → Contains (map (λ s. s.own) xs) own → All (λ s. P s.own) xs → P own
own-of_spare P own xs out all = All-contains P (map (λ (s : SpareOwn). s.own) xs) own (All-map P (λ (s : SpareOwn). s.own) xs all) out
