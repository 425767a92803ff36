-- Lists of counts, and the cache.
use Rattle.std.proofs.Common.{◌≡◌, ℕ, zero, suc, ◌+◌, ◌-◌, ◌*◌, ◌<◌, List, [], ◌∷◌, ◌++◌, length, take, set, get_or, ap, sym, ◌∙◌, arith, inl, inr, ⊎_elim, subst, Some}
use Rattle.std.{specs.Prelude.{◌≢◌, ◌⊎◌, ◌/◌, ◌==◌, slice_get}, proofs.lemmas.{List.{get_or-set_same, get_or-set_other}, Nat.{div-mul-add}, Bool.Decides.{eqb_tells}}}
use Rattle.circular_buffer.specs.Buffer.{last_item}
use Rattle.board_face.proofs.Tallies.{one_if}

-- ---- one count raised or lowered

pub raised : (counts : List ℕ) (i b : ℕ) → i < length counts → get_or (set counts i (get_or counts i 0 + 1)) b 0 ≡ get_or counts b 0 + one_if (i == b)
raised counts i b there =
    ⊎_elim
    (λ t. let e : i ≡ b = t.1 in
    let now : get_or (set counts i (get_or counts i 0 + 1)) b 0
    ≡ get_or counts i 0 + 1 = subst (λ n. get_or (set counts i (get_or counts i 0 + 1)) n 0 ≡ get_or counts i 0 + 1) e
    (get_or-set_same counts i (get_or counts i 0 + 1) 0 there) in
    omega (arith, ap one_if t.0, ap (λ n. get_or counts n 0) e))
    (λ t. let ne : b ≢ i = λ e. t.1 (sym e) in omega (arith, ap one_if t.0, get_or-set_other counts i b (get_or counts i 0 + 1) 0 ne))
    (eqb_tells i b)

pub lowered : (counts : List ℕ) (i b : ℕ) → i < length counts → 0 < get_or counts i 0
    → get_or (set counts i (get_or counts i 0 - 1)) b 0 + one_if (i == b) ≡ get_or counts b 0
lowered counts i b there some =
    ⊎_elim
    (λ t. let e : i ≡ b = t.1 in
    let now : get_or (set counts i (get_or counts i 0 - 1)) b 0
    ≡ get_or counts i 0 - 1 = subst (λ n. get_or (set counts i (get_or counts i 0 - 1)) n 0 ≡ get_or counts i 0 - 1) e
    (get_or-set_same counts i (get_or counts i 0 - 1) 0 there) in
    omega (arith, ap one_if t.0, ap (λ n. get_or counts n 0) e))
    (λ t. let ne : b ≢ i = λ e. t.1 (sym e) in omega (arith, ap one_if t.0, get_or-set_other counts i b (get_or counts i 0 - 1) 0 ne))
    (eqb_tells i b)

-- ---- where a count stands

pub same-or-other : (b i : ℕ) → ((one_if (i == b) ≡ 1) × (b ≡ i)) ⊎ (one_if (i == b) ≡ 0)
same-or-other b i = ⊎_elim (λ t. inl (ap one_if t.0, sym t.1)) (λ t. inr (ap one_if t.0)) (eqb_tells i b)

-- where two user counts stand in one place they are one
pub same-user : (t a a' b b' : ℕ) → b < t → b' < t → a * t + b ≡ a' * t + b' → (a ≡ a') × (b ≡ b')
same-user t a a' b b' less less' e =
    let same : a ≡ a' = sym (div-mul-add a t b less) ∙ (ap (λ n. n / t) e ∙ div-mul-add a' t b' less') in
    (same, omega (arith, ap (λ x. x * t) same, e))

-- ---- the last item

take-at : {A : Type 0} (n : ℕ) (xs : List A) (x : A) → slice_get xs n ≡ Some x → suc n ≡ length xs → xs ≡ take n xs ++ x ∷ []
take-at n [] x e many = absurd (omega arith)
take-at zero (y ∷ []) x e many = let same : y ≡ x = cc in ap (λ z. z ∷ []) same
take-at zero (y ∷ z ∷ zs) x e many = absurd (omega arith)
take-at (suc n) (y ∷ ys) x e many = ap (λ zs. y ∷ zs) (take-at n ys x e (omega arith))

some-last : {A : Type 0} (xs : List A) (x : A) → last_item xs ≡ Some x → 0 < length xs
some-last [] x e = absurd (let none : ⊥ = cc in none)
some-last (y ∷ ys) x e = omega arith

pub take-last : {A : Type 0} (xs : List A) (x : A) → last_item xs ≡ Some x → xs ≡ take (length xs - 1) xs ++ x ∷ []
take-last xs x e = let some = some-last xs x e in take-at (length xs - 1) xs x e (omega arith)
