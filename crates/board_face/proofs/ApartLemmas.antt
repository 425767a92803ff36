-- Where each byte of a buffer lies in one place at most, two of its places share none.
use Rattle.std.{proofs.Common.{◌≡◌, ℕ, ◌+◌, ◌<◌, ◌≤◌, List, [], ◌∷◌, refl, ap, ◌∙◌, arith, inl, inr, ⊎_elim}, specs.Prelude.{◌⊎◌, ◌&&◌, All}}
use Rattle.std.proofs.lemmas.{Bool.{le-leb, lt-ltb, eq-eqb, cases_lt, Decides.{eqb_tells}}, List.Elements.{All-nil, All-cons, All-head, All-tail}}
use Rattle.zr_kinds.specs.declared.place.Place.{Place}
use Rattle.board_face.{specs.{Tokens.{AreApart}, Places.{has_byte}}, proofs.{Tallies.{one_if, tally}, PlaceTallies.{in_buffer}}}

pub has-weight : (x : ℕ) (p : Place) → p.offset ≤ x → x < p.offset + p.len → one_if (has_byte x p) ≡ 1
has-weight x p from_begin before_end = rw (le-leb p.offset x from_begin, lt-ltb x (p.offset + p.len) before_end) refl

-- the greater of two offsets is a byte of both places, unless one ends before the other begins
apart-offsets : (p q : Place) → 0 < p.len → 0 < q.len → ((x : ℕ) → one_if (has_byte x p) + one_if (has_byte x q) ≤ 1)
    → (p.offset + p.len ≤ q.offset) ⊎ (q.offset + q.len ≤ p.offset)
apart-offsets p q some_p some_q once =
    ⊎_elim
    (λ before_p.
    ⊎_elim
    (λ before_q.
    absurd (
    ⊎_elim
    (λ less. omega (arith, once q.offset, has-weight q.offset p (omega arith) before_p, has-weight q.offset q (omega arith) (omega arith)))
    (λ more. omega (arith, once p.offset, has-weight p.offset p (omega arith) (omega arith), has-weight p.offset q more before_q))
    (cases_lt p.offset q.offset)
    ))
    (λ behind. inr behind)
    (cases_lt p.offset (q.offset + q.len)))
    (λ behind. inl behind)
    (cases_lt q.offset (p.offset + p.len))

-- two places with bytes are apart, where no byte of a buffer lies in both
pub AreApart-once : (b : ℕ) (p q : Place) → p.buffer ≡ b → 0 < p.len → 0 < q.len
    → ((x : ℕ) → one_if (in_buffer b (has_byte x) p) + one_if (in_buffer b (has_byte x) q) ≤ 1) → AreApart q p
AreApart-once b p q here some_p some_q once =
    ⊎_elim
    (λ t.
    let each : (x : ℕ) → one_if (has_byte x q) + one_if (has_byte x p) ≤ 1 = λ x.
    let of_p : one_if (in_buffer b (has_byte x) p) ≡ one_if (has_byte x p) = ap (λ c. one_if (c && has_byte x p)) (eq-eqb p.buffer b here) in
    let of_q : one_if (in_buffer b (has_byte x) q) ≡ one_if (has_byte x q) = ap (λ c. one_if (c && has_byte x q)) t.0 in
    omega (arith, once x, of_p, of_q) in
    inr (apart-offsets q p some_q some_p each))
    (λ t. inl (λ e. t.1 (e ∙ here)))
    (eqb_tells q.buffer b)

-- and so is a place from each of a list, where no byte lies in it and in one of these, or in two of these
pub AreApart-all : {A : Type 0} (f : A → Place) (b : ℕ) (p : Place) (xs : List A) → p.buffer ≡ b → 0 < p.len → All (λ y. 0 < (f y).len) xs
    → ((x : ℕ) → one_if (in_buffer b (has_byte x) p) + tally (λ y. in_buffer b (has_byte x) (f y)) xs ≤ 1) → All (λ y. AreApart (f y) p) xs
AreApart-all f b p [] here some_p some once = All-nil (λ y. AreApart (f y) p)
AreApart-all f b p (y ∷ ys) here some_p some once =
    All-cons (λ y. AreApart (f y) p) y ys
    (AreApart-once b p (f y) here some_p (All-head (λ z. 0 < (f z).len) y ys some) (λ x. let e = once x in omega arith))
    (AreApart-all f b p ys here some_p (All-tail (λ z. 0 < (f z).len) y ys some) (λ x. let e = once x in omega arith))
