-- Lists from which the first element that meets a test is taken out.
use Rattle.std.{proofs.Common.{◌≡◌, ℕ, Bool, true, false, cond, eqb, List, [], ◌∷◌, map, refl, sym, arith, ⊎_elim}, specs.Prelude.{◌&&◌, ◌≢◌, All}}
use Rattle.std.proofs.lemmas.{Bool.{false≢true, eqb-true, Decides.{eqb_tells}}, List.Elements.{All-cons, All-head, All-tail}}
use Rattle.zr_kinds.specs.declared.place.Place.{Place}
use Rattle.board_face.specs.{Lists.{without, at_first, same_place}, Tokens.{same_filling, filling}, declared.views.parts.Filling.{Filling}}

pub eqb_same : (n : ℕ) → eqb n n ≡ true
eqb_same n = grind arith

pub same_place-refl : (p : Place) → same_place p p ≡ true
same_place-refl p = rw (eqb_same p.buffer, eqb_same p.offset, eqb_same p.len) refl

pub same_filling-refl : (x : Filling) → same_filling x x ≡ true
same_filling-refl x = rw (eqb_same x.buffer, eqb_same x.start, eqb_same x.size) refl

pub without-head : {A : Type 0} (test : A → Bool) (x : A) (xs : List A) → test x ≡ true → without test (x ∷ xs) ≡ xs
without-head test x xs meets = rw meets refl

pub at_first-head : {A B : Type 0} (test : A → Bool) (f : A → B) (other : B) (x : A) (xs : List A) → test x ≡ true
    → at_first test f other (x ∷ xs) ≡ f x
at_first-head test f other x xs meets = rw meets refl

-- where the first of the places is this one, it is the element that is taken out
pub places-without_first : {A : Type 0} (at : A → Place) (xs : List A) (p : Place) (ps : List Place) → map at xs ≡ p ∷ ps
    → map at (without (λ x. same_place p (at x)) xs) ≡ ps
places-without_first at [] p ps e = absurd (let none : ⊥ = cc in none)
places-without_first at (x ∷ xs) p ps e =
    let here : at x ≡ p = cc in
    let there : map at xs ≡ ps = cc in
    rw (here, same_place-refl p) there

pub not-eqb : (a b : ℕ) → a ≢ b → eqb a b ≡ false
not-eqb a b other = ⊎_elim (λ t. absurd (other t.1)) (λ t. t.0) (eqb_tells a b)

-- what the tests of tokens find is one
abbrev place : ℕ → ℕ → ℕ → Place
place b o l = record { buffer = b; offset = o; len = l }

both-true : (a b c : Bool) → (a && b) && c ≡ true → (a ≡ true) × (b ≡ true) × (c ≡ true)
both-true true true true e = (refl, refl, refl)
both-true true true false e = absurd (false≢true e)
both-true true false c e = absurd (false≢true e)
both-true false b c e = absurd (false≢true e)

same_places : (b b' o o' l l' : ℕ) → b ≡ b' → o ≡ o' → l ≡ l' → place b o l ≡ place b' o' l'
same_places b b' o o' l l' p q r = rw (p, q, r) refl

same_fillings : (b b' o o' l l' : ℕ) → b ≡ b' → o ≡ o' → l ≡ l' → filling b o l ≡ filling b' o' l'
same_fillings b b' o o' l l' p q r = rw (p, q, r) refl

pub same_place-is : (p q : Place) → same_place p q ≡ true → q ≡ p
same_place-is p q e =
    let all = both-true (eqb p.buffer q.buffer) (eqb p.offset q.offset) (eqb p.len q.len) e in
    let b = eqb-true p.buffer q.buffer all.0 in
    let o = eqb-true p.offset q.offset all.1 in
    let l = eqb-true p.len q.len all.2 in
    same_places q.buffer p.buffer q.offset p.offset q.len p.len (sym b) (sym o) (sym l)

pub same_filling-is : (x y : Filling) → same_filling x y ≡ true → y ≡ x
same_filling-is x y e =
    let all = both-true (eqb x.buffer y.buffer) (eqb x.start y.start) (eqb x.size y.size) e in
    let b = eqb-true x.buffer y.buffer all.0 in
    let s = eqb-true x.start y.start all.1 in
    let z = eqb-true x.size y.size all.2 in
    same_fillings y.buffer x.buffer y.start x.start y.size x.size (sym b) (sym s) (sym z)

-- ---- facts of all elements

All-case : {A : Type 0} (P : A → Type 0) (c : Bool) (x : A) (xs ys : List A) → P x → All P xs → All P ys → All P (cond c xs (x ∷ ys))
All-case P true x xs ys here all rest = all
All-case P false x xs ys here all rest = All-cons P x ys here rest

-- what holds of each holds of those that are left when one is taken out
pub All-without : {A : Type 0} (P : A → Type 0) (m : A → Bool) (xs : List A) → All P xs → All P (without m xs)
All-without P m [] all = all
All-without P m (x ∷ xs) all = All-case P (m x) x xs (without m xs) (All-head P x xs all) (All-tail P x xs all) (All-without P m xs (All-tail P x xs all))
