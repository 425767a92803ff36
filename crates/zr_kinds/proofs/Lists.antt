-- Lists: what stands in front, behind and at a place.
use Rattle.std.proofs.Common.{◌≡◌, ℕ, zero, suc, ◌<◌, List, [], ◌∷◌, length, map, drop, get_or, set, refl, ap, sym, ◌∙◌, subst, arith, ⊎_elim}
use Rattle.std.{specs.Prelude.{◌≢◌, Contains, Some, None, slice_get}, proofs.lemmas.{Bool.Decides.{eqb_tells}, List.{get_or-set_same, get_or-set_other}}}

pub map-none : {A B : Type 0} (f : A → B) (xs : List A) → map f xs ≡ [] → xs ≡ []
map-none f [] e = refl
map-none f (x ∷ xs) e = absurd (let none : ⊥ = cc in none)

pub none-in : {A : Type 0} (xs : List A) (x : A) → Contains xs x → xs ≡ [] → ⊥
none-in xs x has none = let there = (rw none at has).1 in omega arith

pub front-some : {A : Type 0} (xs : List A) (x : A) → slice_get xs 0 ≡ Some x → xs ≡ x ∷ drop 1 xs
front-some [] x e = absurd (let none : ⊥ = cc in none)
front-some (y ∷ ys) x e = let same : y ≡ x = cc in ap (λ z. z ∷ ys) same

pub front-none : {A : Type 0} (xs : List A) → slice_get xs 0 ≡ None → xs ≡ []
front-none [] e = refl
front-none (y ∷ ys) e = absurd (let none : ⊥ = cc in none)

pub drop-after : {A : Type 0} (n : ℕ) (xs : List A) (x : A) (rest : List A) → drop n xs ≡ x ∷ rest → drop (suc n) xs ≡ rest
drop-after zero xs x rest e = rw e refl
drop-after (suc n) [] x rest e = absurd (let none : ⊥ = cc in none)
drop-after (suc n) (y ∷ xs) x rest e = drop-after n xs x rest e

-- Where each count is f of its place, and g is f with n in the place i, the counts with n there are g.
pub counts-set : (t : ℕ) (counts : List ℕ) (f g : ℕ → ℕ) (i n : ℕ) → i < length counts → ((b : ℕ) → b < t → get_or counts b 0 ≡ f b)
    → n ≡ g i → ((b : ℕ) → b ≢ i → g b ≡ f b)
    → (b : ℕ) → b < t → get_or (set counts i n) b 0 ≡ g b
counts-set t counts f g i n there are here others b within =
    ⊎_elim
    (λ h. let e : b ≡ i = h.1 in subst (λ x. get_or (set counts i n) x 0 ≡ g x) (sym e) (get_or-set_same counts i n 0 there ∙ here))
    (λ h. let ne : b ≢ i = h.1 in get_or-set_other counts i b n 0 ne ∙ (are b within ∙ sym (others b ne)))
    (eqb_tells b i)
