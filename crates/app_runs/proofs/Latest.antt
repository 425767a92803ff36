-- The tag that went out last is told.
use Rattle.std.{proofs.Common.{◌≡◌, ℕ, ◌++◌, [], ◌∷◌, true, false, Some, None, refl, sym, ap, subst, ◌∙◌, ⊎_elim}, specs.Prelude.{nat_eq, IsSome}}
use Rattle.std.{specs.{List.{AllByRecursion, IsDistinct}, Map.{keys_of, lookup, remove_entry}}, proofs.lemmas.Bool.{cases_Bool, eq-eqb, eqb-true}}
use Rattle.zc_forward.specs.{Tags.{Tags, TakesTag}, Carriage.{AreOut}}

-- no tag before it is the same
all-front : (P : ℕ → Type 0) (rest : Tags) (e : ℕ × ℕ) → AllByRecursion P (keys_of (rest ++ e ∷ [])) → AllByRecursion P (keys_of rest) × P e.0
all-front P [] e all = (tt, all.0)
all-front P (x ∷ rest) e all = let (front, last) = all-front P rest e all.1 in ((all.0, front), last)

eqb-back : (a b : ℕ) → nat_eq a b ≡ false → nat_eq b a ≡ false
eqb-back a b differ = ⊎_elim
    (λ (yes : nat_eq b a ≡ true). let same : nat_eq a b ≡ true = eq-eqb a b (sym (eqb-true b a yes)) in let e : true ≡ false = sym same ∙ differ in absurd (cc))
    (λ (other : nat_eq b a ≡ false). other)
    (cases_Bool (nat_eq b a))

last-gone : (rest : Tags) (e : ℕ × ℕ) → IsDistinct nat_eq (keys_of (rest ++ e ∷ []))
    → IsDistinct nat_eq (keys_of rest) × (IsSome (lookup (nat_eq e.0) (rest ++ e ∷ [])) × (rest ≡ remove_entry (nat_eq e.0) (rest ++ e ∷ [])) × (lookup (nat_eq e.0) rest ≡ None))
unfolding IsDistinct
last-gone [] e each = let same : nat_eq e.0 e.0 ≡ true = eq-eqb e.0 e.0 refl in (tt, rw same (refl, refl, refl))
last-gone (x ∷ rest) e each =
    let (front, last) = all-front (λ y. nat_eq x.0 y ≡ false) rest e each.0 in
    let other : nat_eq e.0 x.0 ≡ false = eqb-back x.0 e.0 last in
    let (on, took) = last-gone rest e each.1 in
    ((front, on), rw other (took.0, ap (λ ts. x ∷ ts) took.1, took.2))

pub told-last : (out rest : Tags) (e : ℕ × ℕ) → AreOut 0 out → out ≡ rest ++ e ∷ [] → TakesTag out rest (Some e.0) × AreOut 0 rest
told-last out rest e sound is =
    let (on, took) = last-gone rest e (subst (λ (ts : Tags). IsDistinct nat_eq (keys_of ts)) is sound.each) in
    (subst (λ (ts : Tags). TakesTag ts rest (Some e.0)) (sym is) took, record { small = sound.small; each = on })
