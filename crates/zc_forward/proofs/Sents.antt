-- Loans by their tags: one more, one less, and a tag that is free.
use Rattle.std.proofs.Common.{◌≡◌, ◌≢◌, ℕ, zero, suc, ◌+◌, ◌<◌, ◌≤◌, ◌==◌, nat_lt, Bool, true, false, if◌then◌else◌, List, [], ◌∷◌, ◌++◌, length, get_or, take, Option, Some, None, refl, sym, ap, subst, ◌∙◌, arith, ⊎_elim, inl, inr}
use Rattle.std.specs.{Prelude.{nat_eq, remove, MatchOption, is_some}, List.{IsDistinct, AllByRecursion}, Map.{keys_of, lookup, remove_entry}}
use Rattle.std.proofs.lemmas.Bool.{cases_Bool, eq-eqb, lt-ltb, ltb-true, ltb-false, cases_eq, ne_eqb}
use Rattle.zr_kinds.specs.declared.place.Place.{Place}
use Rattle.flow_queues.specs.Core.{total, IsIn}
use Rattle.zc_forward.specs.{declared.sent.Sent.{Sent}, Tags.{Tags}, Sending.{tags_of, of_sent}}

pub tags-push : (out : List Sent) (s : Sent) → tags_of (out ++ s ∷ []) ≡ tags_of out ++ (s.tag, s.flow) ∷ []
tags-push [] s = refl
tags-push (x ∷ out) s = ap (λ ts. (x.tag, x.flow) ∷ ts) (tags-push out s)

pub tags-many : (out : List Sent) → length (tags_of out) ≡ length out
tags-many [] = refl
tags-many (x ∷ out) = ap suc (tags-many out)

-- ---- the first with a tag

-- the first of these have other tags, and so has the next
pub none-yet : (tag i : ℕ) (out : List Sent) (s : Sent) → lookup (nat_eq tag) (tags_of (take i out)) ≡ None → i < length out → s ≡ get_or out i s
    → (s.tag ≡ tag → ⊥) → lookup (nat_eq tag) (tags_of (take (suc i) out)) ≡ None
none-yet tag i [] s none below is other = absurd (omega (arith, below))
none-yet tag zero (x ∷ out) s none below is other =
    let no : nat_eq tag x.tag ≡ false = ne_eqb tag x.tag (λ e. other (ap (λ (y : Sent). y.tag) is ∙ sym e)) in
    rw no refl
none-yet tag (suc i) (x ∷ out) s none below is other = ⊎_elim
    (λ (yes : nat_eq tag x.tag ≡ true). let clash : Some x.flow ≡ None = rw yes at none in absurd (cc))
    (λ (no : nat_eq tag x.tag ≡ false). rw no (none-yet tag i out s (rw no at none) (omega (arith, below)) is other))
    (cases_Bool (nat_eq tag x.tag))

pub first-gone : (tag i : ℕ) (out : List Sent) (s : Sent) → lookup (nat_eq tag) (tags_of (take i out)) ≡ None → i < length out → s ≡ get_or out i s
    → s.tag ≡ tag → tags_of (remove out i) ≡ remove_entry (nat_eq tag) (tags_of out)
first-gone tag i [] s none below is same = absurd (omega (arith, below))
first-gone tag zero (x ∷ out) s none below is same =
    let yes : nat_eq tag x.tag ≡ true = eq-eqb tag x.tag (sym same ∙ ap (λ (y : Sent). y.tag) is) in
    rw yes refl
first-gone tag (suc i) (x ∷ out) s none below is same = ⊎_elim
    (λ (yes : nat_eq tag x.tag ≡ true). let clash : Some x.flow ≡ None = rw yes at none in absurd (cc))
    (λ (no : nat_eq tag x.tag ≡ false). rw no (ap (λ ts. (x.tag, x.flow) ∷ ts) (first-gone tag i out s (rw no at none) (omega (arith, below)) is same)))
    (cases_Bool (nat_eq tag x.tag))

-- it is one of them
pub at-is-in : (i : ℕ) (out : List Sent) (s : Sent) → i < length out → s ≡ get_or out i s → IsIn s out
at-is-in i [] s below is = absurd (omega (arith, below))
at-is-in zero (x ∷ out) s below is = inl (sym is)
at-is-in (suc i) (x ∷ out) s below is = inr (at-is-in i out s (omega (arith, below)) is)

pub at-same : (i : ℕ) (out : List Sent) (s t : Sent) → i < length out → s ≡ get_or out i s → t ≡ get_or out i t → t ≡ s
at-same i [] s t below is also = absurd (omega (arith, below))
at-same zero (x ∷ out) s t below is also = also ∙ sym is
at-same (suc i) (x ∷ out) s t below is also = at-same i out s t (omega (arith, below)) is also

pub at-gone : (f : Place → ℕ) (i : ℕ) (out : List Sent) (s : Sent) → i < length out → s ≡ get_or out i s → f s.loan + of_sent f (remove out i) ≡ of_sent f out
at-gone f i [] s below is = absurd (omega (arith, below))
at-gone f zero (x ∷ out) s below is = let same : f s.loan ≡ f x.loan = ap (λ (y : Sent). f y.loan) is in omega (arith, same)
at-gone f (suc i) (x ∷ out) s below is = omega (arith, at-gone f i out s (omega (arith, below)) is)

-- ---- a tag that is free

-- how many have a lower tag
abbrev pub lower : ℕ → List Sent → ℕ
lower tag out = total (λ s. if nat_lt s.tag tag then 1 else 0) out

on : (a b : ℕ) → a < b → nat_lt a b ≡ true
on a b less = lt-ltb a b less

off : (a b : ℕ) → b ≤ a → nat_lt a b ≡ false
off a b most = ⊎_elim (λ (yes : nat_lt a b ≡ true). absurd (omega (arith, ltb-true a b yes, most))) (λ (no : nat_lt a b ≡ false). no) (cases_Bool (nat_lt a b))

one : (tag : ℕ) (s : Sent) → ◌≡◌ {A = ℕ} (if nat_lt s.tag (suc tag) then 1 else 0) ((if nat_lt s.tag tag then 1 else 0) + (if s.tag == tag then 1 else 0))
one tag s = ⊎_elim
    (λ (is : s.tag ≡ tag). rw (on s.tag (suc tag) (omega (arith, is)), off s.tag tag (omega (arith, is)), let yes : (s.tag == tag) ≡ true = eq-eqb s.tag tag is in yes) refl)
    (λ (not : s.tag ≢ tag).
    let other : (s.tag == tag) ≡ false = ne_eqb s.tag tag not in
    ⊎_elim
    (λ (below : nat_lt s.tag tag ≡ true). rw (below, on s.tag (suc tag) (omega (arith, ltb-true s.tag tag below)), other) refl)
    (λ (above : nat_lt s.tag tag ≡ false). rw (above, off s.tag (suc tag) (omega (arith, ltb-false s.tag tag above, not)), other) refl)
    (cases_Bool (nat_lt s.tag tag)))
    (cases_eq s.tag tag)

lower-next : (tag : ℕ) (out : List Sent) → lower (suc tag) out ≡ lower tag out + total (λ s. if s.tag == tag then 1 else 0) out
lower-next tag [] = refl
lower-next tag (x ∷ out) = omega (arith, one tag x, lower-next tag out)

one-most : (b : Bool) → (if b then 1 else 0) ≤ 1
one-most true = omega arith
one-most false = omega arith

pub lower-most : (tag : ℕ) (out : List Sent) → lower tag out ≤ length out
lower-most tag [] = omega arith
lower-most tag (x ∷ out) = omega (arith, one-most (nat_lt x.tag tag), lower-most tag out)

found-one : (tag : ℕ) (out : List Sent) (s : Sent) → IsIn s out → s.tag ≡ tag → 1 ≤ total (λ s. if s.tag == tag then 1 else 0) out
found-one tag [] s there same = absurd there
found-one tag (x ∷ out) s (inl e) same =
    let yes : (x.tag == tag) ≡ true = eq-eqb x.tag tag (ap (λ (y : Sent). y.tag) e ∙ same) in
    let first : ◌≡◌ {A = ℕ} (if x.tag == tag then 1 else 0) 1 = rw yes refl in
    omega (arith, first)
found-one tag (x ∷ out) s (inr there) same = omega (arith, found-one tag out s there same)

pub one-lower : (tag : ℕ) (out : List Sent) (s : Sent) → IsIn s out → s.tag ≡ tag → tag ≤ lower tag out → suc tag ≤ lower (suc tag) out
one-lower tag out s there same before = omega (arith, lower-next tag out, found-one tag out s there same, before)

pub nth : (i : ℕ) (out : List Sent) → i < length out → (s : Sent) × (s ≡ get_or out i s)
nth i [] below = absurd (omega (arith, below))
nth zero (x ∷ out) below = (x, refl)
nth (suc i) (x ∷ out) below = nth i out (omega (arith, below))

-- where it stands among these there are as many
pub taken-lower : (tag : ℕ) (out : List Sent) (None_yet : Type 0) (Gone : ℕ → Type 0) (found : Option ℕ)
    → MatchOption found None_yet (λ i. (i < length out) × ((s : Sent) → s ≡ get_or out i s → s.tag ≡ tag) × Gone i) → is_some found ≡ true
    → tag ≤ lower tag out → tag + 1 ≤ lower (tag + 1) out
taken-lower tag out None_yet Gone None where_is some before = absurd (cc)
taken-lower tag out None_yet Gone (Some i) where_is some before =
    let (s, at) = nth i out where_is.0 in
    let more = one-lower tag out s (at-is-in i out s where_is.0 at) (where_is.1 s at) before in
    let next : suc tag ≡ tag + 1 = omega arith in
    subst (λ t. t ≤ lower t out) next more

-- ---- no tag is out twice

away : (tag : ℕ) (P : ℕ → Type 0) (tags : Tags) → AllByRecursion P (keys_of tags) → AllByRecursion P (keys_of (remove_entry (nat_eq tag) tags))
away tag P [] all = all
away tag P (e ∷ tags) all = ⊎_elim
    (λ (yes : nat_eq tag e.0 ≡ true). rw yes all.1)
    (λ (no : nat_eq tag e.0 ≡ false). rw no (all.0, away tag P tags all.1))
    (cases_Bool (nat_eq tag e.0))

pub still-once : (tag : ℕ) (tags : Tags) → IsDistinct nat_eq (keys_of tags) → IsDistinct nat_eq (keys_of (remove_entry (nat_eq tag) tags))
unfolding IsDistinct
still-once tag [] each = each
still-once tag (e ∷ tags) each = ⊎_elim
    (λ (yes : nat_eq tag e.0 ≡ true). rw yes each.1)
    (λ (no : nat_eq tag e.0 ≡ false). rw no (away tag (λ y. nat_eq e.0 y ≡ false) tags each.0, still-once tag tags each.1))
    (cases_Bool (nat_eq tag e.0))

pub found-push : (tag flow : ℕ) (tags : Tags) → lookup (nat_eq tag) tags ≡ None → lookup (nat_eq tag) (tags ++ (tag, flow) ∷ []) ≡ Some flow
found-push tag flow [] none = rw (let same : nat_eq tag tag ≡ true = eq-eqb tag tag refl in same) refl
found-push tag flow (e ∷ tags) none = ⊎_elim
    (λ (yes : nat_eq tag e.0 ≡ true). let clash : Some e.1 ≡ None = rw yes at none in absurd (cc))
    (λ (no : nat_eq tag e.0 ≡ false). rw no (found-push tag flow tags (rw no at none)))
    (cases_Bool (nat_eq tag e.0))
