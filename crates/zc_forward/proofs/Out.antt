-- The tags that are out: one more, and the oldest of them gone.
use Rattle.std.{proofs.Common.{◌≡◌, ℕ, ◌<◌, ◌++◌, [], ◌∷◌, length, get_or, true, false, Some, None, refl, sym, ap, subst, arith, ⊎_elim}, specs.Prelude.{nat_eq}}
use Rattle.std.{specs.{Cmp.{nat_eq_equiv}, List.{AllByRecursion, IsDistinct, list_any, remove}, Map.{keys_of, lookup}}, proofs.lemmas.Bool.{cases_Bool, eq-eqb}}
use Rattle.std.proofs.lemmas.Map.Keys.{IsDistinct-head, IsDistinct-push, IsDistinct-tail}
use Rattle.zc_forward.specs.{Tags.{Tags, TakesTag}, Carriage.{AreOut, Carriage}}

pub none_out : (delay : ℕ) → delay < 64 → AreOut delay []
unfolding IsDistinct
none_out delay small = record { small = small; each = tt }

-- where a look-up finds no tag, the tag is none of them
not_among : (tag : ℕ) (out : Tags) → lookup (nat_eq tag) out ≡ None → list_any (nat_eq tag) (keys_of out) ≡ false
not_among tag [] none = refl
not_among tag (e ∷ out) none = ⊎_elim
    (λ (same : nat_eq tag e.0 ≡ true). let some : Some e.1 ≡ None = rw same at none in cc)
    (λ (other : nat_eq tag e.0 ≡ false). rw other (not_among tag out (rw other at none)))
    (cases_Bool (nat_eq tag e.0))

keys_push : (out : Tags) (tag flow : ℕ) → keys_of (out ++ (tag, flow) ∷ []) ≡ keys_of out ++ tag ∷ []
keys_push [] tag flow = refl
keys_push (e ∷ out) tag flow = ap (λ keys. e.0 ∷ keys) (keys_push out tag flow)

pub one_more : (delay tag flow : ℕ) (out : Tags) → AreOut delay out → lookup (nat_eq tag) out ≡ None → AreOut delay (out ++ (tag, flow) ∷ [])
one_more delay tag flow out sound none = record {
  small = sound.small;
  each = subst (IsDistinct nat_eq) (sym (keys_push out tag flow)) (IsDistinct-push nat_eq_equiv (keys_of out) tag sound.each (not_among tag out none));
}

none_found : (tag : ℕ) (out : Tags) → AllByRecursion (λ other. nat_eq tag other ≡ false) (keys_of out) → lookup (nat_eq tag) out ≡ None
none_found tag [] all = refl
none_found tag (e ∷ out) all = rw all.0 (none_found tag out all.1)

-- the oldest is gone, and no other
pub one_less : (delay : ℕ) (out now : Tags) (first : ℕ × ℕ) → AreOut delay out → 0 < length out → first ≡ get_or out 0 first → now ≡ remove out 0
    → TakesTag out now (Some first.0) × AreOut delay now
one_less delay [] now first sound some is gone = absurd (omega arith)
one_less delay (e ∷ out) now first sound some is gone =
    let equal : first ≡ e = is in
    let rest : now ≡ out = gone in
    let taken : TakesTag (e ∷ out) out (Some e.0) =
    rw (eq-eqb e.0 e.0 refl) (refl, refl, none_found e.0 out (IsDistinct-head nat_eq e.0 (keys_of out) sound.each)) in
    let left : AreOut delay out = record { small = sound.small; each = IsDistinct-tail nat_eq e.0 (keys_of out) sound.each } in (
      subst (λ tags. TakesTag (e ∷ out) tags (Some first.0)) (sym rest) (subst (λ f. TakesTag (e ∷ out) out (Some f.0)) (sym equal) taken),
      subst (AreOut delay) (sym rest) left,
    )

pub oldest_is : (out now : Tags) (first : ℕ × ℕ) → 0 < length out → first ≡ get_or out 0 first → now ≡ remove out 0 → out ≡ first ∷ now
oldest_is [] now first some is gone = absurd (omega arith)
oldest_is (e ∷ out) now first some is gone = let equal : first ≡ e = is in let rest : now ≡ out = gone in cc

pub same_beside : {T : Type 0} (one other : Carriage T) (out : Tags) → one ≡ other → record one { out = out } ≡ record other { out = out }
same_beside {T} one other out same = ap {A = Carriage T} (λ carriage. record carriage { out = out }) same
