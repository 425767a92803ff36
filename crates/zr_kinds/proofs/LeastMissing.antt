-- The proof that `next_missing` is the least position where none stands: from the top on none ever does.
use Rattle.std.proofs.Common.{◌≡◌, ℕ, zero, suc, ◌+◌, ◌-◌, ◌^◌, ◌<◌, ◌≤◌, List, [], ◌∷◌, length, nat_lt, Option, Some, None}
use Rattle.std.proofs.{Common.{IsSome, is_some, refl, sym, ap, ◌∙◌, ⊎_elim, arith, add-zero}, lemmas.Bool.{cond_both, cases_eq, cases_order, both_ways}}
use Rattle.zr_kinds.specs.CopyingReceiver.{Placed, nothing_placed, missing_within, next_missing, lead, accepts, value_at, brought, filled_by_values, received}
use Rattle.zr_kinds.{specs.ReceiverLaws.{received_in_turn, IsLeastMissing, NextMissingIsLeast}, proofs.InOrder.{cases_Option}}

-- from the top on none stands
pub record IsBounded {A : Type 0} (placed : Placed A) : Type 0 where
  pub past : (p : ℕ) → placed.top ≤ p → placed.at p ≡ None

pub value_at-past : {A : Type 0} (values : List A) (q : ℕ) → length values ≤ q → value_at values q ≡ None
value_at-past [] q past = refl
value_at-past (value ∷ values) zero past = absurd (omega arith)
value_at-past (value ∷ values) (suc q) past = value_at-past values q (omega arith)

brought-past : {A : Type 0} (values : List A) (from p : ℕ) → from + length values - 2 ^ 31 ≤ p → brought values from p ≡ None
brought-past values from p past =
    cond_both (nat_lt (p + 2 ^ 31) from) None (value_at values (p + 2 ^ 31 - from)) (λ found. found ≡ None)
    (λ _. refl) (λ _. value_at-past values (p + 2 ^ 31 - from) (omega arith))

pub IsBounded-nothing : {A : Type 0} → IsBounded {A = A} nothing_placed
IsBounded-nothing = record { past = λ p past. refl }

IsBounded-filled : {A : Type 0} (placed : Placed A) (from : ℕ) (values : List A) → IsBounded placed → IsBounded (filled_by_values placed from values)
IsBounded-filled placed from values bounded = record { past = λ p past. rw (bounded.past p (omega arith)) (brought-past values from p (omega arith)) }

pub IsBounded-received : {A : Type 0} (base : ℕ) (placed : Placed A) (s : ℕ) (values : List A) → IsBounded placed
    → IsBounded (received base placed s values)
unfolding received
IsBounded-received base placed s values bounded =
    let from : ℕ = next_missing placed + lead base (next_missing placed) s in
    cond_both (accepts base (next_missing placed) s (length values)) (filled_by_values placed from values) placed IsBounded
    (λ _. IsBounded-filled placed from values bounded) (λ _. bounded)

pub IsBounded-in_turn : {A : Type 0} (base : ℕ) (placed : Placed A) (pieces : List (ℕ × List A)) → IsBounded placed
    → IsBounded (received_in_turn base placed pieces)
IsBounded-in_turn base placed [] bounded = bounded
IsBounded-in_turn base placed (piece ∷ pieces) bounded = IsBounded-in_turn base (received base placed piece.0 piece.1) pieces
    (IsBounded-received base placed piece.0 piece.1 bounded)

-- from p on, what `missing_within` finds is the first position where none stands
record IsFirstMissing {A : Type 0} (at : ℕ → Option A) (p found : ℕ) : Type 0 where
  missing : at found ≡ None
  before : (q : ℕ) → p ≤ q → q < found → IsSome (at q)

first_here : {A : Type 0} (at : ℕ → Option A) (p : ℕ) → at p ≡ None → IsFirstMissing at p p
first_here at p here = record { missing = here; before = λ q from until. absurd (omega arith) }

first_later : {A : Type 0} (at : ℕ → Option A) (p : ℕ) (value : A) (found : ℕ) → at p ≡ Some value → IsFirstMissing at (suc p) found
    → IsFirstMissing at p found
first_later at p value found here later = record {
  missing = later.missing;
  before = λ q from until. ⊎_elim
      (λ (e : q ≡ p). let there : at q ≡ Some value = ap at e ∙ here in rw there refl)
      (λ (other : q ≡ p → ⊥). later.before q (omega arith) until)
      (cases_eq q p);
}

missing_within-first : {A : Type 0} (at : ℕ → Option A) (steps p : ℕ) → at (p + steps) ≡ None → IsFirstMissing at p (missing_within at steps p)
missing_within-first at zero p past = first_here at p (ap at (sym (add-zero p)) ∙ past)
missing_within-first at (suc steps) p past =
    let later = missing_within-first at steps (suc p) (ap at (omega arith) ∙ past) in
    ⊎_elim (λ here. rw here (first_here at p here)) (λ (value, here). rw here (first_later at p value _ here later)) (cases_Option (at p))

pub next_missing-least : {A : Type 0} (placed : Placed A) → IsBounded placed → IsLeastMissing placed (next_missing placed)
unfolding next_missing
next_missing-least placed bounded =
    let first : IsFirstMissing placed.at 0 (missing_within placed.at placed.top 0) = missing_within-first placed.at placed.top 0
    (bounded.past (0 + placed.top) (omega arith)) in
    record { missing = first.missing; before = λ p below. first.before p (omega arith) below }

pub next_missing_least : (A : Type 0) → NextMissingIsLeast A
next_missing_least A base pieces = next_missing-least (received_in_turn base nothing_placed pieces)
    (IsBounded-in_turn base nothing_placed pieces IsBounded-nothing)

none_and_some : {A : Type 0} (value : Option A) → value ≡ None → IsSome value → ⊥
none_and_some value none some = both_ways (is_some value) (ap is_some none) some

-- where the same positions are taken the least missing position is the same
pub same_least : {A B : Type 0} (placed : Placed A) (other : Placed B) (m n : ℕ) → IsLeastMissing placed m → IsLeastMissing other n
    → ((p : ℕ) → is_some (placed.at p) ≡ is_some (other.at p)) → m ≡ n
same_least placed other m n first second same = ⊎_elim
    (λ equal. equal)
    (λ unequal. ⊎_elim
    (λ (below : m < n). absurd (none_and_some (placed.at m) first.missing (same m ∙ second.before m below)))
    (λ (above : n < m). absurd (none_and_some (other.at n) second.missing (sym (same n) ∙ first.before n above)))
    unequal)
    (cases_order m n)
