-- The copying receiver where everything comes in order: the placed values are then a list, and what comes at its end
-- is appended. And what holds in any order: the values at its front never change.
use Rattle.std.proofs.Common.{◌≡◌, ℕ, zero, suc, ◌+◌, ◌-◌, ◌^◌, ◌≤◌, List, [], ◌∷◌, ◌++◌, length, nat_lt}
use Rattle.std.proofs.Common.{if◌then◌else◌, Bool, true, false, Option, Some, None, refl, sym, ap, ◌∙◌, ◌⊎◌, ⊎_elim, inl, inr, arith, add-zero}
use Rattle.std.proofs.lemmas.Bool.{le-ltb, cond_both, Decides.{nat_tests}}
use Rattle.zr_kinds.specs.CopyingReceiver.{Placed, missing_within, next_missing, lead, accepts, value_at, brought, first_of, filled_by_values, received, values_from}
use Rattle.zr_kinds.specs.CopyingReceiver.{front_of}

-- the placed values are those of the list, and no other
pub record IsInOrder {A : Type 0} (placed : Placed A) (out : List A) : Type 0 where
  pub at : (p : ℕ) → placed.at p ≡ value_at out p
  pub top : length out ≤ placed.top

-- ---- the least position where none stands, and the front

missing_within-list : {A : Type 0} (at : ℕ → Option A) (steps p : ℕ) (xs : List A) → ((q : ℕ) → at (p + q) ≡ value_at xs q)
    → length xs ≤ steps → missing_within at steps p ≡ p + length xs
missing_within-list at zero p [] same enough = sym (add-zero p)
missing_within-list at zero p (x ∷ xs) same enough = absurd (omega arith)
missing_within-list at (suc steps) p [] same enough =
    let here : at p ≡ None = ap at (sym (add-zero p)) ∙ same 0 in rw here (sym (add-zero p))
missing_within-list at (suc steps) p (x ∷ xs) same enough =
    let here : at p ≡ Some x = ap at (sym (add-zero p)) ∙ same 0 in
    let later : missing_within at steps (suc p) ≡ suc p + length xs = missing_within-list at steps (suc p) xs (λ q. ap at (omega arith) ∙ same (suc q))
    (omega arith) in
    rw here (later ∙ omega arith)

values_from-list : {A : Type 0} (at : ℕ → Option A) (p : ℕ) (xs : List A) → ((q : ℕ) → at (p + q) ≡ value_at xs q)
    → values_from at (length xs) p ≡ xs
values_from-list at p [] same = refl
values_from-list at p (x ∷ xs) same =
    let here : at p ≡ Some x = ap at (sym (add-zero p)) ∙ same 0 in
    rw here (ap (λ others. x ∷ others) (values_from-list at (suc p) xs (λ q. ap at (omega arith) ∙ same (suc q))))

module _ {A : Type 0} {placed : Placed A} {out : List A} (in_order : IsInOrder placed out) where
  pub next_missing-in_order : next_missing placed ≡ length out
  unfolding next_missing
  next_missing-in_order = missing_within-list placed.at placed.top 0 out (λ q. ap placed.at (omega arith) ∙ in_order.at q) in_order.top ∙ omega arith

  pub front_of-in_order : front_of placed ≡ out
  unfolding front_of
  front_of-in_order = rw next_missing-in_order (values_from-list placed.at 0 out (λ q. ap placed.at (omega arith) ∙ in_order.at q))

-- ---- what is received

nat_lt-suc : (a b : ℕ) → nat_lt (suc a) (suc b) ≡ nat_lt a b
nat_lt-suc a b = grind (arith, nat_tests)

sub-suc : (a b : ℕ) → suc a - suc b ≡ a - b
sub-suc a b = omega arith

value_at-append : {A : Type 0} (xs ys : List A) (p : ℕ) → value_at (xs ++ ys) p ≡ first_of (value_at xs p)
    (if nat_lt p (length xs) then None else value_at ys (p - length xs))
value_at-append [] ys p = let test : nat_lt p 0 ≡ false = le-ltb p 0 (omega arith) in rw test (ap (value_at ys) (omega arith))
value_at-append (x ∷ xs) ys zero = refl
value_at-append (x ∷ xs) ys (suc p) = rw (nat_lt-suc p (length xs), sub-suc p (length xs)) (value_at-append xs ys p)

brought-nothing : {A : Type 0} (from p : ℕ) → brought {A = A} [] from p ≡ None
brought-nothing from p = by_test (nat_lt (p + 2 ^ 31) from)
  where
    by_test : {A : Type 0} (b : Bool) → (if b then None else value_at {A = A} [] (p + 2 ^ 31 - from)) ≡ None
    by_test true = refl
    by_test false = refl

pub first_of-nothing : {A : Type 0} (value : Option A) → first_of value None ≡ value
first_of-nothing None = refl
first_of-nothing (Some value) = refl

filled-nothing : {A : Type 0} {placed : Placed A} {out : List A} (from : ℕ) → IsInOrder placed out → IsInOrder (filled_by_values placed from []) out
filled-nothing {placed = placed} {out = out} from in_order = record {
  at = λ p. ap (first_of (placed.at p)) (brought-nothing from p) ∙ first_of-nothing (placed.at p) ∙ in_order.at p;
  top = (let top : length out ≤ placed.top = in_order.top in omega arith);
}

-- no value: nothing changes, wherever it was to go
pub received-nothing : {A : Type 0} {placed : Placed A} {out : List A} (base s : ℕ) → IsInOrder placed out → IsInOrder (received base placed s []) out
unfolding received
received-nothing {A = A} {placed = placed} {out = out} base s in_order =
    cond_both (accepts base (next_missing placed) s 0) (filled_by_values placed (next_missing placed + lead base (next_missing placed) s) []) placed
    (λ kept. IsInOrder kept out) (λ _. filled-nothing _ in_order) (λ _. in_order)

-- ---- in any order

pub cases_Option : {A : Type 0} (value : Option A) → (value ≡ None) ⊎ ((there : A) × (value ≡ Some there))
cases_Option None = inl refl
cases_Option (Some there) = inr (there, refl)

missing_within-above : {A : Type 0} (at : ℕ → Option A) (steps p : ℕ) → p ≤ missing_within at steps p
missing_within-above at zero p = omega arith
missing_within-above at (suc steps) p =
    let above : suc p ≤ missing_within at steps (suc p) = missing_within-above at steps (suc p) in
    ⊎_elim (λ here. rw here (omega arith)) (λ (there, here). rw here (omega arith)) (cases_Option (at p))

sub-self : (n : ℕ) → n - n ≡ 0
sub-self n = omega arith

missing_none : {A : Type 0} (at : ℕ → Option A) (steps p : ℕ) → at p ≡ None
    → values_from at (missing_within at (suc steps) p - p) p ≡ values_from at (suc steps) p
missing_none at steps p here =
    let here_missing : missing_within at (suc steps) p ≡ p = rw here refl in
    let no_values : values_from at (suc steps) p ≡ [] = rw here refl in
    ap (λ n. values_from at (n - p) p) here_missing ∙ ap (λ n. values_from at n p) (sub-self p) ∙ sym no_values

-- values up to the first that is missing: a bound on the steps that lies behind it doesn't matter
values_from-missing : {A : Type 0} (at : ℕ → Option A) (steps p : ℕ) → values_from at (missing_within at steps p - p) p ≡ values_from at steps p
values_from-missing at zero p = rw (sub-self p) refl
values_from-missing at (suc steps) p =
    let above : suc p ≤ missing_within at steps (suc p) = missing_within-above at steps (suc p) in
    let one_more : missing_within at steps (suc p) - p ≡ suc (missing_within at steps (suc p) - suc p) = omega arith in
    ⊎_elim
    (λ here. missing_none at steps p here)
    (λ (there, here). rw (here, one_more, here) (ap (λ others. there ∷ others) (values_from-missing at steps (suc p))))
    (cases_Option (at p))

-- what stood at a position still stands there, and there may be more
record KeepsPlaced {A : Type 0} (at later : ℕ → Option A) : Type 0 where
  still : (p : ℕ) (value : A) → at p ≡ Some value → later p ≡ Some value

values_from-more : {A : Type 0} {at later : ℕ → Option A} → KeepsPlaced at later → (steps more p : ℕ)
    → (rest : List A) × (values_from later (steps + more) p ≡ values_from at steps p ++ rest)
values_from-more {later = later} keeps zero more p = (values_from later (0 + more) p, refl)
values_from-more {at = at} {later = later} keeps (suc steps) more p =
    let next : suc steps + more ≡ suc (steps + more) = omega arith in
    let others = values_from-more keeps steps more (suc p) in
    ⊎_elim
    (λ (here : at p ≡ None). rw here (values_from later (suc steps + more) p, refl))
    (λ (there, here). rw (next, here, keeps.still p there here) (others.0, ap (λ values. there ∷ values) others.1))
    (cases_Option (at p))

pub front_of-steps : {A : Type 0} (placed : Placed A) → front_of placed ≡ values_from placed.at placed.top 0
unfolding front_of next_missing
front_of-steps placed = ap (λ n. values_from placed.at n 0) (omega arith) ∙ values_from-missing placed.at placed.top 0
