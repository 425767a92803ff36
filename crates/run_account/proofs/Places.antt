-- Places of a list of which one was written, and what shelves keep and have lost by them.
use Rattle.std.proofs.Common.{◌≡◌, ◌≢◌, ℕ, zero, suc, ◌<◌, List, [], ◌∷◌, ◌++◌, length, set, Option, Some, refl, ap, arith}
use Rattle.std.specs.{Prelude.{option_and_then, option_map}, List.{slice_get}}
use Rattle.card_feed.specs.Account.{kept_in}
use Rattle.run_account.specs.Views.{losses_in, losses_or}
use Rattle.zr_io.specs.Moved.{ShelfCounts}

pub get-set_same : {A : Type 0} (xs : List A) (i : ℕ) (x : A) → i < length xs → slice_get (set xs i x) i ≡ Some x
get-set_same [] i x within = absurd (omega arith)
get-set_same (y ∷ xs) zero x within = refl
get-set_same (y ∷ xs) (suc i) x within = get-set_same xs i x (omega arith)

pub get-set_other : {A : Type 0} (xs : List A) (i j : ℕ) (x : A) → j ≢ i → slice_get (set xs i x) j ≡ slice_get xs j
get-set_other [] i j x other = refl
get-set_other (y ∷ xs) zero zero x other = absurd (other refl)
get-set_other (y ∷ xs) zero (suc j) x other = refl
get-set_other (y ∷ xs) (suc i) zero x other = refl
get-set_other (y ∷ xs) (suc i) (suc j) x other = get-set_other xs i j x (λ e. other (ap suc e))

pub get-within : {A : Type 0} (xs : List A) (i : ℕ) (x : A) → slice_get xs i ≡ Some x → i < length xs
get-within [] i x is = absurd (cc)
get-within (y ∷ xs) zero x is = omega arith
get-within (y ∷ xs) (suc i) x is = let within : i < length xs = get-within xs i x is in omega arith

-- a place that was written, or another
pub data InSet {A : Type 0} (xs : List A) (i : ℕ) (x : A) (j : ℕ) (w : A) : Type 0 where
  here : j ≡ i → w ≡ x → InSet xs i x j w
  there : j ≢ i → slice_get xs j ≡ Some w → InSet xs i x j w

pub in-set : {A : Type 0} (xs : List A) (i : ℕ) (x : A) (j : ℕ) (w : A) → slice_get (set xs i x) j ≡ Some w → InSet xs i x j w
in-set [] i x j w is = absurd (cc)
in-set (y ∷ xs) zero x zero w is = here refl cc
in-set (y ∷ xs) zero x (suc j) w is = there (λ e. absurd (cc)) is
in-set (y ∷ xs) (suc i) x zero w is = there (λ e. absurd (cc)) is
in-set (y ∷ xs) (suc i) x (suc j) w is = elim (in-set xs i x j w is) [
  | here e same ↦ here (ap suc e) same
  | there other is_there ↦ there (λ e. other (let f : j ≡ i = cc in f)) is_there
]

-- what the shelf of an application keeps is what this shelf keeps
pub kept-here : {T : Type 0} (kept : T → ℕ → Option (List ℕ)) (shelves : List T) (a : ℕ) (shelf : T) → slice_get shelves a ≡ Some shelf
    → kept_in kept shelves a ≡ kept shelf
kept-here kept shelves a shelf is = ap (λ s flow. option_and_then (λ x. kept x flow) s) is

pub kept-there : {T : Type 0} (kept : T → ℕ → Option (List ℕ)) (shelves later : List T) (a : ℕ) → slice_get later a ≡ slice_get shelves a
    → kept_in kept later a ≡ kept_in kept shelves a
kept-there kept shelves later a is = ap (λ s flow. option_and_then (λ x. kept x flow) s) is

pub losses-here : {T : Type 0} (losses : T → ShelfCounts) (shelves : List T) (a : ℕ) (shelf : T) → slice_get shelves a ≡ Some shelf
    → losses_in losses shelves a ≡ losses shelf
losses-here losses shelves a shelf is = ap (λ s. losses_or (option_map losses s)) is

pub losses-there : {T : Type 0} (losses : T → ShelfCounts) (shelves later : List T) (a : ℕ) → slice_get later a ≡ slice_get shelves a
    → losses_in losses later a ≡ losses_in losses shelves a
losses-there losses shelves later a is = ap (λ s. losses_or (option_map losses s)) is

-- one more at the end
pub in-push : {A : Type 0} (xs : List A) (x : A) (j : ℕ) (w : A) → slice_get (xs ++ x ∷ []) j ≡ Some w → InSet xs (length xs) x j w
in-push [] x zero w is = here refl cc
in-push [] x (suc j) w is = absurd (cc)
in-push (y ∷ xs) x zero w is = there (λ e. absurd (cc)) is
in-push (y ∷ xs) x (suc j) w is = elim (in-push xs x j w is) [
  | here e same ↦ here (ap suc e) same
  | there other is_there ↦ there (λ e. other (let f : j ≡ length xs = cc in f)) is_there
]

pub length-push : {A : Type 0} (xs : List A) (x : A) → length (xs ++ x ∷ []) ≡ suc (length xs)
length-push [] x = refl
length-push (y ∷ xs) x = ap suc (length-push xs x)
