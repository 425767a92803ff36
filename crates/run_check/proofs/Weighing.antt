-- What lists of the same holders have alike, and what becomes of a list at a change.
use Rattle.std.proofs.Common.{◌≡◌, ◌∙◌, ℕ, zero, suc, ◌+◌, ◌*◌, ◌++◌, ◌≤◌, List, [], ◌∷◌, length, if◌then◌else◌, ltb, Bool, true, false, not, ◌||◌, ◌&&◌}
use Rattle.std.{proofs.Common.{None, refl, sym, ap, arith, ⊎_elim, replicate}, specs.{Prelude.{filter, count_by}, List.{list_any, list_all}}}
use Rattle.std.proofs.lemmas.Bool.{cases_Bool, lt-ltb}
use Rattle.zr_kinds.specs.{declared.holding.Holding.{Holding}, Holders.{becomes, is_same, weight}}
use Rattle.zr_kinds.proofs.Weighing.{Moves, one_if, some_becomes, weight-append, weight-count, weight-filter, weight-length}
use Rattle.run_check.specs.Holding.{Changes, SameHolders}

pub weight-replicate : (f : Holding → ℕ) (n : ℕ) (h : Holding) → weight f (replicate n h) ≡ n * f h
weight-replicate f zero h = omega arith
weight-replicate f (suc n) h = omega (arith, weight-replicate f n h)

pub weight-one_if : (p : Holding → Bool) (held : List Holding) → weight (one_if p) held ≤ weight (λ h. 1) held
weight-one_if p [] = omega arith
weight-one_if p (h ∷ held) = ⊎_elim
    (λ (yes : p h ≡ true). rw yes (omega (arith, weight-one_if p held)))
    (λ (no : p h ≡ false). rw no (omega (arith, weight-one_if p held)))
    (cases_Bool (p h))

any_weight : (p : Holding → Bool) (held : List Holding) → list_any p held ≡ ltb 0 (weight (one_if p) held)
any_weight p [] = refl
any_weight p (h ∷ held) = ⊎_elim
    (λ (yes : p h ≡ true). rw yes (sym (lt-ltb 0 (1 + weight (one_if p) held) (omega arith))))
    (λ (no : p h ≡ false). let same : 0 + weight (one_if p) held ≡ weight (one_if p) held = omega arith in rw (no, same) (any_weight p held))
    (cases_Bool (p h))

all_any : (p : Holding → Bool) (held : List Holding) → list_all p held ≡ not (list_any (λ h. not (p h)) held)
all_any p [] = refl
all_any p (h ∷ held) = ⊎_elim
    (λ (yes : p h ≡ true). rw yes (all_any p held))
    (λ (no : p h ≡ false). rw no refl)
    (cases_Bool (p h))

-- ---- the same holders

pub same-sym : (one other : List Holding) → SameHolders one other → SameHolders other one
same-sym one other same = λ f. sym (same f)

pub same-trans : (one other third : List Holding) → SameHolders one other → SameHolders other third → SameHolders one third
same-trans one other third same later = λ f. same f ∙ later f

pub length-same : (one other : List Holding) → SameHolders one other → length one ≡ length other
length-same one other same = sym (weight-length one) ∙ same (λ h. 1) ∙ weight-length other

pub count-same : (p : Holding → Bool) (one other : List Holding) → SameHolders one other → count_by p one ≡ count_by p other
count-same p one other same = sym (weight-count p one) ∙ same (one_if p) ∙ weight-count p other

pub any-same : (p : Holding → Bool) (one other : List Holding) → SameHolders one other → list_any p one ≡ list_any p other
any-same p one other same = any_weight p one ∙ ap (ltb 0) (same (one_if p)) ∙ sym (any_weight p other)

pub all-same : (p : Holding → Bool) (one other : List Holding) → SameHolders one other → list_all p one ≡ list_all p other
all-same p one other same = all_any p one ∙ ap not (any-same (λ h. not (p h)) one other same) ∙ sym (all_any p other)

pub filter-same : (p : Holding → Bool) (one other : List Holding) → SameHolders one other → SameHolders (filter p one) (filter p other)
filter-same p one other same = λ f. weight-filter f p one ∙ same (λ h. if p h then f h else 0) ∙ sym (weight-filter f p other)

pub same-append : (one other behind : List Holding) → SameHolders one other → SameHolders (one ++ behind) (other ++ behind)
same-append one other behind same = λ f. weight-append f one behind ∙ ap (λ n. n + weight f behind) (same f) ∙ sym (weight-append f other behind)

-- ---- one holder that becomes others

pub none_becomes : (old : Holding) (these held : List Holding) → list_any (is_same old) held ≡ false → becomes old these held ≡ None
none_becomes old these [] none = refl
none_becomes old these (first ∷ held) none = ⊎_elim
    (λ (yes : is_same old first ≡ true). let some : true ≡ false = rw yes at none in cc)
    (λ (no : is_same old first ≡ false). let later : list_any (is_same old) held ≡ false = rw no at none in rw (no, none_becomes old these held later) refl)
    (cases_Bool (is_same old first))

pub becomes_now : (old : Holding) (these held now : List Holding) → list_any (is_same old) held ≡ true → Moves held (old ∷ []) these now
    → Changes (becomes old these held) now true
becomes_now old these held now some moves =
    let found = some_becomes old these held some in
    (found.0, found.1, λ f. omega (arith, found.2 f, moves f))

-- ---- one that isn't there

-- weights without those of one holder
abbrev pub without : Holding → (Holding → ℕ) → Holding → ℕ
without old f h = if not (is_same old h) then f h else 0

pub weight-kept : (old : Holding) (f : Holding → ℕ) (held : List Holding) → weight f (filter (λ h. not (is_same old h)) held) ≡ weight (without old f) held
weight-kept old f held = weight-filter f (λ h. not (is_same old h)) held

pub weight-absent : (old : Holding) (f : Holding → ℕ) (held : List Holding) → list_any (is_same old) held ≡ false → weight (without old f) held ≡ weight f held
weight-absent old f [] none = refl
weight-absent old f (h ∷ held) none = ⊎_elim
    (λ (yes : is_same old h ≡ true). let some : true ≡ false = rw yes at none in cc)
    (λ (no : is_same old h ≡ false). let later : list_any (is_same old) held ≡ false = rw no at none in rw no (ap (λ n. f h + n) (weight-absent old f held later)))
    (cases_Bool (is_same old h))

pub any-append : (p : Holding → Bool) (one other : List Holding) → list_any p (one ++ other) ≡ (list_any p one || list_any p other)
any-append p [] other = refl
any-append p (h ∷ one) other = ⊎_elim
    (λ (yes : p h ≡ true). rw yes refl)
    (λ (no : p h ≡ false). rw no (any-append p one other))
    (cases_Bool (p h))

pub any-replicate : (p : Holding → Bool) (n : ℕ) (h : Holding) → list_any p (replicate n h) ≡ (ltb 0 n && p h)
any-replicate p zero h = refl
any-replicate p (suc n) h = ⊎_elim
    (λ (yes : p h ≡ true). rw (yes, lt-ltb 0 (suc n) (omega arith)) refl)
    (λ (no : p h ≡ false). rw (no, lt-ltb 0 (suc n) (omega arith)) (any-replicate p n h ∙ rw no (none (ltb 0 n))))
    (cases_Bool (p h))
  where
    none : (b : Bool) → (b && false) ≡ false
    none true = refl
    none false = refl
