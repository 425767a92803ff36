-- A front of a legal record leads to holders, whose counts were said last.
use Rattle.std.proofs.Common.{◌≡◌, ◌∙◌, ℕ, ◌+◌, ◌-◌, ◌++◌, List, [], ◌∷◌, length, Bool, eqb, ◌&&◌, true, false, not, Option, Some, None, refl, sym, ap, arith, ⊎_elim}
use Rattle.std.proofs.{Common.{subst}, lemmas.{Bool.{and_parts, cases_Bool, eq-eqb, eqb-true}, List.{nil_from_length}}}
use Rattle.std.specs.Prelude.{count_by, filter, if◌then◌else◌, option_map, option_and_then}
use Rattle.zr_kinds.specs.{declared.{event.Event.{Event}, holding.Holding.{Holding}}, Setting.{Setting}}
use Rattle.zr_kinds.specs.Holders.{Holdings, after, after_at, all_after, becomes, buffer_of_event, changed, has_counts, held_after, is_in_range, is_same, is_user}
use Rattle.zr_kinds.specs.Holders.{no_holdings, only_if, weight, with_holders}
use Rattle.zr_kinds.proofs.{Following.{some_from}, Weighing.{Moves, one_if, same-equal, weight-append, weight-count, weight-filter, weight-length}}
use Rattle.zr_kinds.specs.declared.event.Event.TheVariants as event
use Rattle.zr_kinds.specs.declared.holding.Holding.TheVariants as holding
use Rattle.run_check.specs.Fronts.{FrontsLaw, is_of, pool_last, pool_said, said_or, user_last, user_said, user_said_or}

-- what was asked holds
asked : {A : Type 0} (test : Bool) (value : Option A) (result : A) → only_if test value ≡ Some result → (test ≡ true) × (value ≡ Some result)
asked true value result is = (refl, is)
asked false value result is = cc

mapped : {A B : Type 0} (f : A → B) (value : Option A) (result : B) → option_map f value ≡ Some result → (a : A) × (value ≡ Some a) × (f a ≡ result)
mapped f None result is = cc
mapped f (Some a) result is = let same : f a ≡ result = cc in (a, refl, same)

-- ---- what one holder became

became : (old : Holding) (these held later : List Holding) → becomes old these held ≡ Some later → Moves held (old ∷ []) these later
became old these [] later is = cc
became old these (first ∷ held) later is = ⊎_elim
    (λ (yes : is_same old first ≡ true).
    let equal : old ≡ first = same-equal old first yes in
    let now : these ++ held ≡ later = (let found : Some (these ++ held) ≡ Some later = rw yes at is in cc) in
    subst (Moves (first ∷ held) (old ∷ []) these) now
    (λ f. let weighs : f old ≡ f first = ap f equal in omega (arith, weighs, weight-append f these held)))
    (λ (no : is_same old first ≡ false).
    let found : option_map (λ rest. first ∷ rest) (becomes old these held) ≡ Some later = rw no at is in
    let rest = mapped (λ rest. first ∷ rest) (becomes old these held) later found in
    let moves = became old these held rest.0 rest.1 in
    subst (Moves (first ∷ held) (old ∷ []) these) rest.2 (λ f. omega (arith, moves f)))
    (cases_Bool (is_same old first))

-- as many holders
same-length : (old new : Holding) (held later : List Holding) → becomes old (new ∷ []) held ≡ Some later → length later ≡ length held
same-length old new held later is =
    omega (arith, became old (new ∷ []) held later is (λ h. 1), weight-length held, weight-length later)

-- as many of a kind, of which neither is
same-count : (p : Holding → Bool) (old : Holding) (these held later : List Holding) → becomes old these held ≡ Some later
    → one_if p old ≡ 0 → weight (one_if p) these ≡ 0 → count_by p later ≡ count_by p held
same-count p old these held later is none others =
    omega (arith, became old these held later is (one_if p), none, others, weight-count p held, weight-count p later)

count-append : (p : Holding → Bool) (one other : List Holding) → count_by p (one ++ other) ≡ count_by p one + count_by p other
count-append p one other =
    omega (arith, weight-count p (one ++ other), weight-append (one_if p) one other, weight-count p one, weight-count p other)

is-none : (held : List Holding) → eqb (length held) 0 ≡ true → held ≡ []
is-none held is = nil_from_length held (eqb-true (length held) 0 is)

-- those that stay weigh the same, where none that went is of the kind
kept-count : (p : Holding → Bool) (gone : Holding) (held : List Holding) → p gone ≡ false
    → count_by p (filter (λ h. not (is_same gone h)) held) ≡ count_by p held
kept-count p gone held none =
    sym (weight-count p (filter (λ h. not (is_same gone h)) held)) ∙ (weight-filter (one_if p) (λ h. not (is_same gone h)) held ∙ (same held ∙ weight-count p held))
  where
    same : (held : List Holding) → weight (λ h. if not (is_same gone h) then one_if p h else 0) held ≡ weight (one_if p) held
    same [] = refl
    same (h ∷ held) = ⊎_elim
        (λ (yes : is_same gone h ≡ true).
        let not_it : one_if p h ≡ 0 = ap (λ (b : Bool). if b then 1 else 0) (ap p (sym (same-equal gone h yes)) ∙ none) in
        rw yes (omega (arith, not_it, same held)))
        (λ (no : is_same gone h ≡ false). rw no (ap (λ n. one_if p h + n) (same held)))
        (cases_Bool (is_same gone h))

-- ---- one event

abbrev one_of : Bool → ℕ
one_of b = if b then 1 else 0

module _ (s : Setting) (held later : List Holding) where
  -- the pool count
  pool-then : (e : Event) → changed s held e ≡ Some later → has_counts later e ≡ true → length later ≡ said_or (length held) (pool_said e)
  pool-then (event.Take b p) is says = eqb-true (length later) p says
  pool-then (event.Place b o l p) is says = eqb-true (length later) p says
  pool-then (event.Sent a b o l) is says = same-length (holding.Piece o l) (holding.Sent a o l) held later is
  pool-then (event.Held a b o l) is says = same-length (holding.Sent a o l) (holding.Held a o l) held later is
  pool-then (event.Cut a b o l m p) is says = eqb-true (length later) p says
  pool-then (event.Lend a b o l p u) is says = eqb-true (length later) p (and_parts (eqb (length later) p) (eqb (count_by (is_user a) later) u) says).0
  pool-then (event.Back a b o l u) is says = same-length (holding.Loan a o l) (holding.Owed a) held later is
  pool-then (event.Honour a b p u) is says = eqb-true (length later) p (and_parts (eqb (length later) p) (eqb (count_by (is_user a) later) u) says).0
  pool-then (event.Stray a) is says = let same : held ≡ later = cc in ap length (sym same)
  pool-then (event.Free a b o l p) is says = eqb-true (length later) p says
  pool-then (event.Spare a b p) is says = eqb-true (length later) p says
  pool-then (event.Own a b l p u) is says = eqb-true (length later) p (and_parts (eqb (length later) p) (eqb (count_by (is_user a) later) u) says).0
  pool-then (event.Shut b p) is says = eqb-true (length later) p says
  pool-then (event.Scrub a b p u) is says = eqb-true (length later) p (and_parts (eqb (length later) p) (eqb (count_by (is_user a) later) u) says).0

  module _ (app : ℕ) where
    -- where the user count of one application is said, it is that; and that of another is as before
    said : (a u : ℕ) → eqb (count_by (is_user a) later) u ≡ true → (eqb a app ≡ false → count_by (is_user app) later ≡ count_by (is_user app) held)
        → count_by (is_user app) later ≡ user_said_or app (count_by (is_user app) held) (Some (a, u))
    said a u says others = ⊎_elim
        (λ (yes : eqb a app ≡ true).
        let equal : a ≡ app = eqb-true a app yes in
        rw yes (subst (λ b. count_by (is_user b) later ≡ u) equal (eqb-true (count_by (is_user a) later) u says)))
        (λ (no : eqb a app ≡ false). rw no (others no))
        (cases_Bool (eqb a app))

    second : (a p u : ℕ) → (eqb (length later) p && eqb (count_by (is_user a) later) u) ≡ true → eqb (count_by (is_user a) later) u ≡ true
    second a p u says = (and_parts (eqb (length later) p) (eqb (count_by (is_user a) later) u) says).1

    zero-if : (a : ℕ) → eqb a app ≡ false → one_of (eqb a app) ≡ 0
    zero-if a is = ap one_of is

    user-then : (e : Event) → changed s held e ≡ Some later → has_counts later e ≡ true
        → count_by (is_user app) later ≡ user_said_or app (count_by (is_user app) held) (user_said e)
    user-then (event.Take b p) is says =
        let found = asked _ (Some (holding.Own ∷ [])) later is in
        let none : held ≡ [] = is-none held (and_parts _ (eqb (length held) 0) found.0).1 in
        let same : holding.Own ∷ [] ≡ later = (let now = found.1 in cc) in
        rw (none, ← same) refl
    user-then (event.Place b o l p) is says =
        let found = asked _ (Some (held ++ holding.Piece o l ∷ [])) later is in
        let same : held ++ holding.Piece o l ∷ [] ≡ later = (let now = found.1 in cc) in
        rw (← same) (omega (arith, count-append (is_user app) held (holding.Piece o l ∷ [])))
    user-then (event.Sent a b o l) is says = same-count (is_user app) (holding.Piece o l) (holding.Sent a o l ∷ []) held later is refl refl
    user-then (event.Held a b o l) is says = same-count (is_user app) (holding.Sent a o l) (holding.Held a o l ∷ []) held later is refl refl
    user-then (event.Cut a b o l m p) is says =
        same-count (is_user app) (holding.Held a o l) (holding.Held a o m ∷ holding.Held a (o + m) (l - m) ∷ []) held later (asked _ _ later is).1 refl refl
    user-then (event.Lend a b o l p u) is says = said a u (second a p u says) (λ no.
        same-count (is_user app) (holding.Held a o l) (holding.Loan a o l ∷ []) held later is refl (omega (arith, zero-if a no)))
    user-then (event.Back a b o l u) is says = said a u says (λ no.
        same-count (is_user app) (holding.Loan a o l) (holding.Owed a ∷ []) held later is (zero-if a no) (omega (arith, zero-if a no)))
    user-then (event.Honour a b p u) is says = said a u (second a p u says) (λ no.
        same-count (is_user app) (holding.Owed a) [] held later is (zero-if a no) refl)
    user-then (event.Stray a) is says = let same : held ≡ later = cc in ap (count_by (is_user app)) (sym same)
    user-then (event.Free a b o l p) is says = same-count (is_user app) (holding.Held a o l) [] held later is refl refl
    user-then (event.Spare a b p) is says =
        let found = asked _ (Some (holding.Spare a ∷ [])) later is in
        let none : held ≡ [] = is-none held (and_parts _ (eqb (length held) 0) found.0).1 in
        let same : holding.Spare a ∷ [] ≡ later = (let now = found.1 in cc) in
        rw (none, ← same) refl
    user-then (event.Own a b l p u) is says = said a u (second a p u says) (λ no.
        same-count (is_user app) (holding.Spare a) (holding.Loan a 0 l ∷ []) held later (asked _ _ later is).1 refl (omega (arith, zero-if a no)))
    user-then (event.Shut b p) is says = same-count (is_user app) holding.Own [] held later is refl refl
    user-then (event.Scrub a b p u) is says = said a u (second a p u says) (λ no.
        let found = asked _ (Some (filter (λ h. not (is_same (holding.Owed a) h)) held)) later is in
        let same : filter (λ h. not (is_same (holding.Owed a) h)) held ≡ later = (let now = found.1 in cc) in
        ap (count_by (is_user app)) (sym same) ∙ kept-count (is_user app) (holding.Owed a) held no)

-- ---- the holders of all buffers

-- what holds of the holders of its buffer and of no other holds of them all
at-all : (P : ℕ → List Holding → List Holding → Bool → Type 0) (was : Holdings) (b : ℕ) (later : List Holding)
    → P b (was b) later true → ((other : ℕ) → P other (was other) (was other) false) → (c : ℕ) → P c (was c) (with_holders was b later c) (eqb b c)
at-all P was b later here others c = ⊎_elim
    (λ (yes : eqb b c ≡ true).
    let equal : b ≡ c = eqb-true b c yes in
    subst (λ c. P c (was c) (with_holders was b later c) (eqb b c)) equal (rw (eq-eqb b b refl) here))
    (λ (no : eqb b c ≡ false). rw (no, other-way b c no) (others c))
    (cases_Bool (eqb b c))
  where
    other-way : (b c : ℕ) → eqb b c ≡ false → eqb c b ≡ false
    other-way b c is = ⊎_elim
        (λ (yes : eqb c b ≡ true). let equal : b ≡ c = sym (eqb-true c b yes) in absurd (let again : eqb b c ≡ true = eq-eqb b c equal in cc))
        (λ (same : eqb c b ≡ false). same)
        (cases_Bool (eqb c b))

-- what an event makes of the counts of a buffer
pub record Counts (e : Event) (b : ℕ) (held later : List Holding) (named : Bool) : Type 0 where
  pub pool : length later ≡ (if named then said_or (length held) (pool_said e) else length held)
  pub user : (app : ℕ) → count_by (is_user app) later ≡ (if named then user_said_or app (count_by (is_user app) held) (user_said e) else count_by (is_user app) held)

counts-at : (s : Setting) (was now : Holdings) (e : Event) (at : Option ℕ) → after_at s was e at ≡ Some now
    → (c : ℕ) → Counts e c (was c) (now c) (is_of c at)
counts-at s was now e None is c =
    let same : was ≡ now = cc in
    subst (λ (h : Holdings). Counts e c (was c) (h c) false) same (record { pool = refl; user = λ app. refl })
counts-at s was now e (Some b) is c =
    let given = mapped (with_holders was b) (held_after s (was b) e) now is in
    let later = some_from (changed s (was b) e) (λ held. only_if (has_counts held e) (Some held)) given.0 given.1 in
    let says = asked (has_counts later.0 e) (Some later.0) given.0 later.2 in
    let same : later.0 ≡ given.0 = (let now = says.1 in cc) in
    let here : Counts e b (was b) later.0 true =
    record { pool = pool-then s (was b) later.0 e later.1 says.0; user = λ app. user-then s (was b) later.0 app e later.1 says.0 } in
    subst (λ (h : Holdings). Counts e c (was c) (h c) (eqb b c)) given.2
    (at-all (Counts e) was b given.0 (subst (λ held. Counts e b (was b) held true) same here) (λ other. record { pool = refl; user = λ app. refl }) c)

counts-after : (s : Setting) (was now : Holdings) (e : Event) → after s was e ≡ Some now → (c : ℕ) → Counts e c (was c) (now c) (is_of c (buffer_of_event e))
unfolding after
counts-after s was now e follows =
    counts-at s was now e (buffer_of_event e) (asked (is_in_range s e) (after_at s was e (buffer_of_event e)) now follows).1

-- ---- the front

pub record Reached (s : Setting) (start : Holdings) (front : List Event) : Type 0 where
  pub holdings : Holdings
  pub reached : all_after s start front ≡ Some holdings
  pub pool : (b : ℕ) → length (holdings b) ≡ pool_last b (length (start b)) front
  pub users : (a b : ℕ) → count_by (is_user a) (holdings b) ≡ user_last a b (count_by (is_user a) (start b)) front

front-reached : (s : Setting) (start last : Holdings) (front behind : List Event) → all_after s start (front ++ behind) ≡ Some last → Reached s start front
front-reached s start last [] behind is = record { holdings = start; reached = refl; pool = λ b. refl; users = λ a b. refl }
front-reached s start last (e ∷ front) behind is =
    let step = some_from (after s start e) (λ now. all_after s now (front ++ behind)) last is in
    let rest = front-reached s step.0 last front behind step.2 in
    let counts = counts-after s start step.0 e step.1 in
    record {
      holdings = rest.holdings;
      reached = ap (option_and_then (λ now. all_after s now front)) step.1 ∙ rest.reached;
      pool = λ b. rest.pool b ∙ ap (λ n. pool_last b n front) (counts b).pool;
      users = λ a b. rest.users a b ∙ ap (λ n. user_last a b n front) ((counts b).user a);
    }

pub fronts-law : FrontsLaw
fronts-law s events whole legal front behind is =
    let found = front-reached s no_holdings legal.holdings front behind (subst (λ events. all_after s no_holdings events ≡ Some legal.holdings) is legal.reached) in
    record { holdings = found.holdings; reached = found.reached; pool = found.pool; users = found.users }
