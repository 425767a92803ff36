-- The holders of a buffer, as the code keeps them: who has it, its places and the owed loans.
use Rattle.std.proofs.Common.{◌≡◌, ◌∙◌, ℕ, zero, suc, ◌+◌, ◌-◌, ◌*◌, ◌++◌, ◌<◌, ◌≤◌, List, [], ◌∷◌, length, if◌then◌else◌, eqb, ltb, get_or, set, replicate, Bool, true, false}
use Rattle.std.{proofs.Common.{◌||◌, ◌&&◌, Option, Some, None, refl, sym, ap, subst, arith, ⊎_elim, get_or-set_same, get_or-set_other}, specs.Ordering.{nat_cmp}}
use Rattle.std.{specs.{Map.{lookup}, BTreeMap.{is_at}, List.{list_any}}, proofs.lemmas.Bool.{and_parts, cases_eq, eq-eqb, eqb-true, ne_eqb}}
use Rattle.zr_kinds.specs.{declared.holding.Holding.{Holding}, Holders.{is_same, is_user}}
use Rattle.zr_kinds.proofs.Weighing.{Moves, one_if, weight-append, weight-count, weight-length}
use Rattle.zr_kinds.specs.declared.holding.Holding.TheVariants as holding
use Rattle.run_check.specs.{declared.{buffer.Keeper.{Keeper}, places.{Hand.{Hand}, OwnedPlace.{OwnedPlace}}}, Holding.{weight}}
use Rattle.run_check.specs.{Places.{ArePlacesApart, all_placed, held_by, is_same_hand}, Buffer.{AreHoldersCounted, LeavesNoPlace, holders_of_keeper, owed_from}}
use Rattle.run_check.proofs.{Placing.{none_there, one_there, place_is}, Weighing.{any-append, any-replicate, weight-replicate}}
use Rattle.run_check.specs.declared.buffer.Keeper.TheVariants as keeper
use Rattle.run_check.specs.declared.places.Hand.TheVariants as hand

abbrev pub view : Keeper → List (ℕ × OwnedPlace) → List ℕ → List Holding
view keeper entries owed = holders_of_keeper keeper ++ (all_placed entries ++ owed_from 0 owed)

pub weight-view : (f : Holding → ℕ) (k : Keeper) (es : List (ℕ × OwnedPlace)) (owed : List ℕ)
    → weight f (view k es owed) ≡ weight f (holders_of_keeper k) + (weight f (all_placed es) + weight f (owed_from 0 owed))
weight-view f k es owed =
    omega (arith, weight-append f (holders_of_keeper k) (all_placed es ++ owed_from 0 owed), weight-append f (all_placed es) (owed_from 0 owed))

any-view : (p : Holding → Bool) (k : Keeper) (es : List (ℕ × OwnedPlace)) (owed : List ℕ)
    → list_any p (view k es owed) ≡ (list_any p (holders_of_keeper k) || (list_any p (all_placed es) || list_any p (owed_from 0 owed)))
any-view p k es owed =
    any-append p (holders_of_keeper k) (all_placed es ++ owed_from 0 owed)
    ∙ ap (λ b. list_any p (holders_of_keeper k) || b) (any-append p (all_placed es) (owed_from 0 owed))

or_none : (b : Bool) → (b || false) ≡ b
or_none true = refl
or_none false = refl

and_none : (b : Bool) → (b && false) ≡ false
and_none true = refl
and_none false = refl

-- ---- which holder is where

-- the holder is no owed loan
abbrev IsNeverOwed : Holding → Type 0
IsNeverOwed h = (app : ℕ) → is_same h (holding.Owed app) ≡ false

none_owed : (h : Holding) → IsNeverOwed h → (app : ℕ) (owed : List ℕ) → list_any (is_same h) (owed_from app owed) ≡ false
none_owed h never app [] = refl
none_owed h never app (n ∷ owed) =
    any-append (is_same h) (replicate n (holding.Owed app)) (owed_from (app + 1) owed)
    ∙ rw (any-replicate (is_same h) n (holding.Owed app), never app, and_none (ltb 0 n)) (none_owed h never (app + 1) owed)

place_never_owed : (h : Hand) (o l : ℕ) → IsNeverOwed (held_by h o l)
place_never_owed hand.Card o l app = refl
place_never_owed (hand.Sent a) o l app = refl
place_never_owed (hand.App a) o l app = refl
place_never_owed (hand.Loan a) o l app = refl

none_kept : (k : Keeper) (h : Hand) (o l : ℕ) → list_any (is_same (held_by h o l)) (holders_of_keeper k) ≡ false
none_kept keeper.Nobody h o l = refl
none_kept keeper.Card hand.Card o l = refl
none_kept keeper.Card (hand.Sent a) o l = refl
none_kept keeper.Card (hand.App a) o l = refl
none_kept keeper.Card (hand.Loan a) o l = refl
none_kept (keeper.App b) hand.Card o l = refl
none_kept (keeper.App b) (hand.Sent a) o l = refl
none_kept (keeper.App b) (hand.App a) o l = refl
none_kept (keeper.App b) (hand.Loan a) o l = refl

pub any-place : (k : Keeper) (es : List (ℕ × OwnedPlace)) (owed : List ℕ) (h : Hand) (o l : ℕ)
    → list_any (is_same (held_by h o l)) (view k es owed) ≡ list_any (is_same (held_by h o l)) (all_placed es)
any-place k es owed h o l =
    any-view (is_same (held_by h o l)) k es owed
    ∙ rw (none_kept k h o l, none_owed (held_by h o l) (place_never_owed h o l) 0 owed) (or_none (list_any (is_same (held_by h o l)) (all_placed es)))

-- the holder has no place
abbrev IsNeverPlaced : Holding → Type 0
IsNeverPlaced h = (g : Hand) (o l : ℕ) → is_same h (held_by g o l) ≡ false

none_placed : (h : Holding) → IsNeverPlaced h → (es : List (ℕ × OwnedPlace)) → list_any (is_same h) (all_placed es) ≡ false
none_placed h never [] = refl
none_placed h never (e ∷ es) = rw (never e.1.hand e.0 e.1.len) (none_placed h never es)

own_never_placed : IsNeverPlaced holding.Own
own_never_placed hand.Card o l = refl
own_never_placed (hand.Sent a) o l = refl
own_never_placed (hand.App a) o l = refl
own_never_placed (hand.Loan a) o l = refl

spare_never_placed : (app : ℕ) → IsNeverPlaced (holding.Spare app)
spare_never_placed app hand.Card o l = refl
spare_never_placed app (hand.Sent a) o l = refl
spare_never_placed app (hand.App a) o l = refl
spare_never_placed app (hand.Loan a) o l = refl

owed_never_placed : (app : ℕ) → IsNeverPlaced (holding.Owed app)
owed_never_placed app hand.Card o l = refl
owed_never_placed app (hand.Sent a) o l = refl
owed_never_placed app (hand.App a) o l = refl
owed_never_placed app (hand.Loan a) o l = refl

any-kept : (h : Holding) → IsNeverPlaced h → IsNeverOwed h → (k : Keeper) (es : List (ℕ × OwnedPlace)) (owed : List ℕ)
    → list_any (is_same h) (view k es owed) ≡ list_any (is_same h) (holders_of_keeper k)
any-kept h no_place no_loan k es owed =
    any-view (is_same h) k es owed ∙ rw (none_placed h no_place es, none_owed h no_loan 0 owed) (or_none (list_any (is_same h) (holders_of_keeper k)))

pub any-own : (k : Keeper) (es : List (ℕ × OwnedPlace)) (owed : List ℕ) → list_any (is_same holding.Own) (view k es owed) ≡ list_any (is_same holding.Own) (holders_of_keeper k)
any-own = any-kept holding.Own own_never_placed (λ app. refl)

pub any-spare : (app : ℕ) (k : Keeper) (es : List (ℕ × OwnedPlace)) (owed : List ℕ)
    → list_any (is_same (holding.Spare app)) (view k es owed) ≡ list_any (is_same (holding.Spare app)) (holders_of_keeper k)
any-spare app = any-kept (holding.Spare app) (spare_never_placed app) (λ other. refl)

pub card_is : (k : Keeper) → list_any (is_same holding.Own) (holders_of_keeper k) ≡ true → k ≡ keeper.Card
card_is keeper.Nobody some = cc
card_is keeper.Card some = refl
card_is (keeper.App app) some = cc

pub spare_is : (app : ℕ) (k : Keeper) → list_any (is_same (holding.Spare app)) (holders_of_keeper k) ≡ true → k ≡ keeper.App app
spare_is app keeper.Nobody some = cc
spare_is app keeper.Card some = cc
spare_is app (keeper.App other) some =
    let same : app ≡ other = eqb-true app other (sym (or_none (eqb app other)) ∙ some) in ap keeper.App (sym same)

owed_above : (app from : ℕ) (owed : List ℕ) → app < from → list_any (is_same (holding.Owed app)) (owed_from from owed) ≡ false
owed_above app from [] below = refl
owed_above app from (n ∷ owed) below =
    any-append (is_same (holding.Owed app)) (replicate n (holding.Owed from)) (owed_from (from + 1) owed)
    ∙ rw (any-replicate (is_same (holding.Owed app)) n (holding.Owed from), ne_eqb app from (λ same. omega arith), and_none (ltb 0 n))
    (owed_above app (from + 1) owed (omega arith))

any_owed : (from app : ℕ) (owed : List ℕ) (i : ℕ) → app ≡ from + i → i < length owed
    → list_any (is_same (holding.Owed app)) (owed_from from owed) ≡ ltb 0 (get_or owed i 0)
any_owed from app [] i at lt = absurd (omega arith)
any_owed from app (n ∷ owed) zero at lt =
    any-append (is_same (holding.Owed app)) (replicate n (holding.Owed from)) (owed_from (from + 1) owed)
    ∙ rw (any-replicate (is_same (holding.Owed app)) n (holding.Owed from), eq-eqb app from (omega arith), owed_above app (from + 1) owed (omega arith)) (plain (ltb 0 n))
  where
    plain : (b : Bool) → ((b && true) || false) ≡ b
    plain true = refl
    plain false = refl
any_owed from app (n ∷ owed) (suc i) at lt =
    any-append (is_same (holding.Owed app)) (replicate n (holding.Owed from)) (owed_from (from + 1) owed)
    ∙ rw (any-replicate (is_same (holding.Owed app)) n (holding.Owed from), ne_eqb app from (λ same. omega arith), and_none (ltb 0 n))
    (any_owed (from + 1) app owed i (omega arith) (omega arith))

none_owed_kept : (app : ℕ) (k : Keeper) → list_any (is_same (holding.Owed app)) (holders_of_keeper k) ≡ false
none_owed_kept app keeper.Nobody = refl
none_owed_kept app keeper.Card = refl
none_owed_kept app (keeper.App other) = refl

pub any-owed : (app : ℕ) (k : Keeper) (es : List (ℕ × OwnedPlace)) (owed : List ℕ) → app < length owed
    → list_any (is_same (holding.Owed app)) (view k es owed) ≡ ltb 0 (get_or owed app 0)
any-owed app k es owed lt =
    any-view (is_same (holding.Owed app)) k es owed
    ∙ rw (none_owed_kept app k, none_placed (holding.Owed app) (owed_never_placed app) es) (any_owed 0 app owed app (omega arith) lt)

-- ---- the owed loans

owed_set : (f : Holding → ℕ) (from app : ℕ) (owed : List ℕ) (i n : ℕ) → app ≡ from + i → i < length owed
    → weight f (owed_from from (set owed i n)) + get_or owed i 0 * f (holding.Owed app) ≡ weight f (owed_from from owed) + n * f (holding.Owed app)
owed_set f from app [] i n at lt = absurd (omega arith)
owed_set f from app (m ∷ owed) zero n at lt =
    let same : from ≡ app = omega arith in
    let old : weight f (replicate m (holding.Owed from)) ≡ m * f (holding.Owed app) =
    weight-replicate f m (holding.Owed from) ∙ ap (λ a. m * f (holding.Owed a)) same in
    let new : weight f (replicate n (holding.Owed from)) ≡ n * f (holding.Owed app) =
    weight-replicate f n (holding.Owed from) ∙ ap (λ a. n * f (holding.Owed a)) same in
    omega (
      arith,
      old,
      new,
      weight-append f (replicate m (holding.Owed from)) (owed_from (from + 1) owed),
      weight-append f (replicate n (holding.Owed from)) (owed_from (from + 1) owed),
    )
owed_set f from app (m ∷ owed) (suc i) n at lt =
    omega (
      arith,
      owed_set f (from + 1) app owed i n (omega arith) (omega arith),
      weight-append f (replicate m (holding.Owed from)) (owed_from (from + 1) owed),
      weight-append f (replicate m (holding.Owed from)) (owed_from (from + 1) (set owed i n)),
    )

pub owed_more : (f : Holding → ℕ) (app : ℕ) (owed : List ℕ) → app < length owed
    → weight f (owed_from 0 (set owed app (get_or owed app 0 + 1))) ≡ weight f (owed_from 0 owed) + f (holding.Owed app)
owed_more f app owed lt = omega (arith, owed_set f 0 app owed app (get_or owed app 0 + 1) (omega arith) lt)

pub owed_fewer : (f : Holding → ℕ) (app : ℕ) (owed : List ℕ) (n : ℕ) → app < length owed → n ≤ get_or owed app 0
    → weight f (owed_from 0 (set owed app (get_or owed app 0 - n))) + n * f (holding.Owed app) ≡ weight f (owed_from 0 owed)
owed_fewer f app owed n lt few =
    let left : (rest : ℕ) × (get_or owed app 0 ≡ rest + n) = (get_or owed app 0 - n, omega arith) in
    let rest : get_or owed app 0 - n ≡ left.0 = refl in
    let parts : get_or owed app 0 * f (holding.Owed app) ≡ left.0 * f (holding.Owed app) + n * f (holding.Owed app) =
    ap (λ m. m * f (holding.Owed app)) left.1 ∙ omega arith in
    omega (arith, owed_set f 0 app owed app left.0 (omega arith) lt, parts)

pub owed_few : (app : ℕ) (owed : List ℕ) → app < length owed → get_or owed app 0 ≤ weight (λ h. 1) (owed_from 0 owed)
owed_few app owed lt = omega (arith, owed_set (λ h. 1) 0 app owed app 0 (omega arith) lt)

-- ---- the counts

pub counted : (count now_count : ℕ) (users now_users : List ℕ) (held now olds news : List Holding) → AreHoldersCounted count users held
    → Moves held olds news now → now_count + length olds ≡ count + length news
    → ((app : ℕ) → app < 8 → get_or now_users app 0 + weight (one_if (is_user app)) olds ≡ get_or users app 0 + weight (one_if (is_user app)) news)
    → AreHoldersCounted now_count now_users now
counted count now_count users now_users held now olds news was moves lengths counts = record {
  pool = let before : count ≡ length held = was.pool in
      omega (arith, before, lengths, moves (λ h. 1), weight-length held, weight-length now, weight-length olds, weight-length news);
  user = λ app lt.
      omega (arith, was.user app lt, counts app lt, moves (one_if (is_user app)), weight-count (is_user app) held, weight-count (is_user app) now);
}

pub users_more : (users : List ℕ) (i : ℕ) → i < length users → (app : ℕ)
    → get_or (set users i (get_or users i 0 + 1)) app 0 ≡ get_or users app 0 + (if eqb i app then 1 else 0)
users_more users i lt app = ⊎_elim
    (λ (same : i ≡ app). rw (eq-eqb i app same) (ap (λ n. get_or (set users i (get_or users i 0 + 1)) n 0) (sym same)
    ∙ get_or-set_same users i (get_or users i 0 + 1) 0 lt ∙ ap (λ n. get_or users n 0 + 1) same))
    (λ (other : i ≡ app → ⊥). rw (ne_eqb i app other)
    (get_or-set_other users i app (get_or users i 0 + 1) 0 (λ same. other (sym same)) ∙ omega arith))
    (cases_eq i app)

pub users_fewer : (users : List ℕ) (i n : ℕ) → i < length users → n ≤ get_or users i 0 → (app : ℕ)
    → get_or (set users i (get_or users i 0 - n)) app 0 + n * (if eqb i app then 1 else 0) ≡ get_or users app 0
users_fewer users i n lt few app = ⊎_elim
    (λ (same : i ≡ app).
    let here : get_or (set users i (get_or users i 0 - n)) app 0 ≡ get_or users i 0 - n =
    ap (λ k. get_or (set users i (get_or users i 0 - n)) k 0) (sym same) ∙ get_or-set_same users i (get_or users i 0 - n) 0 lt in
    let old : get_or users i 0 ≡ get_or users app 0 = ap (λ k. get_or users k 0) same in
    rw (eq-eqb i app same) (omega (arith, here, old, few)))
    (λ (other : i ≡ app → ⊥). rw (ne_eqb i app other)
    (omega (arith, get_or-set_other users i app (get_or users i 0 - n) 0 (λ same. other (sym same)))))
    (cases_eq i app)

-- ---- a place that is there

same_hand : (h g : Hand) → is_same_hand h g ≡ true → h ≡ g
same_hand hand.Card hand.Card same = refl
same_hand (hand.Sent a) (hand.Sent b) same = ap hand.Sent (eqb-true a b same)
same_hand (hand.App a) (hand.App b) same = ap hand.App (eqb-true a b same)
same_hand (hand.Loan a) (hand.Loan b) same = ap hand.Loan (eqb-true a b same)
same_hand h g same = cc

pub there_found : (k l : ℕ) (h : Hand) (es : List (ℕ × OwnedPlace)) → ArePlacesApart 0 es → list_any (is_same (held_by h k l)) (all_placed es) ≡ true
    → lookup (is_at (nat_cmp k)) es ≡ Some (record { len = l; hand = h })
there_found k l h es apart there = go (lookup (is_at (nat_cmp k)) es) refl
  where
    go : (found : Option OwnedPlace) → lookup (is_at (nat_cmp k)) es ≡ found → lookup (is_at (nat_cmp k)) es ≡ Some (record { len = l; hand = h })
    go None at = let nothing : false ≡ true = sym (none_there k l h es at) ∙ there in cc
    go (Some q) at =
        let same : (eqb q.len l && is_same_hand q.hand h) ≡ true =
        place_is k q (record { len = l; hand = h }) ∙ sym (one_there 0 k l h es q apart at) ∙ there in
        let parts = and_parts (eqb q.len l) (is_same_hand q.hand h) same in
        at ∙ ap (λ n. Some (record { len = n; hand = q.hand })) (eqb-true q.len l parts.0)
        ∙ ap (λ g. Some (record { len = l; hand = g })) (same_hand q.hand h parts.1)

-- one that has a spare buffer leaves no place to be there
pub alone_there : (k : Keeper) (es now : List (ℕ × OwnedPlace)) (p : Holding → Bool) → LeavesNoPlace k es → list_any p (all_placed es) ≡ true → LeavesNoPlace k now
alone_there keeper.Nobody es now p alone there = tt
alone_there keeper.Card es now p alone there = tt
alone_there (keeper.App app) es now p alone there =
    let none : list_any p (all_placed []) ≡ true = subst (λ l. list_any p (all_placed l) ≡ true) alone there in cc
