-- What the calls of a buffer make of its holders.
use Rattle.std.proofs.Common.{◌≡◌, ◌∙◌, ℕ, ◌+◌, ◌-◌, ◌*◌, ◌++◌, ◌<◌, ◌≤◌, List, [], ◌∷◌, length, if◌then◌else◌, eqb, ltb, get_or, set, replicate, zero, suc, Bool, true, false, not}
use Rattle.std.proofs.{Common.{◌&&◌, Option, Some, refl, sym, ap, subst, arith, ⊎_elim, length-append, get_or-set_same}, lemmas.List.{nil_from_length, length-set}}
use Rattle.std.specs.{Ordering.{nat_cmp}, Map.{lookup, remove_entry}, BTreeMap.{BTreeMap, insert_entry, is_at}, List.{list_any, list_all}, Prelude.{filter, ◌==◌, ◌%◌}}
use Rattle.std.proofs.lemmas.Bool.{and_parts, cases_Bool, eq-eqb, le-ltb, lt-ltb, ltb-true}
use Rattle.zr_kinds.specs.{declared.holding.Holding.{Holding}, Holders.{becomes, is_apart, is_same, is_user, only_if}}
use Rattle.zr_kinds.proofs.Weighing.{Moves, one_if, weight-append, weight-count, weight-length}
use Rattle.zr_kinds.specs.declared.holding.Holding.TheVariants as holding
use Rattle.run_check.specs.declared.{buffer.{Buffer.TheInside.{Inside}, Keeper.{Keeper}}, places.{Hand.{Hand}, OwnedPlace.{OwnedPlace}}}
use Rattle.run_check.specs.{Holding.{Changes, can_place, weight}, Places.{ArePlacesApart, IsNoLoan, all_placed, held_by}}
use Rattle.run_check.specs.Buffer.{IsSoundBuffer, LeavesNoPlace, holders_in, holders_of_keeper, owed_from}
use Rattle.run_check.proofs.Placing.{apart-put, apart-set, apart-take, found_some, free_there, rest_free, weight-put, weight-set, weight-take}
use Rattle.run_check.proofs.Viewing.{alone_there, any-own, any-owed, any-place, any-spare, card_is, counted, owed_few, owed_fewer, owed_more, spare_is, there_found, users_fewer, users_more, view, weight-view}
use Rattle.run_check.proofs.Weighing.{becomes_now, none_becomes, weight-absent, weight-one_if, weight-kept, weight-replicate, without}
use Rattle.run_check.specs.declared.buffer.Keeper.TheVariants as keeper
use Rattle.run_check.specs.declared.places.Hand.TheVariants as hand

-- what a call owes: its counts and places are right, and the holders are what they become
pub record IsDone (b : Inside) (becoming : Option (List Holding)) : Type 0 where
  pub sound : IsSoundBuffer b
  pub changes : Changes becoming (holders_in b) true

pub by_flag : (becoming : Option (List Holding)) (now : List Holding) (flag : Bool) → flag ≡ true → Changes becoming now true → Changes becoming now flag
by_flag becoming now flag is changes = rw is changes

-- where there is no such holder nothing is changed
pub not_changed : (old : Holding) (these held : List Holding) (flag : Bool) → flag ≡ false → list_any (is_same old) held ≡ false
    → Changes (becomes old these held) held flag
not_changed old these held flag is none = rw is (none_becomes old these held none)

some_length : (p : Holding → Bool) (held : List Holding) → list_any p held ≡ true → 0 < length held
some_length p [] some = cc
some_length p (h ∷ held) some = omega arith

-- one holder becomes others
done : (b now : Inside) (held : List Holding) (old : Holding) (these : List Holding) → IsSoundBuffer b → holders_in b ≡ held
    → ArePlacesApart 0 now.places.entries → LeavesNoPlace now.keeper now.places.entries → list_any (is_same old) (holders_in b) ≡ true
    → Moves (holders_in b) (old ∷ []) these (holders_in now) → now.count + 1 ≡ b.count + length these
    → ((app : ℕ) → app < 8 → get_or now.users app 0 + weight (one_if (is_user app)) (old ∷ []) ≡ get_or b.users app 0 + weight (one_if (is_user app)) these)
    → IsDone now (becomes old these held)
done b now held old these sound was apart alone there moves count users = record {
  sound = record {
    apart = apart;
    alone = alone;
    counted = counted b.count now.count b.users now.users (holders_in b) (holders_in now) (old ∷ []) these sound.counted moves count users;
  };
  changes = subst (λ l. Changes (becomes old these l) (holders_in now) true) was (becomes_now old these (holders_in b) (holders_in now) there moves);
}

no_user : (h : Hand) (o l app : ℕ) → IsNoLoan h → is_user app (held_by h o l) ≡ false
no_user hand.Card o l app lent = refl
no_user (hand.Sent a) o l app lent = refl
no_user (hand.App a) o l app lent = refl
no_user (hand.Loan a) o l app lent = absurd lent

kept_apart : (o l : ℕ) (k : Keeper) → list_all (is_apart o l) (holders_of_keeper k) ≡ true
kept_apart o l keeper.Nobody = refl
kept_apart o l keeper.Card = refl
kept_apart o l (keeper.App a) = refl

all-append : (p : Holding → Bool) (one other : List Holding) → list_all p (one ++ other) ≡ (list_all p one && list_all p other)
all-append p [] other = refl
all-append p (h ∷ one) other = ⊎_elim
    (λ (yes : p h ≡ true). rw yes (all-append p one other))
    (λ (no : p h ≡ false). rw no refl)
    (cases_Bool (p h))

all-replicate : (p : Holding → Bool) (n : ℕ) (h : Holding) → p h ≡ true → list_all p (replicate n h) ≡ true
all-replicate p zero h passes = refl
all-replicate p (suc n) h passes = rw passes (all-replicate p n h passes)

all-owed : (p : Holding → Bool) (from : ℕ) (owed : List ℕ) → ((app : ℕ) → p (holding.Owed app) ≡ true) → list_all p (owed_from from owed) ≡ true
all-owed p from [] passes = refl
all-owed p from (n ∷ owed) passes =
    all-append p (replicate n (holding.Owed from)) (owed_from (from + 1) owed)
    ∙ rw (all-replicate p n (holding.Owed from) (passes from), all-owed p (from + 1) owed passes) refl

-- a test that all holders without a place pass says what it says of the places
all-places : (p : Holding → Bool) (k : Keeper) (es : List (ℕ × OwnedPlace)) (owed : List ℕ) → ((k : Keeper) → list_all p (holders_of_keeper k) ≡ true)
    → ((app : ℕ) → p (holding.Owed app) ≡ true) → list_all p (view k es owed) ≡ list_all p (all_placed es)
all-places p k es owed kept none =
    all-append p (holders_of_keeper k) (all_placed es ++ owed_from 0 owed)
    ∙ rw (kept k, all-append p (all_placed es) (owed_from 0 owed), all-owed p 0 owed none) (last (list_all p (all_placed es)))
  where
    last : (b : Bool) → (b && true) ≡ b
    last true = refl
    last false = refl

-- ---- a place

module _ (b : Inside) (held : List Holding) (sound : IsSoundBuffer b) (was : holders_in b ≡ held) where
  any_there : (h : Hand) (o l : ℕ) → list_any (is_same (held_by h o l)) (all_placed b.places.entries) ≡ true
      → list_any (is_same (held_by h o l)) (holders_in b) ≡ true
  any_there h o l there = any-place b.keeper b.places.entries b.owed h o l ∙ there

  pub none_there_then : (h : Hand) (o l : ℕ) → list_any (is_same (held_by h o l)) (all_placed b.places.entries) ≡ false
      → list_any (is_same (held_by h o l)) held ≡ false
  none_there_then h o l none =
      ap (list_any (is_same (held_by h o l))) (sym was) ∙ any-place b.keeper b.places.entries b.owed h o l ∙ none

  module _ (h g : Hand) (o l : ℕ) (m : BTreeMap ℕ OwnedPlace) (there : list_any (is_same (held_by h o l)) (all_placed b.places.entries) ≡ true)
      (put : m.entries ≡ insert_entry nat_cmp b.places.entries o (record { len = l; hand = g })) where
    found : lookup (is_at (nat_cmp o)) b.places.entries ≡ Some (record { len = l; hand = h })
    found = there_found o l h b.places.entries sound.apart there

    set_moves : (f : Holding → ℕ) → weight f (all_placed m.entries) + f (held_by h o l) ≡ weight f (all_placed b.places.entries) + f (held_by g o l)
    set_moves f = subst (λ es. weight f (all_placed es) + f (held_by h o l) ≡ weight f (all_placed b.places.entries) + f (held_by g o l)) (sym put)
        (weight-set f 0 o (record { len = l; hand = g }) (record { len = l; hand = h }) b.places.entries sound.apart found)

    some : 0 < l
    some = found_some 0 o b.places.entries (record { len = l; hand = h }) sound.apart found

    set_apart : ArePlacesApart 0 m.entries
    set_apart = subst (ArePlacesApart 0) (sym put)
        (apart-set 0 o (record { len = l; hand = g }) (record { len = l; hand = h }) b.places.entries sound.apart found some (omega arith))

    set_alone : LeavesNoPlace b.keeper m.entries
    set_alone = alone_there b.keeper b.places.entries m.entries (is_same (held_by h o l)) sound.alone there

    pub passed : IsNoLoan h → IsNoLoan g → IsDone (record b { places = m }) (becomes (held_by h o l) (held_by g o l ∷ []) held)
    passed old new =
        done b (record b { places = m }) held (held_by h o l) (held_by g o l ∷ []) sound was set_apart set_alone (any_there h o l there)
        (λ f. omega (arith, set_moves f, weight-view f b.keeper b.places.entries b.owed, weight-view f b.keeper m.entries b.owed))
        (omega arith) (λ app lt. rw (no_user h o l app old, no_user g o l app new) refl)

  module _ (a o l : ℕ) (small : a < length b.users) (m : BTreeMap ℕ OwnedPlace)
      (there : list_any (is_same (holding.Held a o l)) (all_placed b.places.entries) ≡ true)
      (put : m.entries ≡ insert_entry nat_cmp b.places.entries o (record { len = l; hand = hand.Loan a })) where
    -- the user count grows and fits as the pool count does: what is lent was no user's
    pub lent_fits : a < 8 → get_or b.users a 0 + 1 ≤ b.count
    lent_fits eight =
        let pool : b.count ≡ length (holders_in b) = sound.counted.pool in
        let here = there_found o l (hand.App a) b.places.entries sound.apart there in
        omega (
          arith,
          pool,
          sound.counted.user a eight,
          weight-count (is_user a) (holders_in b),
          weight-length (holders_in b),
          weight-view (λ h. 1) b.keeper b.places.entries b.owed,
          weight-view (one_if (is_user a)) b.keeper b.places.entries b.owed,
          weight-take (λ h. 1) o (record { len = l; hand = hand.App a }) b.places.entries here,
          weight-take (one_if (is_user a)) o (record { len = l; hand = hand.App a }) b.places.entries here,
          weight-one_if (is_user a) (holders_of_keeper b.keeper),
          weight-one_if (is_user a) (all_placed (remove_entry (is_at (nat_cmp o)) b.places.entries)),
          weight-one_if (is_user a) (owed_from 0 b.owed),
        )

    pub lent : IsDone (record b { places = m; users = set b.users a (get_or b.users a 0 + 1) }) (becomes (holding.Held a o l) (holding.Loan a o l ∷ []) held)
    lent =
        done b (record b { places = m; users = set b.users a (get_or b.users a 0 + 1) }) held (holding.Held a o l) (holding.Loan a o l ∷ []) sound was
        (set_apart (hand.App a) (hand.Loan a) o l m there put) (set_alone (hand.App a) (hand.Loan a) o l m there put) (any_there (hand.App a) o l there)
        (λ f. omega (arith, set_moves (hand.App a) (hand.Loan a) o l m there put f, weight-view f b.keeper b.places.entries b.owed, weight-view f b.keeper m.entries b.owed))
        (omega arith) (λ app lt. omega (arith, users_more b.users a small app))

  -- ---- a place that goes

  module _ (h : Hand) (o l : ℕ) (m : BTreeMap ℕ OwnedPlace) (there : list_any (is_same (held_by h o l)) (all_placed b.places.entries) ≡ true)
      (taken : m.entries ≡ remove_entry (is_at (nat_cmp o)) b.places.entries) where
    take_moves : (f : Holding → ℕ) → weight f (all_placed m.entries) + f (held_by h o l) ≡ weight f (all_placed b.places.entries)
    take_moves f = subst (λ es. weight f (all_placed es) + f (held_by h o l) ≡ weight f (all_placed b.places.entries)) (sym taken)
        (weight-take f o (record { len = l; hand = h }) b.places.entries (there_found o l h b.places.entries sound.apart there))

    take_apart : ArePlacesApart 0 m.entries
    take_apart = subst (ArePlacesApart 0) (sym taken) (apart-take 0 (is_at (nat_cmp o)) b.places.entries sound.apart)

    take_alone : LeavesNoPlace b.keeper m.entries
    take_alone = alone_there b.keeper b.places.entries m.entries (is_same (held_by h o l)) sound.alone there

    pub some_counted : 1 ≤ b.count
    some_counted =
        let pool : b.count ≡ length (holders_in b) = sound.counted.pool in
        omega (arith, pool, some_length (is_same (held_by h o l)) (holders_in b) (any_there h o l there))

    pub freed : IsNoLoan h → IsDone (record b { places = m; count = b.count - 1 }) (becomes (held_by h o l) [] held)
    freed old =
        done b (record b { places = m; count = b.count - 1 }) held (held_by h o l) [] sound was take_apart take_alone (any_there h o l there)
        (λ f. omega (arith, take_moves f, weight-view f b.keeper b.places.entries b.owed, weight-view f b.keeper m.entries b.owed))
        (omega (arith, some_counted)) (λ app lt. rw (no_user h o l app old) refl)

  module _ (a o l : ℕ) (m : BTreeMap ℕ OwnedPlace) (there : list_any (is_same (holding.Loan a o l)) (all_placed b.places.entries) ≡ true)
      (taken : m.entries ≡ remove_entry (is_at (nat_cmp o)) b.places.entries) (small : a < length b.owed) where
    -- what is owed fits as the pool count does: the place itself is counted too
    pub owed_fits : get_or b.owed a 0 + 1 ≤ b.count
    owed_fits =
        let pool : b.count ≡ length (holders_in b) = sound.counted.pool in
        omega (
          arith,
          pool,
          take_moves (hand.Loan a) o l m there taken (λ h. 1),
          owed_few a b.owed small,
          weight-length (holders_in b),
          weight-view (λ h. 1) b.keeper b.places.entries b.owed,
        )

    pub given_back : IsDone (record b { places = m; owed = set b.owed a (get_or b.owed a 0 + 1) }) (becomes (holding.Loan a o l) (holding.Owed a ∷ []) held)
    given_back =
        done b (record b { places = m; owed = set b.owed a (get_or b.owed a 0 + 1) }) held (holding.Loan a o l) (holding.Owed a ∷ []) sound was
        (take_apart (hand.Loan a) o l m there taken) (take_alone (hand.Loan a) o l m there taken) (any_there (hand.Loan a) o l there)
        (λ f. omega (
          arith,
          take_moves (hand.Loan a) o l m there taken f,
          owed_more f a b.owed small,
          weight-view f b.keeper b.places.entries b.owed,
          weight-view f b.keeper m.entries (set b.owed a (get_or b.owed a 0 + 1)),
        ))
        (omega arith) (λ app lt. refl)

  -- ---- a cut

  module _ (a o l at : ℕ) (m : BTreeMap ℕ OwnedPlace) (some : 0 < at) (inside : at < l)
      (there : list_any (is_same (holding.Held a o l)) (all_placed b.places.entries) ≡ true)
      (put : m.entries ≡ insert_entry nat_cmp b.places.entries o (record { len = at; hand = hand.App a })) where
    whole : lookup (is_at (nat_cmp o)) b.places.entries ≡ Some (record { len = l; hand = hand.App a })
    whole = there_found o l (hand.App a) b.places.entries sound.apart there

    first_moves : (f : Holding → ℕ) → weight f (all_placed m.entries) + f (holding.Held a o l) ≡ weight f (all_placed b.places.entries) + f (holding.Held a o at)
    first_moves f = subst (λ es. weight f (all_placed es) + f (holding.Held a o l) ≡ weight f (all_placed b.places.entries) + f (holding.Held a o at)) (sym put)
        (weight-set f 0 o (record { len = at; hand = hand.App a }) (record { len = l; hand = hand.App a }) b.places.entries sound.apart whole)

    first_apart : ArePlacesApart 0 m.entries
    first_apart = subst (ArePlacesApart 0) (sym put)
        (apart-set 0 o (record { len = at; hand = hand.App a }) (record { len = l; hand = hand.App a }) b.places.entries sound.apart whole some (omega arith))

    first_alone : (es : List (ℕ × OwnedPlace)) → LeavesNoPlace b.keeper es
    first_alone es = alone_there b.keeper b.places.entries es (is_same (holding.Held a o l)) sound.alone there

    pub shortened : IsSoundBuffer (record b { places = m })
    shortened = (done b (record b { places = m }) held (holding.Held a o l) (holding.Held a o at ∷ []) sound was first_apart (first_alone m.entries)
        (any_there (hand.App a) o l there)
        (λ f. omega (arith, first_moves f, weight-view f b.keeper b.places.entries b.owed, weight-view f b.keeper m.entries b.owed))
        (omega arith) (λ app lt. refl)).sound

    behind_free : list_all (is_apart (o + at) (l - at)) (all_placed m.entries) ≡ true
    behind_free = subst (λ es. list_all (is_apart (o + at) (l - at)) (all_placed es) ≡ true) (sym put)
        (rest_free 0 o (l - at) (record { len = at; hand = hand.App a }) (record { len = l; hand = hand.App a }) b.places.entries sound.apart whole (omega arith))

    module _ (n : BTreeMap ℕ OwnedPlace) (then_put : n.entries ≡ insert_entry nat_cmp m.entries (o + at) (record { len = l - at; hand = hand.App a })) where
      second_moves : (f : Holding → ℕ) → weight f (all_placed n.entries) ≡ weight f (all_placed m.entries) + f (holding.Held a (o + at) (l - at))
      second_moves f = subst (λ es. weight f (all_placed es) ≡ weight f (all_placed m.entries) + f (holding.Held a (o + at) (l - at))) (sym then_put)
          (weight-put f (o + at) (record { len = l - at; hand = hand.App a }) m.entries
          (free_there (o + at) (l - at) m.entries 0 first_apart (omega arith) behind_free))

      second_apart : ArePlacesApart 0 n.entries
      second_apart = subst (ArePlacesApart 0) (sym then_put)
          (apart-put 0 (o + at) (record { len = l - at; hand = hand.App a }) m.entries first_apart (omega arith) (omega arith) behind_free)

      pub were_cut : IsDone (record b { places = n; count = b.count + 1 })
          (becomes (holding.Held a o l) (holding.Held a o at ∷ holding.Held a (o + at) (l - at) ∷ []) held)
      were_cut =
          done b (record b { places = n; count = b.count + 1 }) held (holding.Held a o l) (holding.Held a o at ∷ holding.Held a (o + at) (l - at) ∷ [])
          sound was second_apart (first_alone n.entries) (any_there (hand.App a) o l there)
          (λ f. omega (arith, first_moves f, second_moves f, weight-view f b.keeper b.places.entries b.owed, weight-view f b.keeper n.entries b.owed))
          (omega arith) (λ app lt. refl)

  -- ---- the buffer as a whole

  pub own_there : list_any (is_same holding.Own) held ≡ list_any (is_same holding.Own) (holders_of_keeper b.keeper)
  own_there = ap (list_any (is_same holding.Own)) (sym was) ∙ any-own b.keeper b.places.entries b.owed

  pub spare_there : (a : ℕ) → list_any (is_same (holding.Spare a)) held ≡ list_any (is_same (holding.Spare a)) (holders_of_keeper b.keeper)
  spare_there a = ap (list_any (is_same (holding.Spare a))) (sym was) ∙ any-spare a b.keeper b.places.entries b.owed

  pub owed_there : (a : ℕ) → a < length b.owed → list_any (is_same (holding.Owed a)) held ≡ ltb 0 (get_or b.owed a 0)
  owed_there a small = ap (list_any (is_same (holding.Owed a))) (sym was) ∙ any-owed a b.keeper b.places.entries b.owed small

  -- of places alone it says whether bytes are free
  pub free_here : (o l : ℕ) → list_all (is_apart o l) held ≡ list_all (is_apart o l) (all_placed b.places.entries)
  free_here o l = ap (list_all (is_apart o l)) (sym was) ∙ all-places (is_apart o l) b.keeper b.places.entries b.owed (λ k. kept_apart o l k) (λ app. refl)

  pub shut_now : list_any (is_same holding.Own) (holders_of_keeper b.keeper) ≡ true
      → Changes (becomes holding.Own [] held) (all_placed b.places.entries ++ owed_from 0 b.owed) true
  shut_now there =
      let keeps : b.keeper ≡ keeper.Card = card_is b.keeper there in
      subst (λ l. Changes (becomes holding.Own [] l) (all_placed b.places.entries ++ owed_from 0 b.owed) true) was
      (becomes_now holding.Own [] (holders_in b) (all_placed b.places.entries ++ owed_from 0 b.owed) (any-own b.keeper b.places.entries b.owed ∙ there)
      (λ f. let kept : weight f (holders_of_keeper b.keeper) ≡ f holding.Own + 0 = ap (λ k. weight f (holders_of_keeper k)) keeps in
      omega (arith, kept, weight-append f (holders_of_keeper b.keeper) (all_placed b.places.entries ++ owed_from 0 b.owed))))

  module _ (o l : ℕ) (m : BTreeMap ℕ OwnedPlace) (may : can_place held o l ≡ true)
      (put : m.entries ≡ insert_entry nat_cmp b.places.entries o (record { len = l; hand = hand.Card })) where
    may_parts : (list_any (is_same holding.Own) held ≡ true) × (0 < l) × (list_all (is_apart o l) (all_placed b.places.entries) ≡ true)
    may_parts =
        let free = and_parts (list_any (is_same holding.Own) held && ltb 0 l && (o % 64 == 0)) (list_all (is_apart o l) held) may in
        let at = and_parts (list_any (is_same holding.Own) held && ltb 0 l) (o % 64 == 0) free.0 in
        let card = and_parts (list_any (is_same holding.Own) held) (ltb 0 l) at.0 in
        (card.0, ltb-true 0 l card.1, sym (free_here o l) ∙ free.1)

    put_moves : (f : Holding → ℕ) → weight f (all_placed m.entries) ≡ weight f (all_placed b.places.entries) + f (holding.Piece o l)
    put_moves f = subst (λ es. weight f (all_placed es) ≡ weight f (all_placed b.places.entries) + f (holding.Piece o l)) (sym put)
        (weight-put f o (record { len = l; hand = hand.Card }) b.places.entries
        (free_there o l b.places.entries 0 sound.apart may_parts.1 may_parts.2))

    put_alone : LeavesNoPlace b.keeper m.entries
    put_alone = subst (λ k. LeavesNoPlace k m.entries) (sym (card_is b.keeper (sym own_there ∙ may_parts.0))) tt

    now : Inside
    now = record b { places = m; count = b.count + 1 }

    added : (f : Holding → ℕ) → weight f (holders_in now) ≡ weight f (holders_in b) + f (holding.Piece o l)
    unfolding now
    added f = omega (arith, put_moves f, weight-view f b.keeper b.places.entries b.owed, weight-view f b.keeper m.entries b.owed)

    pub put_sound : IsSoundBuffer (record b { places = m; count = b.count + 1 })
    unfolding now
    put_sound = record {
      apart = subst (ArePlacesApart 0) (sym put)
          (apart-put 0 o (record { len = l; hand = hand.Card }) b.places.entries sound.apart (omega arith) may_parts.1 may_parts.2);
      alone = put_alone;
      counted = counted b.count (b.count + 1) b.users b.users (holders_in b) (holders_in now) [] (holding.Piece o l ∷ []) sound.counted
          (λ f. omega (arith, added f)) (omega arith) (λ app lt. refl);
    }

    pub put_changes : Changes (only_if (can_place held o l) (Some (held ++ holding.Piece o l ∷ []))) (holders_in (record b { places = m; count = b.count + 1 })) true
    unfolding now
    put_changes = rw may (
      held ++ holding.Piece o l ∷ [],
      refl,
      λ f. let same : weight f (holders_in b) ≡ weight f held = ap (weight f) was in
          omega (arith, added f, same, weight-append f held (holding.Piece o l ∷ [])),
    )

  pub may_place : (o l : ℕ) → list_any (is_same holding.Own) (holders_of_keeper b.keeper) ≡ true → 0 < l → o % 64 ≡ 0
      → can_place held o l ≡ list_all (is_apart o l) (all_placed b.places.entries)
  may_place o l card some unit = rw (own_there, free_here o l, card, lt-ltb 0 l some, eq-eqb (o % 64) 0 unit) refl

  -- ---- a spare buffer that is lent

  module _ (a l : ℕ) (small : a < length b.users) (m : BTreeMap ℕ OwnedPlace) (some : 0 < l) (there : list_any (is_same (holding.Spare a)) (holders_of_keeper b.keeper) ≡ true)
      (put : m.entries ≡ insert_entry nat_cmp b.places.entries 0 (record { len = l; hand = hand.Loan a })) where
    keeps : b.keeper ≡ keeper.App a
    keeps = spare_is a b.keeper there

    empty : b.places.entries ≡ []
    empty = subst (λ k. LeavesNoPlace k b.places.entries) keeps sound.alone

    one_place : m.entries ≡ (0, record { len = l; hand = hand.Loan a }) ∷ []
    one_place = put ∙ ap (λ es. insert_entry nat_cmp es 0 (record { len = l; hand = hand.Loan a })) empty

    pub own_lent : IsDone (record b { keeper = keeper.Nobody; places = m; users = set b.users a (get_or b.users a 0 + 1) })
        (becomes (holding.Spare a) (holding.Loan a 0 l ∷ []) held)
    own_lent =
        done b (record b { keeper = keeper.Nobody; places = m; users = set b.users a (get_or b.users a 0 + 1) }) held (holding.Spare a)
        (holding.Loan a 0 l ∷ []) sound was (subst (ArePlacesApart 0) (sym one_place) (omega arith, some, tt)) tt
        (any-spare a b.keeper b.places.entries b.owed ∙ there)
        (λ f.
        let kept : weight f (holders_of_keeper b.keeper) ≡ f (holding.Spare a) + 0 = ap (λ k. weight f (holders_of_keeper k)) keeps in
        let none : weight f (all_placed b.places.entries) ≡ 0 = ap (λ es. weight f (all_placed es)) empty in
        let one : weight f (all_placed m.entries) ≡ f (holding.Loan a 0 l) + 0 = ap (λ es. weight f (all_placed es)) one_place in
        omega (arith, kept, none, one, weight-view f b.keeper b.places.entries b.owed, weight-view f keeper.Nobody m.entries b.owed))
        (omega arith) (λ app lt. omega (arith, users_more b.users a small app))

  -- ---- what is owed

  module _ (a : ℕ) (small : a < length b.owed) (eight : a < 8) (few : length b.users ≡ 8) where
    owed_part : weight (λ h. 1) (owed_from 0 b.owed) ≤ b.count
    owed_part =
        let pool : b.count ≡ length (holders_in b) = sound.counted.pool in
        omega (arith, pool, weight-length (holders_in b), weight-view (λ h. 1) b.keeper b.places.entries b.owed)

    pub owed_counted : get_or b.owed a 0 ≤ b.count
    owed_counted = omega (arith, owed_part, owed_few a b.owed small)

    -- the user count counts what is owed
    pub owed_used : get_or b.owed a 0 ≤ get_or b.users a 0
    owed_used =
        let mine : weight (one_if (is_user a)) (owed_from 0 (set b.owed a (get_or b.owed a 0 - get_or b.owed a 0))) + get_or b.owed a 0 * (if eqb a a then 1 else 0)
        ≡ weight (one_if (is_user a)) (owed_from 0 b.owed) = owed_fewer (one_if (is_user a)) a b.owed (get_or b.owed a 0) small (omega arith) in
        let each : weight (one_if (is_user a)) (owed_from 0 (set b.owed a (get_or b.owed a 0 - get_or b.owed a 0))) + get_or b.owed a 0 * 1
        ≡ weight (one_if (is_user a)) (owed_from 0 b.owed) = rw (eq-eqb a a refl) at mine in
        omega (
          arith,
          each,
          sound.counted.user a eight,
          weight-count (is_user a) (holders_in b),
          weight-view (one_if (is_user a)) b.keeper b.places.entries b.owed,
        )

    pub honoured : 0 < get_or b.owed a 0
        → IsDone (record b { owed = set b.owed a (get_or b.owed a 0 - 1); users = set b.users a (get_or b.users a 0 - 1); count = b.count - 1 })
        (becomes (holding.Owed a) [] held)
    honoured some =
        done b (record b { owed = set b.owed a (get_or b.owed a 0 - 1); users = set b.users a (get_or b.users a 0 - 1); count = b.count - 1 }) held
        (holding.Owed a) [] sound was sound.apart sound.alone (any-owed a b.keeper b.places.entries b.owed small ∙ lt-ltb 0 (get_or b.owed a 0) some)
        (λ f. omega (
          arith,
          owed_fewer f a b.owed 1 small (omega arith),
          weight-view f b.keeper b.places.entries b.owed,
          weight-view f b.keeper b.places.entries (set b.owed a (get_or b.owed a 0 - 1)),
        ))
        (omega (arith, owed_counted, some)) (λ app lt. omega (arith, users_fewer b.users a 1 (omega arith) (omega (arith, owed_used, some)) app))

    abbrev scrubbed : Inside
    scrubbed = record b {
      owed = set b.owed a 0;
      users = set b.users a (get_or b.users a 0 - get_or b.owed a 0);
      count = b.count - get_or b.owed a 0;
    }

    all_moves : (f : Holding → ℕ) → weight f (holders_in scrubbed) + get_or b.owed a 0 * f (holding.Owed a) ≡ weight f (holders_in b)
    all_moves f =
        let zero_is : get_or b.owed a 0 - get_or b.owed a 0 ≡ 0 = omega arith in
        let owed : weight f (owed_from 0 (set b.owed a 0)) + get_or b.owed a 0 * f (holding.Owed a) ≡ weight f (owed_from 0 b.owed) =
        subst (λ n. weight f (owed_from 0 (set b.owed a n)) + get_or b.owed a 0 * f (holding.Owed a) ≡ weight f (owed_from 0 b.owed)) zero_is
        (owed_fewer f a b.owed (get_or b.owed a 0) small (omega arith)) in
        omega (arith, owed, weight-view f b.keeper b.places.entries b.owed, weight-view f b.keeper b.places.entries (set b.owed a 0))

    pub scrub_sound : IsSoundBuffer scrubbed
    scrub_sound = record {
      apart = sound.apart;
      alone = sound.alone;
      counted = counted b.count (b.count - get_or b.owed a 0) b.users (set b.users a (get_or b.users a 0 - get_or b.owed a 0)) (holders_in b)
          (holders_in scrubbed) (replicate (get_or b.owed a 0) (holding.Owed a)) [] sound.counted
          (λ f. omega (arith, all_moves f, weight-replicate f (get_or b.owed a 0) (holding.Owed a)))
          (omega (
            arith,
            owed_counted,
            weight-length (replicate (get_or b.owed a 0) (holding.Owed a)),
            weight-replicate (λ h. 1) (get_or b.owed a 0) (holding.Owed a),
          ))
          (λ app lt. omega (
            arith,
            users_fewer b.users a (get_or b.owed a 0) (omega arith) owed_used app,
            weight-replicate (one_if (is_user app)) (get_or b.owed a 0) (holding.Owed a),
          ));
    }

    kept_only : (f : Holding → ℕ) → weight f (filter (λ h. not (is_same (holding.Owed a) h)) (holders_in b)) ≡ weight f (holders_in scrubbed)
    kept_only f =
        let none_left : list_any (is_same (holding.Owed a)) (holders_in scrubbed) ≡ false =
        any-owed a b.keeper b.places.entries (set b.owed a 0) (omega (arith, small, length-set b.owed a 0))
        ∙ ap (ltb 0) (get_or-set_same b.owed a 0 0 small) in
        let alike : weight (without (holding.Owed a) f) (holders_in scrubbed) ≡ weight f (holders_in scrubbed) =
        weight-absent (holding.Owed a) f (holders_in scrubbed) none_left in
        let nothing : without (holding.Owed a) f (holding.Owed a) ≡ 0 = rw (eq-eqb a a refl) refl in
        let product : get_or b.owed a 0 * without (holding.Owed a) f (holding.Owed a) ≡ 0 =
        ap (λ n. get_or b.owed a 0 * n) nothing ∙ omega arith in
        omega (arith, weight-kept (holding.Owed a) f (holders_in b), all_moves (without (holding.Owed a) f), alike, product)

    pub scrub_changes : 0 < get_or b.owed a 0
        → Changes (only_if (list_any (is_same (holding.Owed a)) held) (Some (filter (λ h. not (is_same (holding.Owed a) h)) held))) (holders_in scrubbed) true
    scrub_changes some =
        subst (λ l. Changes (only_if (list_any (is_same (holding.Owed a)) l) (Some (filter (λ h. not (is_same (holding.Owed a) h)) l))) (holders_in scrubbed) true) was
        (rw (any-owed a b.keeper b.places.entries b.owed small, lt-ltb 0 (get_or b.owed a 0) some)
        (filter (λ h. not (is_same (holding.Owed a) h)) (holders_in b), refl, kept_only))

    pub scrub_none : get_or b.owed a 0 ≤ 0
        → Changes (only_if (list_any (is_same (holding.Owed a)) held) (Some (filter (λ h. not (is_same (holding.Owed a) h)) held))) held false
    scrub_none none = rw (owed_there a small, le-ltb 0 (get_or b.owed a 0) none) refl

  -- ---- a buffer without a holder

  pub nothing_there : b.count ≡ 0 → (all_placed b.places.entries ++ owed_from 0 b.owed) ≡ []
  nothing_there none =
      let pool : b.count ≡ length (holders_in b) = sound.counted.pool in
      nil_from_length (all_placed b.places.entries ++ owed_from 0 b.owed)
      (omega (arith, pool, none, length-append (holders_of_keeper b.keeper) (all_placed b.places.entries ++ owed_from 0 b.owed)))

  pub begun : (may : Bool) (one : Holding) → b.count ≡ 0 → may ≡ true
      → Changes (only_if (may && (length held == 0)) (Some (one ∷ []))) (one ∷ (all_placed b.places.entries ++ owed_from 0 b.owed)) true
  begun may one none is =
      let pool : b.count ≡ length (holders_in b) = sound.counted.pool in
      let size : length held ≡ 0 = sym (ap length was) ∙ sym pool ∙ none in
      rw (is, size) (one ∷ [], refl, λ f. ap (λ l. f one + weight f l) (sym (nothing_there none)))
