-- Who has which role, after a step of a seat.
use Rattle.std.proofs.Common.{◌≡◌, ℕ, zero, suc, ◌+◌, ◌<◌, ◌≤◌, List, [], ◌∷◌, ◌++◌, set, get_or, length, refl, ap, sym, ◌∙◌, arith, ⊎_elim, subst, inl, inr}
use Rattle.std.{specs.Prelude.{◌≢◌, ◌⊎◌, ◌==◌}, proofs.lemmas.List.{length-set, get_or-set_same, get_or-set_other, append-nil}}
use mathlib.Core.Option.{some, some-injective, some-ne-none}
use mathlib.Core.Logic.{dite}
use native.Mathlib.Decide.{ℕ_discrete}
use lib.ListN.{get_elem?}
use Rattle.atomic_table.proofs.Lists.{at_set, at_snoc, set_else}
use Rattle.board_face.proofs.{ListLemmas.{eqb_same, not-eqb}, Tallies.{one_if, one_if-le}}
use Rattle.ref_words.specs.{declared.view.View.{View}, Seated.{times_in, times_taken, AreTaken, AreDealt, dealt_out, due_view, no_role, both_sides}}

module _ {V S : Type 0} (sides : V → List S) (number : S → ℕ) where
  pub taken-set : (k : ℕ) (views : List V) (i : ℕ) (v w : V) → get_elem? views i ≡ some v
      → times_taken sides number k (set views i w) + times_in sides number k (sides v) ≡ times_taken sides number k views + times_in sides number k
      (sides w)
  taken-set k [] i v w e = absurd (some-ne-none v (sym e))
  taken-set k (x ∷ xs) zero v w e = let same : times_in sides number k (sides x) ≡ times_in sides number k (sides v) = ap (λ u. times_in sides number k
      (sides u)) (some-injective x v e) in omega arith
  taken-set k (x ∷ xs) (suc i) v w e = omega (arith, taken-set k xs i v w e)

  pub taken-at : (k : ℕ) (views : List V) (i : ℕ) (v : V) → get_elem? views i ≡ some v
      → times_in sides number k (sides v) ≤ times_taken sides number k views
  taken-at k [] i v e = absurd (some-ne-none v (sym e))
  taken-at k (x ∷ xs) zero v e = let same : times_in sides number k (sides x) ≡ times_in sides number k (sides v) = ap (λ u. times_in sides number k
      (sides u)) (some-injective x v e) in omega arith
  taken-at k (x ∷ xs) (suc i) v e = omega (arith, taken-at k xs i v e)

  in-at : (ss : List S) (m : ℕ) (s : S) → get_elem? ss m ≡ some s → 1 ≤ times_in sides number (number s) ss
  in-at [] m s e = absurd (some-ne-none s (sym e))
  in-at (x ∷ xs) zero s e =
      let same : one_if (number x == number s) ≡ one_if (number s == number s) = ap (λ u. one_if (number u == number s)) (some-injective x s e) in
      omega (arith, same, ap one_if (eqb_same (number s)))
  in-at (x ∷ xs) (suc m) s e = omega (arith, in-at xs m s e)

  taken-two : (k : ℕ) (views : List V) (i j : ℕ) (v u : V) → i ≢ j → get_elem? views i ≡ some v → get_elem? views j ≡ some u
      → times_in sides number k (sides v) + times_in sides number k (sides u) ≤ times_taken sides number k views
  taken-two k [] i j v u ne e e' = absurd (some-ne-none v (sym e))
  taken-two k (x ∷ xs) zero zero v u ne e e' = absurd (ne refl)
  taken-two k (x ∷ xs) zero (suc j) v u ne e e' =
      let same : times_in sides number k (sides x) ≡ times_in sides number k (sides v) = ap (λ y. times_in sides number k (sides y))
      (some-injective x v e) in omega (arith, same, taken-at k xs j u e')
  taken-two k (x ∷ xs) (suc i) zero v u ne e e' =
      let same : times_in sides number k (sides x) ≡ times_in sides number k (sides u) = ap (λ y. times_in sides number k (sides y))
      (some-injective x u e') in omega (arith, same, taken-at k xs i v e)
  taken-two k (x ∷ xs) (suc i) (suc j) v u ne e e' = omega (arith, taken-two k xs i j v u (λ q. ne (ap suc q)) e e')

  taken-push : (k : ℕ) (views : List V) (w : V)
      → times_taken sides number k (views ++ w ∷ []) ≡ times_taken sides number k views + times_in sides number k (sides w)
  taken-push k [] w = omega arith
  taken-push k (x ∷ xs) w = omega (arith, taken-push k xs w)

  pub in-append : (k : ℕ) (xs ys : List S) → times_in sides number k (xs ++ ys) ≡ times_in sides number k xs + times_in sides number k ys
  in-append k [] ys = omega arith
  in-append k (x ∷ xs) ys = omega (arith, in-append k xs ys)

  at-append : (xs ys : List S) (m : ℕ) (t : S) → get_elem? (xs ++ ys) m ≡ some t
      → ((n : ℕ) × (get_elem? xs n ≡ some t)) ⊎ ((n : ℕ) × (get_elem? ys n ≡ some t))
  at-append [] ys m t e = inr (m, e)
  at-append (x ∷ xs) ys zero t e = inl (zero, e)
  at-append (x ∷ xs) ys (suc m) t e = ⊎_elim (λ h. inl (suc h.0, h.1)) (λ h. inr h) (at-append xs ys m t e)

  one-in : (k : ℕ) (s : S) (ss : List S) → ss ≡ s ∷ [] → number s ≡ k → times_in sides number k ss ≡ 1
  one-in k s ss e is = ap (times_in sides number k) e ∙ omega (arith, ap one_if (ap (λ n. n == k) is ∙ eqb_same k))

  none-in : (k : ℕ) (ss : List S) → ss ≡ [] → times_in sides number k ss ≡ 0
  none-in k ss e = ap (times_in sides number k) e

  only : (s t : S) (m : ℕ) → get_elem? (s ∷ []) m ≡ some t → s ≡ t
  only s t zero e = some-injective s t e
  only s t (suc m) e = absurd (some-ne-none t (sym e))

  head-at : (ss : List S) (s : S) → ss ≡ s ∷ [] → get_elem? ss 0 ≡ some s
  head-at ss s e = ap (λ xs. get_elem? xs 0) e

  module _ (many : ℕ) (word : ℕ → ℕ) (side opened : ℕ → S) (views : List V) (taken : AreTaken sides number many word side opened views) where
    -- no other seat has a role that this one has
    apart : (id j m : ℕ) (v u : V) (s t : S) → get_elem? views id ≡ some v → sides v ≡ s ∷ [] → get_elem? views j ≡ some u → j ≢ id
        → get_elem? (sides u) m ≡ some t → number t ≢ number s
    apart id j m v u s t at one at' other there e =
        let k = number s in
        let bound = (taken.has id zero v s at (head-at (sides v) s one)).0 in
        let some_there : 1 ≤ times_in sides number k (sides u) = subst (λ n. 1 ≤ times_in sides number n (sides u)) e (in-at (sides u) m t there) in
        let both : times_in sides number k (sides v) + times_in sides number k (sides u) ≤ times_taken sides number k views = taken-two k views id j v u
        (λ q. other (sym q)) at at' in
        absurd (omega (arith, taken.told k bound, taken.once k bound, one-in k s (sides v) one refl, some_there, both))

    -- A seat's own side changes, and no other's.
    pub moves : (side' : ℕ → S) (id : ℕ) (v w : V) (s s' : S) → get_elem? views id ≡ some v → sides v ≡ s ∷ [] → sides w ≡ s' ∷ []
        → number s' ≡ number s → side' (number s) ≡ s' → ((k : ℕ) → k < many → k ≢ number s → side' k ≡ side k)
        → AreTaken sides number many word side' opened (set views id w)
    moves side' id v w s s' at one one' same now others =
        let bound = (taken.has id zero v s at (head-at (sides v) s one)).0 in
        let in_v : (k : ℕ) → times_in sides number k (sides w) ≡ times_in sides number k (sides v) = λ k. ap (times_in sides number k) one'
        ∙ (ap (λ n. one_if (n == k) + 0) same ∙ sym (ap (times_in sides number k) one)) in
        record {
          told = λ k small. omega (arith, taken.told k small, taken-set k views id v w at, in_v k);
          once = taken.once;
          untaken = λ k small none.
              let ne : k ≢ number s = λ e.
              let gone : word (number s) ≡ 0 = ap word (sym e) ∙ none in
              absurd (omega (arith, taken.told (number s) bound, gone, taken-at (number s) views id v at, one-in (number s) s (sides v) one refl)) in
              others k small ne ∙ taken.untaken k small none;
          has = λ i m u t at' there.
              ⊎_elim
              (λ (h : (i ≡ id) × (w ≡ u)).
              let e : s' ≡ t = only s' t m (ap (λ xs. get_elem? xs m) (sym one' ∙ ap sides h.1) ∙ there) in
              let is : number t ≡ number s = ap number (sym e) ∙ same in
              (subst (λ n. n < many) (sym is) bound, sym e ∙ (sym now ∙ ap side' (sym is))))
              (λ (h : (i ≢ id) × (get_elem? views i ≡ some u)).
              let was = taken.has i m u t h.1 there in
              (was.0, was.1 ∙ sym (others (number t) was.0 (apart id i m v u s t at one h.1 h.0 there))))
              (at_set views id i w u at');
        }

    -- A seat changes that has the same sides as before.
    pub rests : (word' : ℕ → ℕ) (id : ℕ) (v w : V) → get_elem? views id ≡ some v → sides w ≡ sides v → ((k : ℕ) → k < many
        → word' k ≡ word k) → AreTaken sides number many word' side opened (set views id w)
    rests word' id v w at same words = record {
      told = λ k small. omega (arith, taken.told k small, taken-set k views id v w at, ap (times_in sides number k) same, words k small);
      once = λ k small. omega (arith, taken.once k small, words k small);
      untaken = λ k small none. taken.untaken k small (sym (words k small) ∙ none);
      has = λ i m u t at' there.
          ⊎_elim
          (λ (h : (i ≡ id) × (w ≡ u)). taken.has id m v t at (ap (λ xs. get_elem? xs m) (sym same ∙ ap sides h.1) ∙ there))
          (λ (h : (i ≢ id) × (get_elem? views i ≡ some u)). taken.has i m u t h.1 there)
          (at_set views id i w u at');
    }

    -- A seat without sides takes a role that nobody took.
    pub enters : (word' : ℕ → ℕ) (id k : ℕ) (v w : V) → get_elem? views id ≡ some v → sides v ≡ [] → sides w ≡ opened k ∷ []
        → number (opened k) ≡ k → k < many → word k ≡ 0 → word' k ≡ 1 → ((j : ℕ) → j < many → j ≢ k → word' j ≡ word j)
        → AreTaken sides number many word' side opened (set views id w)
    enters word' id k v w at none one is bound was now others = record {
      told = λ j small.
          dite
          (ℕ_discrete j k)
          (λ (e : j ≡ k). subst (λ n. times_taken sides number n (set views id w) ≡ word' n) (sym e) (omega (
            arith,
            taken.told k bound,
            taken-set k views id v w at,
            none-in k (sides v) none,
            one-in k (opened k) (sides w) one is,
            was,
            now,
          )))
          (λ (ne : j ≢ k).
          let not_here : times_in sides number j (sides w) ≡ 0 = ap (times_in sides number j) one ∙ omega (
            arith,
            ap one_if (ap (λ n. n == j) is
                ∙ not-eqb k j (λ e. ne (sym e))),
          ) in
          omega (arith, taken.told j small, taken-set j views id v w at, none-in j (sides v) none, not_here, others j small ne));
      once = λ j small.
          dite (ℕ_discrete j k) (λ (e : j ≡ k). omega (arith, ap word' e, now)) (λ (ne : j ≢ k). omega (arith, taken.once j small, others j small ne));
      untaken = λ j small gone.
          dite (ℕ_discrete j k) (λ (e : j ≡ k). absurd (omega (
            arith,
            ap word' e,
            now,
            gone,
          ))) (λ (ne : j ≢ k). taken.untaken j small (sym (others j small ne) ∙ gone));
      has = λ i m u t at' there.
          ⊎_elim
          (λ (h : (i ≡ id) × (w ≡ u)).
          let e : opened k ≡ t = only (opened k) t m (ap (λ xs. get_elem? xs m) (sym one ∙ ap sides h.1) ∙ there) in
          let n : number t ≡ k = ap number (sym e) ∙ is in
          (subst (λ x. x < many) (sym n) bound, sym e ∙ (sym (taken.untaken k bound was) ∙ ap side (sym n))))
          (λ (h : (i ≢ id) × (get_elem? views i ≡ some u)). taken.has i m u t h.1 there)
          (at_set views id i w u at');
    }

    -- A seat without sides comes, and the sides of no other change.
    pub splits : (id : ℕ) (v v' w : V) → get_elem? views id ≡ some v → sides v' ≡ sides v → sides w ≡ []
        → AreTaken sides number many word side opened (set views id v' ++ w ∷ [])
    splits id v v' w at same none =
        let now = rests word id v v' at same (λ k small. refl) in
        let tail = set views id v' in
        record {
          told = λ k small. omega (arith, now.told k small, taken-push k tail w, none-in k (sides w) none);
          once = now.once;
          untaken = now.untaken;
          has = λ i m u t at' there.
              ⊎_elim
              (λ (h : get_elem? tail i ≡ some u). now.has i m u t h there)
              (λ (h : w ≡ u). absurd (some-ne-none t (sym (ap (λ xs. get_elem? xs m) (sym none ∙ ap sides h) ∙ there))))
              (at_snoc tail w u i at');
        }

    -- One seat takes in the sides of another, which is left with none.
    pub joins : (id other : ℕ) (v w both spent : V) → get_elem? views id ≡ some v → other ≢ id → get_elem? views other ≡ some w
        → sides both ≡ sides v ++ sides w → sides spent ≡ []
        → AreTaken sides number many word side opened (set (set views id both) other spent)
    joins id other v w both spent at ne at' is none =
        let there : get_elem? (set views id both) other ≡ some w = set_else views id other both ne ∙ at' in
        record {
          told = λ k small.
              let sum : times_in sides number k (sides both) ≡ times_in sides number k (sides v) + times_in sides number k (sides w) = ap
              (times_in sides number k) is ∙ in-append k (sides v) (sides w) in
              omega (
                arith,
                taken.told k small,
                taken-set k (set views id both) other w spent there,
                taken-set k views id v both at,
                sum,
                none-in k (sides spent) none,
              );
          once = taken.once;
          untaken = taken.untaken;
          has = λ i m u t at-i in-u.
              ⊎_elim
              (λ (h : (i ≡ other) × (spent ≡ u)). absurd (some-ne-none t (sym (ap (λ xs. get_elem? xs m) (sym none ∙ ap sides h.1) ∙ in-u))))
              (λ (h : (i ≢ other) × (get_elem? (set views id both) i ≡ some u)).
              ⊎_elim
              (λ (g : (i ≡ id) × (both ≡ u)).
              ⊎_elim
              (λ (in-v : (n : ℕ) × (get_elem? (sides v) n ≡ some t)). taken.has id in-v.0 v t at in-v.1)
              (λ (in-w : (n : ℕ) × (get_elem? (sides w) n ≡ some t)). taken.has other in-w.0 w t at' in-w.1)
              (at-append (sides v) (sides w) m t (ap (λ xs. get_elem? xs m) (sym is ∙ ap sides g.1) ∙ in-u)))
              (λ (g : (i ≢ id) × (get_elem? views i ≡ some u)). taken.has i m u t g.1 in-u)
              (at_set views id i both u h.1))
              (at_set (set views id both) other i spent u at-i);
        }

-- ---- what the desk dealt out

module _ (roles : List ℕ) (views : List View) (dealt : AreDealt roles views) where
  -- a seat that is to take a role finds it untaken
  pub due-untaken : (id r : ℕ) (v : View) → get_elem? views id ≡ some v → v.due ≡ r ∷ [] → r < length roles → get_or roles r 0 ≡ 0
  due-untaken id r v at one small =
      omega (
        arith,
        dealt.sum r small,
        dealt.once r small,
        taken-at (λ (u : View). u.due) (λ x. x) r views id v at,
        one-in (λ (u : View). u.due) (λ x. x) r r v.due one refl,
      )

  -- a seat changes that is due and dealt out as before
  pub deal-rests : (id : ℕ) (v w : View) → get_elem? views id ≡ some v → w.due ≡ v.due → w.dealt ≡ v.dealt → AreDealt roles (set views id w)
  deal-rests id v w at due out = record {
    sum = λ r small. omega (
      arith,
      dealt.sum r small,
      taken-set (λ v. v.due) (λ x. x) r views id v w at,
      taken-set (λ v. v.dealt) (λ x. x) r views id v w at,
      ap (times_in {V = View} (λ v. v.due) (λ x. x) r) due,
      ap (times_in {V = View} (λ v. v.dealt) (λ x. x) r) out,
    );
    once = λ r small. omega (
      arith,
      dealt.once r small,
      taken-set (λ v. v.dealt) (λ x. x) r views id v w at,
      ap (times_in {V = View} (λ v. v.dealt) (λ x. x) r) out,
    );
    desk = λ i u at' ne.
        ⊎_elim
        (λ (h : (i ≡ id) × (w ≡ u)). ap (λ x. x.dealt) (sym h.1) ∙ (out ∙ dealt.desk id v at (λ z. ne (h.0 ∙ z))))
        (λ (h : (i ≢ id) × (get_elem? views i ≡ some u)). dealt.desk i u h.1 ne)
        (at_set views id i w u at');
  }

  -- a seat takes the role that is due to it
  pub deal-enters : (id r : ℕ) (v w : View) → get_elem? views id ≡ some v → v.due ≡ r ∷ [] → w.due ≡ [] → w.dealt ≡ v.dealt
      → r < length roles → AreDealt (set roles r 1) (set views id w)
  deal-enters id r v w at one none out bound =
      let was = due-untaken id r v at one bound in
      let many : length (set roles r 1) ≡ length roles = length-set roles r 1 in
      record {
        sum = λ x small.
            let due = taken-set (λ v. v.due) (λ x. x) x views id v w at in
            let out' = taken-set (λ v. v.dealt) (λ x. x) x views id v w at in
            let same : times_in (λ (v : View). v.dealt) (λ x. x) x w.dealt ≡ times_in (λ (v : View). v.dealt) (λ x. x) x v.dealt = ap
            (times_in {V = View} (λ v. v.dealt) (λ x. x) x) out in
            let gone = none-in (λ (v : View). v.due) (λ x. x) x w.due none in
            let before = dealt.sum x (omega (arith, small, many)) in
            dite
            (ℕ_discrete x r)
            (λ (e : x ≡ r).
            let here : get_or (set roles r 1) x 0 ≡ 1 = subst (λ n. get_or (set roles r 1) n 0 ≡ 1) (sym e) (get_or-set_same roles r 1 0 bound) in
            omega (
              arith,
              due,
              out',
              same,
              gone,
              before,
              here,
              one-in (λ (v : View). v.due) (λ x. x) x r v.due one (sym e),
              ap (λ n. get_or roles n 0) e,
              was,
            ))
            (λ (ne : x ≢ r).
            let other : times_in (λ (v : View). v.due) (λ x. x) x v.due ≡ 0 = ap (times_in {V = View} (λ v. v.due) (λ x. x) x) one
            ∙ omega (arith, ap one_if (not-eqb r x (λ e. ne (sym e)))) in
            omega (arith, due, out', same, gone, before, other, get_or-set_other roles r x 1 0 ne));
        once = λ x small. (deal-rests' x (omega (arith, small, many)));
        desk = λ i u at' ne.
            ⊎_elim
            (λ (h : (i ≡ id) × (w ≡ u)). ap (λ x. x.dealt) (sym h.1) ∙ (out ∙ dealt.desk id v at (λ z. ne (h.0 ∙ z))))
            (λ (h : (i ≢ id) × (get_elem? views i ≡ some u)). dealt.desk i u h.1 ne)
            (at_set views id i w u at');
      }
    where
      deal-rests' : (x : ℕ) → x < length roles → times_taken (λ v. v.dealt) (λ x. x) x (set views id w) ≤ 1
      deal-rests' x small = omega (
        arith,
        dealt.once x small,
        taken-set (λ v. v.dealt) (λ x. x) x views id v w at,
        ap (times_in {V = View} (λ v. v.dealt) (λ x. x) x) out,
      )

  -- the desk deals a role out that it hasn't dealt before, and a new seat comes to which it is due
  pub deal-splits : (r : ℕ) (v : View) → get_elem? views 0 ≡ some v → times_in (λ (v : View). v.dealt) (λ x. x) r v.dealt ≡ 0
      → AreDealt roles (set views 0 (dealt_out r v) ++ due_view r ∷ [])
  deal-splits r v at fresh =
      let w = dealt_out r v in
      let tail = set views 0 w in
      record {
        sum = λ x small. omega (
          arith,
          dealt.sum x small,
          taken-push (λ v. v.due) (λ x. x) x tail (due_view r),
          taken-push (λ v. v.dealt) (λ x. x) x tail (due_view r),
          taken-set (λ v. v.due) (λ x. x) x views 0 v w at,
          taken-set (λ v. v.dealt) (λ x. x) x views 0 v w at,
          in-append (λ (v : View). v.dealt) (λ x. x) x v.dealt (r ∷ []),
        );
        once = λ x small.
            let more = in-append (λ (v : View). v.dealt) (λ x. x) x v.dealt (r ∷ []) in
            let push = taken-push (λ v. v.dealt) (λ x. x) x tail (due_view r) in
            let set' = taken-set (λ v. v.dealt) (λ x. x) x views 0 v w at in
            dite
            (ℕ_discrete r x)
            (λ (e : r ≡ x).
            let none : times_in (λ (v : View). v.dealt) (λ x. x) x v.dealt ≡ 0 = subst (λ n. times_in (λ (v : View). v.dealt)
            (λ x. x) n v.dealt ≡ 0) e fresh in
            let alone : times_taken (λ v. v.dealt) (λ x. x) x views ≡ times_in (λ (v : View). v.dealt)
            (λ x. x) x v.dealt = only-desk x views v at dealt.desk in
            omega (arith, more, push, set', none, alone, one_if-le (r == x)))
            (λ (ne : r ≢ x). omega (arith, more, push, set', dealt.once x small, ap one_if (not-eqb r x ne)));
        desk = λ i u at' ne.
            ⊎_elim
            (λ (h : get_elem? tail i ≡ some u).
            ⊎_elim
            (λ (g : (i ≡ 0) × (w ≡ u)). absurd (ne g.0))
            (λ (g : (i ≢ 0) × (get_elem? views i ≡ some u)). dealt.desk i u g.1 ne)
            (at_set views 0 i w u h))
            (λ (h : due_view r ≡ u). ap (λ x. x.dealt) (sym h))
            (at_snoc tail (due_view r) u i at');
      }
    where
      none-dealt : (x : ℕ) (us : List View) → ((i : ℕ) (u : View) → get_elem? us i ≡ some u → u.dealt ≡ [])
          → times_taken (λ v. v.dealt) (λ x. x) x us ≡ 0
      none-dealt x [] all = refl
      none-dealt x (u ∷ us) all = omega (
        arith,
        none-in (λ (v : View). v.dealt) (λ x. x) x u.dealt (all zero u refl),
        none-dealt x us (λ i u' at'. all (suc i) u' at'),
      )

      only-desk : (x : ℕ) (us : List View) (v : View) → get_elem? us 0 ≡ some v → ((i : ℕ) (u : View) → get_elem? us i ≡ some u → i ≢ 0
          → u.dealt ≡ []) → times_taken (λ v. v.dealt) (λ x. x) x us ≡ times_in (λ (v : View). v.dealt) (λ x. x) x v.dealt
      only-desk x [] v at others = absurd (some-ne-none v (sym at))
      only-desk x (u ∷ us) v at others =
          let same : times_in (λ (v : View). v.dealt) (λ x. x) x u.dealt ≡ times_in (λ (v : View). v.dealt) (λ x. x) x v.dealt = ap (λ
          (y : View). times_in (λ (v : View). v.dealt) (λ x. x) x y.dealt) (some-injective u v at) in
          omega (arith, same, none-dealt x us (λ i u' at'. others (suc i) u' at' (λ z. absurd (omega arith))))

  -- a seat comes back
  pub deal-joins : (id other : ℕ) (v w : View) → get_elem? views id ≡ some v → other ≢ id → get_elem? views other ≡ some w → w.due ≡ []
      → w.dealt ≡ [] → AreDealt roles (set (set views id (both_sides v w)) other no_role)
  deal-joins id other v w at ne at' none out =
      let both = both_sides v w in
      let there : get_elem? (set views id both) other ≡ some w = set_else views id other both ne ∙ at' in
      let dues : both.due ≡ v.due = ap (λ xs. v.due ++ xs) none ∙ append-nil v.due in
      let outs : both.dealt ≡ v.dealt = ap (λ xs. v.dealt ++ xs) out ∙ append-nil v.dealt in
      again (set views id both) (deal-rests id v both at dues outs) other w there none out
    where
      again : (us : List View) → AreDealt roles us → (k : ℕ) (w : View) → get_elem? us k ≡ some w → w.due ≡ [] → w.dealt ≡ []
          → AreDealt roles (set us k no_role)
      again us are k w at' none out = Rattle.ref_words.proofs.Seating.deal-rests roles us are k w no_role at' (sym none) (sym out)
