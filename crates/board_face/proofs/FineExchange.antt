-- Which holdings end and begin by each fine step.
use Rattle.board_face.specs.{Laws.{scrubbed_by}, NicEvents.{fresh}, Lists.{without}, Tokens.{filled_by, next_place, same_filling}}
use Rattle.std.proofs.Common.{get_or, subst, ◌<◌}
use Rattle.std.proofs.Common.{◌≡◌, ◌∙◌, ℕ, ◌+◌, ◌-◌, ◌≤◌, Bool, true, false, cond, List, [], ◌∷◌, length, drop, take, set, map, if◌then◌else◌, refl, sym, ap, arith, ⊎_elim}
use Rattle.std.{specs.Prelude.{◌==◌, ◌≢◌, All, Some, Option, slice_index}, proofs.lemmas.List.{take-take, get_or-set_same, get_or-set_other, drop_all, length-drop}}
use Rattle.std.proofs.lemmas.{List.Elements.{All-nil, All-cons, All-head, All-tail, All-take, All-drop}, Bool.{eq-eqb, eqb-true, Decides.{eqb_tells}}}
use Rattle.zr_kinds.{specs.declared.{place.Place.{Place}, ring.Rqe.{Rqe}}, proofs.Booleans.{if-none}}
use Rattle.board_face.specs.Holders.{places_in, owed_in, returned_in, ended_in, returning_count, lowered_in_hand, returning_in_hand, making_places}
use Rattle.board_face.specs.{Sides.{IsApp, side_in}, Laws.{AllSides, FitTogether}}
use Rattle.board_face.specs.Steps.{side_begun, side_user_lowered, side_both_lowered, side_released, side_spare_begun, side_user_taken, side_owes_lowered}
use Rattle.board_face.specs.{BoardSteps.{card, app}, Holdings.{Hold, own, piece, held, spare, owed, returning, buffer_of, here, weight_in, weigh, app_weight}}
use Rattle.board_face.specs.BoardSteps as steps
use Rattle.board_face.specs.FineSteps.{FineExchangeLaw, begins, completes, shuts, lowers_user, lowers_pool, releases, begins_spare, takes_users, lowers_owes, scrubs, side_text_done, with_app, with_card}
use Rattle.board_face.specs.declared.views.{parts.Filling.{Filling}, nic.{Judged.{Judged, TheVariants.{Owed, UserLowered, BothLowered}}, EntryInHand.{EntryInHand}, PlacedText.{PlacedText}, NicSide.{NicSide}}}
use Rattle.board_face.{specs.declared.views.app.AppSide.{AppSide}, proofs.{ListLemmas.{not-eqb, eqb_same}, Parts.{total-exchange}, Tallies.{total, total-set}}}
use Rattle.board_face.proofs.{Sums.{total-push}, EndedWeights.{stretch, owed-moves, returning-moves}}
use Rattle.board_face.proofs.{CardExchange.{card-exchange, owns-less}, AppExchange.{app-exchange}}

-- ---- what the loans of a buffer weigh

here-at : (b c : ℕ) (f : ℕ → ℕ) → here b c (f c) ≡ here b c (f b)
here-at b c f = ⊎_elim (λ t. ap (λ m. here b c (f m)) t.1) (λ t. ap (λ d. if d then f c else 0) t.0 ∙ sym (ap (λ d. if d then f b else 0) t.0)) (eqb_tells c b)

here-sum : (b c m n : ℕ) → here b c m + here b c n ≡ here b c (m + n)
here-sum b c m n = sum-case (c == b)
  where
    sum-case : (d : Bool) → (if d then m else 0) + (if d then n else 0) ≡ (if d then m + n else 0)
    sum-case true = refl
    sum-case false = refl

-- holdings that all lie in one buffer
one-buffer : (w : Hold → ℕ) (b c : ℕ) (k : Place → Hold) → ((p : Place) → buffer_of (k p) ≡ p.buffer) → (ps : List Place)
    → All (λ p. p.buffer ≡ c) ps → weight_in w b (map k ps) ≡ here b c (total (λ p. w (k p)) ps)
one-buffer w b c k same [] all = sym (if-none (c == b) 0 refl)
one-buffer w b c k same (p ∷ ps) all =
    let first : here b (buffer_of (k p)) (w (k p)) ≡ here b c (w (k p)) = ap (λ m. here b m (w (k p))) (same p ∙ All-head (λ q. q.buffer ≡ c) p ps all) in
    omega (arith, first, one-buffer w b c k same ps (All-tail (λ q. q.buffer ≡ c) p ps all), here-sum b c (w (k p)) (total (λ q. w (k q)) ps))

in-buffer : (c : ℕ) (ps : List Place) → All (λ p. p.buffer ≡ c) (places_in c ps)
in-buffer c [] = All-nil (λ p. p.buffer ≡ c)
in-buffer c (p ∷ ps) = kept (p.buffer == c) (eqb-true p.buffer c) (in-buffer c ps)
  where
    kept : (d : Bool) → (d ≡ true → p.buffer ≡ c) → All (λ q. q.buffer ≡ c) (places_in c ps) → All (λ q. q.buffer ≡ c) (cond d (p ∷ places_in c ps) (places_in c ps))
    kept true is rest = All-cons (λ q. q.buffer ≡ c) p (places_in c ps) (is refl) rest
    kept false is rest = rest

-- some of an application's loans that came back there
some-weigh : (w : Hold → ℕ) (b c n : ℕ) (from : ℕ → ℕ) (k : ℕ → Place → Hold) → ((a : ℕ) (p : Place) → buffer_of (k a p) ≡ p.buffer) → (x : AppSide) (a : ℕ)
    → x.view.app ≡ a → weight_in w b (map (k a) (take n (drop (from c) (returned_in c x))))
    ≡ here b c (total (λ p. w (k x.view.app p)) (take n (drop (from b) (returned_in b x))))
some-weigh w b c n from k same x a number =
    let P : Place → Type 0 = λ p. p.buffer ≡ c in
    one-buffer w b c (k a) (same a) (take n (drop (from c) (returned_in c x)))
    (All-take P n (drop (from c) (returned_in c x)) (All-drop P (from c) (returned_in c x) (in-buffer c (map (λ l. l.place) x.view.returned))))
    ∙ here-at b c (λ m. total (λ p. w (k a p)) (take n (drop (from m) (returned_in m x))))
    ∙ ap (λ i. here b c (total (λ p. w (k i p)) (take n (drop (from b) (returned_in b x))))) (sym number)

-- ---- the entry in hand

abbrev hand : ℕ → Rqe → Judged → Option EntryInHand
hand a entry j = Some (record { app = a; entry = entry; judged = j })

-- it counts for its own application alone
module _ (nic now : NicSide) (a : ℕ) (entry : Rqe) (j j' : Judged) (was : nic.inside.entry ≡ hand a entry j) (is : now.inside.entry ≡ hand a entry j')
    (sents : now.view.sent ≡ nic.view.sent) (deals : now.view.dealt ≡ nic.view.dealt) (w : Hold → ℕ) (b : ℕ) where
  hand-other : (y : AppSide) → y.view.app ≢ a → app_weight w b now y ≡ app_weight w b nic y
  hand-other y other =
      let no : (a == y.view.app) ≡ false = not-eqb a y.view.app (λ e. other (sym e)) in
      let lowered : lowered_in_hand y.view.app b now.inside.entry ≡ lowered_in_hand y.view.app b nic.inside.entry = rw (was, is, no) refl in
      let returns : returning_in_hand y.view.app b now.inside.entry ≡ returning_in_hand y.view.app b nic.inside.entry = rw (was, is, no) refl in
      rw (sents, deals, lowered, returns) refl

module _ (s : AllSides) (a c : ℕ) (entry : Rqe) (fit : FitTogether s) (at : IsApp s.apps a (side_in s.apps a)) (w : Hold → ℕ) (b : ℕ) where
  abbrev it : AppSide
  it = side_in s.apps a

  abbrev oweds : ℕ
  oweds = here b c (total (λ p. w (owed it.view.app p)) (take 1 (owed_in b s.nic it)))

  abbrev nexts : ℕ
  nexts = here b c (total (λ p. w (returning it.view.app p)) (take 1 (owed_in b s.nic it)))

  mine : (a == it.view.app) ≡ true
  mine = eq-eqb a it.view.app (sym at.number)

  user-moves : s.nic.inside.entry ≡ hand a entry (Owed c)
      → weigh w b (with_card s (side_user_lowered s.nic a entry c)) + oweds ≡ weigh w b s + nexts
  user-moves was =
      let now = side_user_lowered s.nic a entry c in
      let none : lowered_in_hand it.view.app b s.nic.inside.entry ≡ 0 = rw (was, mine) refl in
      let none_back : returning_in_hand it.view.app b s.nic.inside.entry ≡ 0 = rw (was, mine) refl in
      let one : lowered_in_hand it.view.app b now.inside.entry ≡ here b c 1 = rw mine refl in
      let one_back : returning_in_hand it.view.app b now.inside.entry ≡ here b c 1 = rw mine refl in
      let moved = owed-moves (λ p. w (owed it.view.app p)) (λ p. w (returning it.view.app p)) b c 1 (ended_in b s.nic it) (returning_count b s.nic it)
      (returned_in b it) (ended_in b now it) (returning_count b now it) (λ _. (fit.ended a b it at).returning) (omega (arith, none, one)) (omega (arith, none_back, one_back)) in
      omega (
        arith,
        total-exchange 0 (app_weight w b now) (app_weight w b s.nic) oweds nexts a
            (hand-other s.nic now a entry (Owed c) (UserLowered c) was refl refl refl w b) s.apps fit.numbers a it at.there (omega arith)
            (rw at.is (omega (arith, moved))),
      )

  pool-moves : (last : Bool) → s.nic.inside.entry ≡ hand a entry (UserLowered c)
      → weigh w b (with_card s (side_both_lowered s.nic a entry c last)) + here b c (total (λ p. w (returning it.view.app p))
      (take 1 (drop (ended_in b s.nic it - returning_count b s.nic it) (returned_in b it)))) ≡ weigh w b s
  pool-moves last was =
      let now = side_both_lowered s.nic a entry c last in
      let gone = here b c (total (λ p. w (returning it.view.app p)) (take 1 (drop (ended_in b s.nic it - returning_count b s.nic it) (returned_in b it)))) in
      let one : lowered_in_hand it.view.app b s.nic.inside.entry ≡ here b c 1 = rw (was, mine) refl in
      let one_back : returning_in_hand it.view.app b s.nic.inside.entry ≡ here b c 1 = rw (was, mine) refl in
      let one_now : lowered_in_hand it.view.app b now.inside.entry ≡ here b c 1 = rw mine refl in
      let none_back : returning_in_hand it.view.app b now.inside.entry ≡ 0 = rw mine refl in
      let same : ended_in b now it ≡ ended_in b s.nic it = omega (arith, one, one_now) in
      let f : Place → ℕ = λ p. w (owed it.view.app p) in
      let g : Place → ℕ = λ p. w (returning it.view.app p) in
      let moved = returning-moves f g b c 1 (ended_in b s.nic it) (returning_count b s.nic it)
      (returned_in b it) (returning_count b now it) (λ _. (fit.ended a b it at).returning) (omega (arith, one_back, none_back)) in
      let there : stretch f g (ended_in b now it) (returning_count b now it) (returned_in b it)
      ≡ stretch f g (ended_in b s.nic it) (returning_count b now it) (returned_in b it) = ap (λ m. stretch f g m (returning_count b now it) (returned_in b it)) same in
      omega (
        arith,
        total-exchange 0 (app_weight w b now) (app_weight w b s.nic) gone 0 a
            (hand-other s.nic now a entry (UserLowered c) (BothLowered c) was refl refl refl w b) s.apps fit.numbers a it at.there (omega arith)
            (rw at.is (omega (arith, moved, there))),
      )

-- ---- an application

raised : (xs : List ℕ) (c n b : ℕ) → c < length xs → get_or (set xs c (get_or xs c 0 + n)) b 0 ≡ get_or xs b 0 + here b c n
raised xs c n b within =
    ⊎_elim
    (λ t. subst (λ m. get_or (set xs c (get_or xs c 0 + n)) m 0 ≡ get_or xs m 0 + here m c n) t.1
    (omega (arith, get_or-set_same xs c (get_or xs c 0 + n) 0 within, ap (λ d. if d then n else 0) (eqb_same c))))
    (λ t. omega (arith, get_or-set_other xs c b (get_or xs c 0 + n) 0 (λ e. t.1 (sym e)), ap (λ d. if d then n else 0) t.0))
    (eqb_tells c b)

cleared : (xs : List ℕ) (c b : ℕ) → c < length xs → get_or xs b 0 ≡ here b c (get_or xs c 0) + get_or (set xs c 0) b 0
cleared xs c b within =
    ⊎_elim
    (λ t. subst (λ m. get_or xs m 0 ≡ here m c (get_or xs c 0) + get_or (set xs c 0) m 0) t.1
    (omega (arith, get_or-set_same xs c 0 0 within, ap (λ d. if d then get_or xs c 0 else 0) (eqb_same c))))
    (λ t. omega (arith, get_or-set_other xs c b 0 0 (λ e. t.1 (sym e)), ap (λ d. if d then get_or xs c 0 else 0) t.0))
    (eqb_tells c b)

app-moves : (s : AllSides) (a : ℕ) (x now : AppSide) → IsApp s.apps a x → (w : Hold → ℕ) (b gone new : ℕ)
    → app_weight w b s.nic now + gone ≡ app_weight w b s.nic x + new → weigh w b (with_app s a now) + gone ≡ weigh w b s + new
app-moves s a x now at w b gone new moves = omega (arith, moves, total-set (app_weight w b s.nic) s.apps a x now at.there at.is)

-- ---- all fine steps

pub fine-exchange : FineExchangeLaw
fine-exchange (begins it n) s can w b =
    let none : total (λ (p : Place). here b p.buffer (w (piece p))) (making_places s.nic.inside.making) ≡ 0 = rw can.1 refl in
    let g : Filling → ℕ = λ o. here b o.buffer (w (own o)) in
    let same : total (app_weight w b (side_begun s.nic it n)) s.apps ≡ total (app_weight w b s.nic) s.apps = refl in
    omega (arith, none, same, owns-less s it can.0 g, total-push g (without (same_filling it) s.nic.view.owns) (filled_by it n))
fine-exchange (completes it bytes) s can w b =
    let p = next_place it (length bytes) in
    let one : total (λ (p : Place). here b p.buffer (w (piece p))) (making_places s.nic.inside.making) ≡ here b p.buffer (w (piece p)) + 0 =
    rw (can.busy, can.place) refl in
    let same : total (app_weight w b (side_text_done s.nic it bytes)) s.apps ≡ total (app_weight w b s.nic) s.apps = refl in
    omega (
      arith,
      one,
      same,
      total-push (λ (p : PlacedText). here b p.place.buffer (w (piece p.place))) s.nic.view.pieces (record { place = p; bytes = bytes }),
    )
fine-exchange (shuts it last) s can w b = card-exchange (steps.shuts it last) s can w b
fine-exchange (lowers_user a entry c) s can w b =
    let x = side_in s.apps a in
    let from : ℕ → ℕ = λ m. ended_in m s.nic x in
    omega (
      arith,
      user-moves s a c entry can.0 can.1 w b can.2,
      some-weigh w b c 1 from owed (λ _ p. refl) x a can.1.number,
      some-weigh w b c 1 from returning (λ _ p. refl) x a can.1.number,
    )
fine-exchange (lowers_pool a entry c last) s can w b =
    let x = side_in s.apps a in
    let yes : (a == x.view.app) ≡ true = eq-eqb a x.view.app (sym can.1.number) in
    let one : here c c 1 ≡ 1 = ap (λ d. if d then 1 else 0) (eqb_same c) in
    let back : returning_in_hand x.view.app c s.nic.inside.entry ≡ here c c 1 = rw (can.2, yes) refl in
    let some : 1 ≤ returning_count c s.nic x = omega (arith, back, one) in
    let first = take-take 1 (returning_count c s.nic x) (drop (ended_in c s.nic x - returning_count c s.nic x) (returned_in c x)) some in
    omega (
      arith,
      pool-moves s a c entry can.0 can.1 w b last can.2,
      ap (λ ps. weight_in w b (map (returning a) ps)) first,
      some-weigh w b c 1 (λ m. ended_in m s.nic x - returning_count m s.nic x) returning (λ _ p. refl) x a can.1.number,
    )
fine-exchange (releases a p last) s can w b =
    let x = side_in s.apps a in
    app-moves s a x (side_released x p last) can.0 w b _ _
    (omega (arith, app-exchange (steps.releases p) s.nic x can.1 w b, ap (λ n. weight_in w b (held n p ∷ [])) can.0.number))
fine-exchange (begins_spare a c) s can w b =
    let x = side_in s.apps a in
    app-moves s a x (side_spare_begun x c) can w b _ _
    (omega (arith, app-exchange (steps.spares c) s.nic x tt w b, ap (λ n. weight_in w b (spare n (fresh x.view.setting c) 0 ∷ [])) can.number))
fine-exchange (takes_users a c n) s can w b =
    let x = side_in s.apps a in
    let now = side_user_taken x c n in
    let from : ℕ → ℕ = λ m. ended_in m s.nic x in
    let moved = owed-moves (λ p. w (owed x.view.app p)) (λ p. w (returning x.view.app p)) b c n (from b) (returning_count b s.nic x) (returned_in b x)
    (ended_in b s.nic now) (returning_count b s.nic now) (λ _. can.1.small b) (omega (arith, raised x.inside.scrub_took c n b can.1.took))
    (omega (arith, raised x.inside.scrub_owes c n b can.1.owes)) in
    app-moves s a x now can.0 w b _ _
    (omega (
      arith,
      moved,
      some-weigh w b c n from owed (λ _ p. refl) x a can.0.number,
      some-weigh w b c n from returning (λ _ p. refl) x a can.0.number,
    ))
fine-exchange (lowers_owes a c last) s can w b =
    let x = side_in s.apps a in
    let now = side_owes_lowered x c last in
    let k = slice_index x.inside.scrub_owes c in
    let from : ℕ → ℕ = λ m. ended_in m s.nic x - returning_count m s.nic x in
    let moved = returning-moves (λ p. w (owed x.view.app p)) (λ p. w (returning x.view.app p)) b c k (ended_in b s.nic x) (returning_count b s.nic x)
    (returned_in b x) (returning_count b s.nic now) (λ _. can.1.small b) (omega (arith, cleared x.inside.scrub_owes c b can.1.owes)) in
    app-moves s a x now can.0 w b _ 0
    (omega (
      arith,
      moved,
      ap (λ ps. weight_in w b (map (returning a) ps)) (take-take k (returning_count c s.nic x) (drop (from c) (returned_in c x)) (omega arith)),
      some-weigh w b c k from returning (λ _ p. refl) x a can.0.number,
    ))
fine-exchange (scrubs a all) s can w b =
    let x = side_in s.apps a in
    let now = scrubbed_by x all in
    let f : Place → ℕ = λ p. w (owed x.view.app p) in
    let g : Place → ℕ = λ p. w (returning x.view.app p) in
    let ps = returned_in b x in
    let h = ended_in b s.nic x in
    let idle = can.1.idle b in
    let none : drop (ended_in b s.nic now) ps ≡ [] = drop_all (ended_in b s.nic now) ps (omega (arith, can.1.took b, length-drop h ps)) in
    let own : weight_in w b (map (owed a) (owed_in b s.nic x)) ≡ total f (owed_in b s.nic x) =
    one-buffer w b b (owed a) (λ p. refl) (owed_in b s.nic x)
    (All-drop (λ p. p.buffer ≡ b) h ps (in-buffer b (map (λ l. l.place) x.view.returned)))
    ∙ ap (λ d. if d then total (λ p. w (owed a p)) (owed_in b s.nic x) else 0) (eqb_same b)
    ∙ ap (λ n. total (λ p. w (owed n p)) (owed_in b s.nic x)) (sym can.0.number) in
    app-moves s a x now can.0 w b _ 0
    (omega (
      arith,
      own,
      ap (total f) none,
      ap (λ r. total g (take r (drop (h - r) ps))) idle,
      ap (λ r. total g (take r (drop (ended_in b s.nic now - r) ps))) idle,
    ))
