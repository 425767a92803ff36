-- Where tokens lie: a buffer in which an application holds something has a holder, and no place is empty or ends behind it.
use Rattle.std.proofs.Common.{◌≡◌, ℕ, zero, suc, ◌<◌, ◌≤◌, Bool, true, false, List, [], ◌∷◌, map, ap, sym, ◌∙◌, arith, ⊎_elim}
use Rattle.std.{specs.Prelude.{◌==◌, ◌↔◌, nat_lt, Contains, IsTrue}, proofs.lemmas.Bool.{cases_lt, lt-ltb, ltb-true, eq-eqb, Decides.{eqb_tells}}}
use Rattle.zr_kinds.specs.declared.place.Place.{Place}
use Rattle.area_layout.specs.Layout.{all_buffers, LiesIn}
use Rattle.board_face.specs.{Sides.{IsApp}, AppCalls.{HasHeld, HasLoan, HasSpare, IsLive}, Counts.{pool_count}, declared.views.parts.Filling.{Filling}}
use Rattle.board_face.{specs.declared.views.app.{LentPiece.{LentPiece}, AppSide.{AppSide}}, proofs.{ListLemmas.{eqb_same}, Tallies.{one_if, tally}}}
use Rattle.board_face.proofs.{Parts.{app_count, count-tally, pool_count-parts}, PlaceTallies.{in_buffer, app_places}, AppLemmas.{owns-without}}
use Rattle.board_face.proofs.LiesLemmas.{total-at, helds-at, loans-at, lies-by as place-lies}
use Rattle.plain_board.specs.{Stand.{Stand}, Returns.{loans_out}, Sound.{IsSound}}

-- ---- one among many

-- a list has a number where something in it shows the number
live-from : (b : ℕ) (xs : List LentPiece) → 0 < tally (λ l. l.place.buffer == b) xs → Contains (map (λ l. l.place.buffer) xs) b
live-from b [] some = absurd (omega arith)
live-from b (x ∷ xs) some =
    ⊎_elim
    (λ t. (0, omega arith, t.1))
    (λ t. let rest = live-from b xs (omega (arith, some, ap one_if t.0)) in (suc rest.0, omega (arith, rest.1), rest.2))
    (eqb_tells x.place.buffer b)

live-to : (b : ℕ) (xs : List LentPiece) → Contains (map (λ l. l.place.buffer) xs) b → 0 < tally (λ l. l.place.buffer == b) xs
live-to b [] (k, there, e) = absurd (omega arith)
live-to b (x ∷ xs) (zero, there, e) = omega (arith, ap one_if (eq-eqb x.place.buffer b e))
live-to b (x ∷ xs) (suc k, there, e) = omega (arith, live-to b xs (k, omega arith, e))

module _ (board : Stand) (a : ℕ) (x : AppSide) (sound : IsSound board) (here : IsApp board.apps a x) where
  -- an application has no more holders than there are
  pub part-le : (b : ℕ) → app_count b board.nic x ≤ pool_count b board.nic board.apps
  part-le b = omega (arith, pool_count-parts b board.nic board.apps, total-at (app_count b board.nic) board.apps a x here.there here.is)

  -- no buffer behind the area has one
  pub part-within : (b : ℕ) → 0 < app_count b board.nic x → b < all_buffers board.arrays.layout
  part-within b some =
      ⊎_elim (λ within. within) (λ past. absurd (omega (arith, part-le b, sound.counted.beyond b past, some)))
      (cases_lt b (all_buffers board.arrays.layout))

  -- where the place is one of its buffer's, it lies in the area and has a byte
  lies-by : (p : Place) → 0 < app_count p.buffer board.nic x
      → ((test : Place → Bool) → one_if (in_buffer p.buffer test p) ≤ app_places p.buffer test board.nic x)
      → LiesIn board.arrays.layout p × (0 < p.len)
  lies-by p held met =
      let layouts : board.nic.view.setting.layout ≡ board.arrays.layout = ap (λ s. s.layout) sound.set.card in
      rw (← layouts) (place-lies board.nic board.apps a x here p (sound.shown.places p.buffer)
      (λ past. sound.counted.beyond p.buffer (rw (← layouts) past)) held met)

  pub held-some : (p : Place) → HasHeld x.view p → 0 < app_count p.buffer board.nic x
  held-some p out = omega (arith, helds-at x.view.helds p (λ q. q.buffer == p.buffer) out, ap one_if (eqb_same p.buffer))

  pub held-lies : (p : Place) → HasHeld x.view p → LiesIn board.arrays.layout p × (0 < p.len)
  held-lies p out = lies-by p (held-some p out) (λ test. omega (arith, helds-at x.view.helds p (in_buffer p.buffer test) out))

  -- a loan out is one of the loans in its buffer
  pub loan-some : (p : Place) → HasLoan x.view p → 0 < loans_out p.buffer x
  loan-some p out = omega (
    arith,
    loans-at x.view.loans p (λ q. q.buffer == p.buffer) out,
    ap one_if (eqb_same p.buffer),
    count-tally (λ (l : LentPiece). l.place.buffer == p.buffer) x.view.loans,
  )

  pub loan-none : (p : Place) → HasLoan x.view p → x.view.loans ≡ [] → ⊥
  loan-none p out none = let there = (rw none at out).1 in omega arith

  loan-held : (b : ℕ) → 0 < loans_out b x → 0 < app_count b board.nic x
  loan-held b some = omega (arith, some, count-tally (λ (l : LentPiece). l.place.buffer == b) x.view.loans)

  pub loan-lies : (p : Place) → HasLoan x.view p → LiesIn board.arrays.layout p × (0 < p.len)
  loan-lies p out = lies-by p (loan-held p.buffer (loan-some p out)) (λ test. omega (arith, loans-at x.view.loans p (in_buffer p.buffer test) out))

  -- a spare's buffer is one of the area
  pub spare-some : (own : Filling) → HasSpare x.view own → 0 < app_count own.buffer board.nic x
  spare-some own out = omega (arith, owns-without own.buffer x.view own out, ap one_if (eqb_same own.buffer))

  pub spare-within : (own : Filling) → HasSpare x.view own → own.buffer < all_buffers board.arrays.layout
  spare-within own out = part-within own.buffer (spare-some own out)

  -- ---- whether a loan is out

  pub live-within : (b : ℕ) → IsLive x.view b → b < all_buffers board.arrays.layout
  live-within b live = part-within b (omega (arith, live-to b x.view.loans live))

  -- the count of loans says so
  pub live-if : (b : ℕ) → b < all_buffers board.arrays.layout → (n : ℕ) → n ≡ loans_out b x → IsTrue (nat_lt 0 n) ↔ IsLive x.view b
  live-if b within n is =
      let many = count-tally (λ (l : LentPiece). l.place.buffer == b) x.view.loans in
      (λ t. live-from b x.view.loans (omega (arith, ltb-true 0 n t)), λ live. lt-ltb 0 n (omega (arith, live-to b x.view.loans live)))

  pub live-none : (b : ℕ) (t : Bool) → t ≡ false → all_buffers board.arrays.layout ≤ b → IsTrue t ↔ IsLive x.view b
  live-none b t none past = (λ e. absurd (let wrong : true ≡ false = sym e ∙ none in cc), λ live. absurd (omega (arith, live-within b live)))
