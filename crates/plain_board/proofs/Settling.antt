-- An application asks whether a raw entry is on its way.
use Rattle.std.proofs.Common.{◌≡◌, ℕ, zero, suc, ◌+◌, ◌<◌, Bool, true, false, List, [], ◌∷◌, length, set, get_or, refl, sym, ◌∙◌, arith, ⊎_elim}
use Rattle.std.{specs.Prelude.{All, ◌==◌, not, nat_lt, count_by, if◌then◌else◌}, proofs.lemmas.List.Elements.{All-nil, All-cons, All-head, All-tail}}
use Rattle.std.proofs.lemmas.Bool.{cases_lt, lt-ltb, eqb-true}
use Rattle.board_face.specs.{Sides.{IsApp, app_at}, Looks.{AppTold}, AppEvents.{app_saw, app_gist, came_to_rest}, declared.views.app.AppLook.TheVariants.{RawOnItsWay}}
use Rattle.board_face.{specs.declared.views.app.{WrittenEntry.{WrittenEntry}, AppView.{AppView}, AppSide.{AppSide}}, proofs.LookLemmas.{AppTold-none, AppTold-one}}
use Rattle.board_face.proofs.{Parts.{count-tally}, Tallies.{one_if}}
use Rattle.plain_board.specs.{Stand.{Stand, others_of}, Returns.{IsOfLoan, is_raw, reach_of, entries_on_way}, Seen.{IsSeenBy}, Sound.{IsSound}}
use Rattle.plain_board.proofs.{AppFrames.{was-phased}, AppTold.{IsSound-told, IsSound-looked}}

-- ---- how far back the last raw entry lies

-- of the entries behind the first, `r` don't stand behind the last raw one
abbrev pub reach_with : Bool → ℕ → ℕ
reach_with of_loan r = if nat_lt 0 r then suc r else if of_loan then 0 else 1

rest-case : (c of_loan : Bool) (r : ℕ) → nat_lt 0 r ≡ c → (if c then suc r else if of_loan then 0 else 1) ≡ 0 → (r ≡ 0) × (of_loan ≡ true)
rest-case true of_loan r is e = absurd (omega (arith, e))
rest-case false true r is e = (
  ⊎_elim (λ some. absurd (let wrong : true ≡ false = sym (lt-ltb 0 r some) ∙ is in cc)) (λ none. omega arith)
      (cases_lt 0 r),
  refl,
)
rest-case false false r is e = absurd (omega (arith, e))

pub reach-rest : (ws : List WrittenEntry) → reach_of ws ≡ 0 → All IsOfLoan ws
reach-rest [] e = All-nil IsOfLoan
reach-rest (w ∷ ws) e = let both = rest-case (nat_lt 0 (reach_of ws)) w.of_loan (reach_of ws) refl e in All-cons IsOfLoan w ws both.1 (reach-rest ws both.0)

pub reach-none : (ws : List WrittenEntry) → All IsOfLoan ws → reach_of ws ≡ 0
reach-none [] all = refl
reach-none (w ∷ ws) all = rw (reach-none ws (All-tail IsOfLoan w ws all), All-head IsOfLoan w ws all) refl

some-case : (of_loan : Bool) (r n : ℕ) → (0 < r → 0 < n) → 0 < reach_with of_loan r → 0 < one_if (not of_loan) + n
some-case false r n h e = omega arith
some-case true zero n h e = absurd (omega (arith, e))
some-case true (suc r) n h e = omega (arith, h (omega arith))

pub reach-some : (ws : List WrittenEntry) → 0 < reach_of ws → 0 < count_by is_raw ws
reach-some [] e = absurd (omega (arith, e))
reach-some (w ∷ ws) e = omega (
  arith,
  some-case w.of_loan (reach_of ws) (count_by is_raw ws) (reach-some ws) e,
  count-tally is_raw (w ∷ ws),
  count-tally is_raw ws,
)

-- ---- the answer

pub is-some : (n : ℕ) → (n == 0) ≡ false → 0 < n
is-some zero e = absurd (let wrong : true ≡ false = e in cc)
is-some (suc n) e = omega arith

abbrev pub settled_if : AppView → Bool → AppView
settled_if v settled = if settled then came_to_rest v else app_saw v RawOnItsWay

module _ (board : Stand) (a : ℕ) (x : AppSide) (sound : IsSound board) (here : IsApp board.apps a x) where
  pub IsSound-settled : (settled : Bool) → settled ≡ (get_or board.arrays.raw a 0 == 0)
      → IsSound (record { arrays = board.arrays; nic = board.nic; apps = set board.apps a (app_at x (settled_if x.view settled)) })
  IsSound-settled true is =
      let was = sound.returns a x here in
      let none = sym (sound.booked.raw a x here) ∙ eqb-true (get_or board.arrays.raw a 0) 0 (sym is) in
      IsSound-told board a x sound here true x.view.quiet x.view.ended x.view.looks (λ e. reach-rest _ none) was.quiet
      (was-phased board a x x sound here).ended (λ e. e)
  IsSound-settled false is = IsSound-looked board a x RawOnItsWay sound here

  pub told-settled : (settled : Bool) → settled ≡ (get_or board.arrays.raw a 0 == 0)
      → AppTold (λ look. IsSeenBy look (app_gist x.view) (others_of board a)) x.view (settled_if x.view settled)
  told-settled true is = AppTold-none (λ look. IsSeenBy look (app_gist x.view) (others_of board a)) x.view (came_to_rest x.view) refl
  told-settled false is =
      AppTold-one (λ look. IsSeenBy look (app_gist x.view) (others_of board a)) x.view (app_saw x.view RawOnItsWay) RawOnItsWay refl
      (reach-some (entries_on_way board.nic x) (omega (arith, sound.booked.raw a x here, is-some (get_or board.arrays.raw a 0) (sym is))))

  pub still-settled : x.view.settled ≡ true → get_or board.arrays.raw a 0 ≡ 0
  still-settled e = sound.booked.raw a x here ∙ reach-none _ ((sound.returns a x here).settled e)

pub there-raw : (board : Stand) (a : ℕ) → IsSound board → a < board.arrays.layout.reserves → a < length board.arrays.raw
there-raw board a sound within = omega (arith, sound.sizes.raw)
