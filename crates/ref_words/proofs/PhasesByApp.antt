-- Phases stay told by each step of an application at counts.
use Rattle.std.proofs.{Common.{◌≡◌, ℕ, Bool, false, List, map, set, refl, sym, ◌∙◌, ap, ⊎_elim, arith, Contains, inl, inr}, lemmas.Bool.{cases_Bool, false≢true}}
use Rattle.zr_kinds.{specs.declared.place.Place.{Place}, proofs.Lists.{none-in}}
use Rattle.area_layout.specs.Layout.{pool_buffers}
use Rattle.board_face.specs.{AppCalls.{IsHere, HasHeld, HasLoan, HasSpare, MaySpare}, AppEvents.{cut, lent, lent_own, reserve_of}, OwnBuffers.{IsOwnBuffer}}
use Rattle.board_face.specs.{Sides.{app_at, IsApp}, Steps.{side_released, side_spare_begun, side_user_taken, side_owes_lowered}, declared.views.parts.Setting.{Setting}}
use Rattle.board_face.specs.declared.views.{parts.Filling.{Filling}, nic.NicSide.{NicSide}, app.AppSide.{AppSide}}
use Rattle.board_face.proofs.OwnBufferLemmas.{AppLiesInOwn-cut, AppLiesInOwn-released, AppLiesInOwn-lent, AppLiesInOwn-got_spare, AppLiesInOwn-lent_own}
use Rattle.ref_words.{specs.{Words.{Words}, Rule.{RefRule}, PhaseRule.{IsAppPhased, PhaseRule}}, proofs.Phases.{phases-mine, phases-here, phases-kept}}
use Rattle.ref_words.proofs.SideSteps.{own-setting}
use Rattle.ref_words.proofs.SpareTaking as spare

module _ (setting : Setting) (words : Words) (nic : NicSide) (apps : List AppSide) (rule : RefRule setting words nic apps)
    (was : PhaseRule setting words nic apps) (a : ℕ) (app : AppSide) (here : IsApp apps a app) where
  mine : IsAppPhased words.phases nic app
  mine = phases-mine words.phases nic apps was a app here

  held-here : (place : Place) → HasHeld app.view place → IsHere app.view
  held-here place out =
      ⊎_elim (λ over. absurd (none-in _ place out (ap (map (λ h. h.place)) (mine.left over).helds))) (λ stays. stays) (cases_Bool app.view.left)

  pub loan-here : (place : Place) → HasLoan app.view place → IsHere app.view
  loan-here place out =
      ⊎_elim (λ over. absurd (none-in _ place out (ap (map (λ l. l.place)) (mine.left over).loans))) (λ stays. stays) (cases_Bool app.view.left)

  pub spare-here : (own : Filling) → HasSpare app.view own → IsHere app.view
  spare-here own out =
      ⊎_elim (λ over. absurd (none-in _ own out (ap (map (λ s. s.own)) (mine.left over).spares))) (λ stays. stays) (cases_Bool app.view.left)

  -- ---- pool counts

  begun-phases : (b : ℕ) → IsHere app.view → IsOwnBuffer app.view b → PhaseRule setting words nic (set apps a (side_spare_begun app b))
  begun-phases b stays own =
      let lies = AppLiesInOwn-got_spare app.view b own mine.lies in
      phases-here words.phases nic apps was a app here (side_spare_begun app b) refl refl refl refl refl stays
      (assumption lies)

  pub picked-phases : (b : ℕ) → IsHere app.view → Contains app.inside.hands b → MaySpare app.view
      → PhaseRule setting words nic (set apps a (side_spare_begun app b))
  picked-phases b stays has due =
      let small = spare.small setting words nic apps a app b rule here due has in
      let pools = ap (λ s. pool_buffers s.layout) (own-setting setting nic apps a app rule.sides here ∙ sym rule.sides.set.card) in
      begun-phases b stays (inl (omega (arith, small, pools)))

  pub reserve-phases : IsHere app.view → PhaseRule setting words nic (set apps a (side_spare_begun app (reserve_of app.view)))
  reserve-phases stays = begun-phases (reserve_of app.view) stays (inr refl)

  pub cut-phases : (place : Place) (at : ℕ) → HasHeld app.view place → PhaseRule setting words nic (set apps a (app_at app (cut app.view place at)))
  cut-phases place at out =
      phases-here words.phases nic apps was a app here (app_at app (cut app.view place at)) refl refl refl refl refl (held-here place out)
      (AppLiesInOwn-cut app.view place at out mine.lies)

  pub released-phases : (place : Place) (last : Bool) → HasHeld app.view place → PhaseRule setting words nic (set apps a (side_released app place last))
  released-phases place last out =
      phases-here words.phases nic apps was a app here (side_released app place last) refl refl refl refl refl (held-here place out)
      (AppLiesInOwn-released app.view place mine.lies)

  pub owes_lowered-phases : (b : ℕ) (last : Bool) → PhaseRule setting words nic (set apps a (side_owes_lowered app b last))
  owes_lowered-phases b last =
      phases-kept words.phases nic apps was a app here (side_owes_lowered app b last) refl refl refl refl refl refl refl refl refl refl refl

  -- ---- user counts

  pub lent-phases : (place : Place) → HasHeld app.view place → PhaseRule setting words nic (set apps a (app_at app (lent app.view place)))
  lent-phases place out =
      phases-here words.phases nic apps was a app here (app_at app (lent app.view place)) refl refl refl refl refl (held-here place out)
      (AppLiesInOwn-lent app.view place out mine.lies)

  pub lent_own-phases : (own : Filling) → HasSpare app.view own → PhaseRule setting words nic (set apps a (app_at app (lent_own app.view own)))
  lent_own-phases own out =
      phases-here words.phases nic apps was a app here (app_at app (lent_own app.view own)) refl refl refl refl refl (spare-here own out)
      (AppLiesInOwn-lent_own app.view own out mine.lies)

  pub user_taken-phases : (b n : ℕ) → app.view.scrubbed ≡ false → PhaseRule setting words nic (set apps a (side_user_taken app b n))
  user_taken-phases b n counted =
      let lies = mine.lies in
      phases-here words.phases nic apps was a app here (side_user_taken app b n) refl refl refl refl refl
      (⊎_elim (λ over. absurd (false≢true (sym counted ∙ (mine.left over).scrubbed))) (λ stays. stays) (cases_Bool app.view.left))
      (assumption lies)
