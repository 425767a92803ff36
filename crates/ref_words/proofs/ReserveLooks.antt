-- An application looks at the pool count of its reserve.
use Rattle.std.{proofs.{Common.{◌≡◌, ℕ, ◌<◌, Bool, true, false, List, set, refl, sym, ◌∙◌, ap, arith}, lemmas.Bool.{eqb-true}}, specs.Prelude.{◌==◌}}
use Rattle.area_layout.specs.Layout.{pool_buffers, all_buffers}
use Rattle.board_face.specs.{AppEvents.{reserve_of}, Sides.{IsApp}, declared.views.{parts.Setting.{Setting}, nic.NicSide.{NicSide}, app.AppSide.{AppSide}}}
use Rattle.ref_words.{specs.{Words.{Words, pool_word_of}, Rule.{RefRule}, PhaseRule.{PhaseRule}, PhaseSteps.{side_reserve_looked}}, proofs.AppLooks.{RefRule-looked}}
use Rattle.ref_words.proofs.{Phases.{phases-kept}, RingSteps.{rings-app}, SideSteps.{own-setting}, SlotSteps.{no-word}}

module _ (setting : Setting) (words : Words) (nic : NicSide) (apps : List AppSide) (app : AppSide) (rule : RefRule setting words nic apps)
    (was : PhaseRule setting words nic apps) (here : IsApp apps app.view.app app) where
  abbrev a : ℕ
  a = app.view.app

  inside : reserve_of app.view < all_buffers setting.layout
  inside =
      let pools = ap (λ s. pool_buffers s.layout) (own-setting setting nic apps a app rule.sides here) in
      omega (arith, pools, here.there, rule.sides.set.many)

  look : (free : Bool) → (free ≡ true → pool_word_of words (reserve_of app.view) ≡ 0)
      → RefRule setting words nic (set apps a (side_reserve_looked app free))
  look true unheld =
      let r = rule.sides.returns a app here in
      RefRule-looked setting words nic apps a app rule here (side_reserve_looked app true) refl r.settled r.quiet (λ e. e)
      (λ e. sym (rule.pool (reserve_of app.view) inside) ∙ unheld refl) words (no-word setting words rule.sizes)
      (rings-app setting words nic apps a app (side_reserve_looked app true) here refl refl refl refl refl refl refl rule.rings)
  look false unheld =
      let r = rule.sides.returns a app here in
      RefRule-looked setting words nic apps a app rule here (side_reserve_looked app false) refl r.settled r.quiet (λ e. e)
      (rule.sides.reserves a app here).unheld words (no-word setting words rule.sizes)
      (rings-app setting words nic apps a app (side_reserve_looked app false) here refl refl refl refl refl refl refl rule.rings)

  look-phases : (free : Bool) → PhaseRule setting words nic (set apps a (side_reserve_looked app free))
  look-phases true =
      phases-kept words.phases nic apps was a app here (side_reserve_looked app true) refl refl refl refl refl refl refl refl refl refl refl
  look-phases false =
      phases-kept words.phases nic apps was a app here (side_reserve_looked app false) refl refl refl refl refl refl refl refl refl refl refl

  pub RefRule-reserve : RefRule setting words nic (set apps a (side_reserve_looked app (pool_word_of words (reserve_of app.view) == 0)))
  RefRule-reserve = look (pool_word_of words (reserve_of app.view) == 0) (λ e. eqb-true _ 0 e)

  pub reserve_looked-phases : PhaseRule setting words nic (set apps a (side_reserve_looked app (pool_word_of words (reserve_of app.view) == 0)))
  reserve_looked-phases = look-phases (pool_word_of words (reserve_of app.view) == 0)
