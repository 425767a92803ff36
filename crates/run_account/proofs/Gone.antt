-- Once the card was closed and every application has left, nobody goes on.
use Rattle.std.{proofs.{Common.{◌≡◌, ℕ, List, length, true, Some, ap, subst, ◌∙◌, arith}, lemmas.List.{get_or_default}}, specs.{Prelude.{All}, List.{slice_get}}}
use Rattle.std.proofs.lemmas.Option.{slice_get_within, get_or_from_slice_get}
use Rattle.board_face.specs.{Blank.{blank_app}, NicCalls.{apps_of}, Sides.{HaveOneSetting, IsApp, side_in}, declared.views.parts.Setting.{Setting}}
use Rattle.board_face.specs.declared.views.{nic.NicSide.{NicSide}, app.AppSide.{AppSide}}
use Rattle.card_feed.{specs.{Plan.{layout_of}, declared.plan.Plan.{Plan}}, proofs.OfFlow.{there}}
use Rattle.run_account.specs.{Running.{RolesFit, IsRunOver}, declared.run.{Run.{Run}, Worker.{Worker}}}

-- it holds of each, so of that at a place
pub all-at : {A : Type 0} (P : A → Type 0) (xs : List A) (i : ℕ) (x : A) → All P xs → slice_get xs i ≡ Some x → P x
all-at P xs i x all at = subst P (get_or_from_slice_get xs i x x at) (all i x (slice_get_within xs i x at))

-- the side of an application is that at its place
pub side-at : (apps : List AppSide) (a : ℕ) (app : AppSide) → IsApp apps a app → side_in apps a ≡ app
side-at apps a app here = get_or_default apps a blank_app app here.there ∙ here.is

-- at a board that was opened by the plan there are as many sides as ports
pub many-sides : (plan : Plan) (nic : NicSide) (apps : List AppSide) → HaveOneSetting nic apps
    → nic.view.setting ≡ record { layout = layout_of plan; places = plan.options.ring } → length apps ≡ length plan.ports.items
many-sides plan nic apps one opened = one.many ∙ ap (λ (s : Setting). apps_of s) opened

module _ (nic : NicSide) (apps : List AppSide) (run : Run) (fits : RolesFit nic apps run) (over : IsRunOver run) where
  pub worker-left : (a : ℕ) (w : Worker) → slice_get run.workers.items a ≡ Some w → w.left ≡ true
  worker-left a w at = all-at (λ (u : Worker). u.left ≡ true) run.workers.items a w over.apps at

  pub card-ended : nic.view.ended ≡ true
  card-ended = fits.ready.fits.ended over.card

  pub all-left : length apps ≡ length run.workers.items → All (λ (app : AppSide). app.view.left ≡ true) apps
  all-left many a d within =
      let (w, at) = there run.workers.items a (omega (arith, within, many)) in
      subst (λ (app : AppSide). app.view.left ≡ true) (get_or_default apps a blank_app d within) ((fits.worker a w at).gone (worker-left a w at)).0
