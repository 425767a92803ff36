-- At the end both seats are back.
use Rattle.std.{proofs.{Common.{◌≡◌, ℕ, List, [], ◌∷◌, refl, sym, subst, ◌∙◌, arith}, lemmas.List.Elements.{Contains-push}}, specs.Prelude.{Contains}}
use Rattle.board_face.specs.{NicCalls.{apps_of}, declared.views.{parts.Setting.{Setting}, nic.NicSide.{NicSide}, app.AppSide.{AppSide}}}
use Rattle.word_board.specs.Desk.{AllAreBack}

-- the card and the only application are back
pub all-back : (setting : Setting) (nic : NicSide) (app : AppSide) (due dealt : List ℕ) → apps_of setting ≡ 1 → app.view.app ≡ 0
    → AllAreBack setting (record { nics = nic ∷ []; apps = app ∷ []; due = due; dealt = dealt })
all-back setting nic app due dealt one number = record {
  card = refl;
  apps = λ a less.
      let first : a ≡ 0 = omega (arith, less, one) in
      subst (Contains (app.view.app ∷ [])) (number ∙ sym first) (Contains-push [] app.view.app);
}
