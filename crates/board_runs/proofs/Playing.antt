-- Plays of a board in tests: what stands between two steps.
use Rattle.std.{proofs.{Common.{◌≡◌, ℕ, zero, suc, refl, sym, ◌∙◌, ap, ⊎_elim}, lemmas.Bool.{cases_eq}}, specs.Prelude.{slice_index_or, slice_set, ◌≢◌}}
use Rattle.std.proofs.lemmas.List.{get_or-set_other}
use Rattle.board_face.specs.{declared.views.parts.Setting.{Setting}, Blank.{blank_app}, Sides.{side_in}}
use Rattle.board_parts.specs.Opened.{new_apps}
use Rattle.plain_board.specs.Board.{Board, side_of, others_of}
use Rattle.board_runs.specs.Played.{IsIdleApp, IsIdleBoard}

pub new_apps-idle : (setting : Setting) (first n a : ℕ) → IsIdleApp (side_in (new_apps setting first n) a).view
new_apps-idle setting first zero a = record { nothing = record { helds = refl; loans = refl; spares = refl }; here = refl; counted = refl }
new_apps-idle setting first (suc n) zero = record { nothing = record { helds = refl; loans = refl; spares = refl }; here = refl; counted = refl }
new_apps-idle setting first (suc n) (suc a) = new_apps-idle setting (suc first) n a

-- what one application does leaves the others idle, and the card as it was
pub IsIdleBoard-app : (old new : Board) (a b : ℕ) → others_of new b ≡ others_of old a → IsIdleBoard old → IsIdleApp (side_of new b).view → IsIdleBoard new
IsIdleBoard-app old new a b beside was one =
    let card : new.nic ≡ old.nic = ap (λ o. o.card) beside in
    let number : b ≡ a = ap (λ o. o.number) beside in
    record {
      card = rw card was.card;
      going = rw card was.going;
      idle = λ k. ⊎_elim
          (λ same. rw same one)
          (λ other.
          let others : k ≢ a = λ e. other (e ∙ sym number) in
          let apps : slice_set new.apps b blank_app ≡ slice_set old.apps a blank_app = ap (λ o. o.apps) beside in
          let there : side_of new k ≡ side_of old k =
          sym (get_or-set_other new.apps b k blank_app blank_app other) ∙ ap (λ xs. slice_index_or xs k blank_app) apps
          ∙ get_or-set_other old.apps a k blank_app blank_app others in
          rw there (was.idle k))
          (cases_eq k b);
    }
