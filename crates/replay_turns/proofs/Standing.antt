-- Where what stands beside an application is as before, so are the sides of the other applications.
use Rattle.std.proofs.Common.{◌≡◌, ◌≢◌, ℕ, sym, ◌∙◌, ap, subst, get_or-set_other}
use Rattle.board_face.specs.{Sides.{side_in}, Blank.{blank_app}, declared.views.app.AppView.{AppView}}
use Rattle.plain_board.specs.{Board.{Board, side_of, others_of}, declared.others.Others.{Others}}

pub others_stand : (old new : Board) (a now : ℕ) → others_of new now ≡ others_of old a → (b : ℕ) → b ≢ a → side_of new b ≡ side_of old b
others_stand old new a now same b other =
    let number : now ≡ a = ap (λ (o : Others). o.number) same in
    let not_now : b ≢ now = λ is. other (is ∙ number) in
    let apps = ap (λ (o : Others). side_in o.apps b) same in
    sym (get_or-set_other new.apps now b blank_app blank_app not_now) ∙ apps ∙ get_or-set_other old.apps a b blank_app blank_app other

-- and what holds of the view of the face holds of the application's on the board that was given back
pub view_stands : (P : AppView → Type 0) (old new back : Board) (a now : ℕ) → others_of new now ≡ others_of old a → back ≡ new
    → P (side_of new now).view → P (side_of back a).view
view_stands P old new back a now same is holds =
    let number : now ≡ a = ap (λ (o : Others). o.number) same in
    subst (λ (b : Board). P (side_of b a).view) (sym is) (subst (λ n. P (side_of new n).view) number holds)
