-- The sides of a board that was just opened.
use Rattle.std.proofs.Common.{◌≡◌, ℕ, zero, suc, ◌+◌, ◌<◌, ap, ◌∙◌, arith}
use Rattle.area_layout.specs.Layout.{Shape}
use Rattle.board_face.specs.{Opened.{new_app, new_app_view, new_apps}, declared.views.{parts.Setting.{Setting}, app.AppSide.{AppSide}}, Sides.{side_in}}
use Rattle.plain_board.specs.Board.{Board, new_board, side_of}

side-new : (s : Setting) (first n a number : ℕ) → number ≡ first + a → a < n → side_in (new_apps s first n) a ≡ new_app s number
side-new s first zero a number is below = absurd (omega arith)
side-new s first (suc n) zero number is below = ap (λ k. new_app s k) (let e : first ≡ number = omega (arith, is) in e)
side-new s first (suc n) (suc a) number is below = side-new s (suc first) n a number (omega (arith, is)) (omega arith)

-- the side of an application of a board that was just opened
pub begun : (board : Board) (layout : Shape) (places room a : ℕ) → board ≡ new_board layout places room → a < layout.reserves
    → (side_of board a).view ≡ new_app_view (record { layout = layout; places = places }) a
begun board layout places room a is below =
    ap (λ (b : Board). (side_of b a).view) is
    ∙ ap (λ (side : AppSide). side.view) (side-new (record { layout = layout; places = places }) 0 layout.reserves a a (omega arith) below)
