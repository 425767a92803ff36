-- The application of a board that was just opened for one.
use Rattle.std.proofs.Common.{◌≡◌, ℕ, refl, sym, ap}
use Rattle.area_layout.specs.Layout.{Shape}
use Rattle.board_face.specs.{AppCalls.{IsHere}, Opened.{new_app_view, new_apps}, declared.views.{parts.Setting.{Setting}, app.AppView.{AppView}}, Sides.{side_in}}
use Rattle.plain_board.specs.Board.{Board, new_board, side_of}
use Rattle.app_worker.specs.Kept.{IsFreshApp}

pub begun : (board : Board) (layout : Shape) (places : ℕ) → board ≡ new_board layout places 0 → 1 ≡ layout.reserves
    → (side_of board 0).view ≡ new_app_view (record { layout = layout; places = places }) 0
begun board layout places is one =
    rw is (ap (λ n. (side_in (new_apps (record { layout = layout; places = places }) 0 n) 0).view) (sym one))

pub fresh : (v : AppView) (setting : Setting) → v ≡ new_app_view setting 0 → IsFreshApp 0 v
fresh v setting is = rw is (record {
  app_is = refl;
  helds = refl;
  owns = refl;
  loans = refl;
  returned = refl;
  written = refl;
  taken = refl;
  spares = refl;
  ended = refl;
  counted = refl;
})

pub here : (v : AppView) (setting : Setting) → v ≡ new_app_view setting 0 → IsHere v
here v setting is = rw is refl
