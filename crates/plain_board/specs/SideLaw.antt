-- A call of an application, as a board tells it: what becomes of the application's side, and that no other side changes.
use Rattle.std.specs.Prelude.{◌≡◌, ℕ, ◌<◌, length, slice_set}
use Rattle.board_face.specs.{Blank.{blank_app}, Laws.{AllSides}, Sides.{side_in}, declared.views.app.AppSide.{AppSide}}

abbrev pub OneSideLaw : Type 0
OneSideLaw =
    (old new : AllSides) (a : ℕ) (now : AppSide) → new.nic ≡ old.nic → slice_set new.apps a blank_app ≡ slice_set old.apps a blank_app
    → a < length new.apps → side_in new.apps a ≡ now → new ≡ record { nic = old.nic; apps = slice_set old.apps a now }
