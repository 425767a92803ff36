-- A spare is filled with 256 bytes at most, as each call that fills one says. So the loan of one has no more.
use Rattle.std.specs.Prelude.{◌≡◌, ℕ, ◌≤◌, List, length, All, slice_set}
use Rattle.board_face.specs.{NicCalls.{apps_of}, Opened.{new_apps}, Sides.{IsApp}, declared.views.{parts.Setting.{Setting as Shared}, app.AppSide.{AppSide}}}

abbrev pub HasShortFills : AppSide → Type 0
HasShortFills app = All (λ s. length s.bytes ≤ 256) app.view.owns

abbrev pub AreShort : List AppSide → Type 0
AreShort apps = All HasShortFills apps

-- It is so of a board that was just opened, and stays so where no spare is taken, filled or lent.
pub record FillsLaw : Type 0 where
  pub opened : (setting : Shared) → AreShort (new_apps setting 0 (apps_of setting))
  pub same : (apps : List AppSide) (a : ℕ) (app now : AppSide) → IsApp apps a app → now.view.owns ≡ app.view.owns → AreShort apps
      → AreShort (slice_set apps a now)
