-- Phases: how far the card and the applications have come.
use Rattle.std.specs.Prelude.{◌≡◌, ℕ, true, List, [], length, All}
use Rattle.board_face.specs.{NicCalls.{HasNoToken}, AppCalls.{CanLeave}, Holders.{on_way, owed_in}, declared.views.{nic.NicSide.{NicSide}, app.AppSide.{AppSide}}}

-- How far an application has come. Once it was told the end, the card has ended and no note is on its way. Once it
-- has scrubbed it has no loan and owes none. When it left it could leave.
pub record IsPhased (nic : NicSide) (app : AppSide) : Type 0 where
  pub ended : app.view.ended ≡ true → (nic.view.ended ≡ true) × (on_way nic app ≡ [])
  pub scrubbed : app.view.scrubbed ≡ true → (app.view.loans ≡ []) × ((b : ℕ) → length (owed_in b nic app) ≡ 0)
  pub left : app.view.left ≡ true → CanLeave app.view

pub record ArePhased (nic : NicSide) (apps : List AppSide) : Type 0 where
  pub card : nic.view.ended ≡ true → HasNoToken nic.view
  pub sides : All (IsPhased nic) apps
