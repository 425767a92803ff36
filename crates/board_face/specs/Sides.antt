-- The sides of a board after an event of a view, and the applications in the order of their numbers.
use Rattle.std.specs.Prelude.{◌≡◌, ℕ, suc, ◌<◌, List, [], ◌∷◌, length, slice_index_or, slice_set, All, ⊤}
use Rattle.board_face.specs.{NicCalls.{apps_of}, Blank.{blank_app}, declared.views.{nic.{NicView.{NicView}, NicSide.{NicSide}}, app.AppView.{AppView}}}
use Rattle.board_face.specs.declared.views.app.AppSide.{AppSide}

-- the card's side with another view
abbrev pub nic_at : NicSide → NicView → NicSide
nic_at nic view = record nic { view = view }

-- an application's side with another view
abbrev pub app_at : AppSide → AppView → AppSide
app_at app view = record app { view = view }

-- the applications, one of which has another view
abbrev pub apps_at : List AppSide → ℕ → AppSide → AppView → List AppSide
apps_at apps a app view = slice_set apps a (app_at app view)

-- All sides are of one board, and there is one for each application.
pub record HaveOneSetting (nic : NicSide) (apps : List AppSide) : Type 0 where
  pub same : All (λ app. app.view.setting ≡ nic.view.setting) apps
  pub many : length apps ≡ apps_of nic.view.setting

-- this is the application with this number
pub record IsApp (apps : List AppSide) (a : ℕ) (app : AppSide) : Type 0 where
  pub there : a < length apps
  pub is : slice_index_or apps a app ≡ app
  pub number : app.view.app ≡ a

-- the side of an application, by its place
abbrev pub side_in : List AppSide → ℕ → AppSide
side_in apps a = slice_index_or apps a blank_app

-- the applications have these numbers in order, from the first on
abbrev pub AreNumbered : ℕ → List AppSide → Type 0
AreNumbered first [] = ⊤
AreNumbered first (app ∷ apps) = (app.view.app ≡ first) × AreNumbered (suc first) apps
