-- Where holdings lie: those of the card in pool buffers, and those of an application in pool buffers or in its own reserve.
-- So nobody has anything in the reserve of another.
use Rattle.std.specs.Prelude.{◌≡◌, ℕ, ◌<◌, ◌⊎◌, true, List, All}
use Rattle.area_layout.specs.Layout.{pool_buffers}
use Rattle.board_face.specs.{AppEvents.{reserve_of}, declared.views.{nic.{NicView.{NicView}, NicSide.{NicSide}}, app.{AppView.{AppView}, AppSide.{AppSide}}}}

-- a buffer of the pool, or the application's own reserve
abbrev pub IsOwnBuffer : AppView → ℕ → Type 0
IsOwnBuffer v buffer = (buffer < pool_buffers v.setting.layout) ⊎ (buffer ≡ reserve_of v)

-- The card's pieces lie in pool buffers, and so does that of each split note.
pub record CardLiesInPool (v : NicView) : Type 0 where
  pub pieces : All (λ p. p.place.buffer < pool_buffers v.setting.layout) v.pieces
  pub sent : All (λ s. s.note.split ≡ true → s.note.place.buffer < pool_buffers v.setting.layout) v.sent

-- What an application holds lies in pool buffers. Its spares, and its loans that are out, given back or abandoned, lie in
-- these or in its own reserve.
pub record AppLiesInOwn (v : AppView) : Type 0 where
  pub helds : All (λ h. h.place.buffer < pool_buffers v.setting.layout) v.helds
  pub spares : All (λ s. IsOwnBuffer v s.own.buffer) v.owns
  pub loans : All (λ l. IsOwnBuffer v l.place.buffer) v.loans
  pub returned : All (λ l. IsOwnBuffer v l.place.buffer) v.returned

pub record LieInOwn (nic : NicSide) (apps : List AppSide) : Type 0 where
  pub card : CardLiesInPool nic.view
  pub sides : All (λ app. AppLiesInOwn app.view) apps
