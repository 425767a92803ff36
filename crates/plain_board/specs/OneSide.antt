-- What a call of one role leaves: a sound board, on which the other sides are as they were.
use Rattle.std.specs.Prelude.{◌≡◌, ℕ}
use Rattle.plain_board.specs.{Sound.{IsSound}, Stand.{Stand, side_of, others_of}}

-- Of what the roles have done and know only the card's side changed.
pub record OnlyCard (old new : Stand) : Type 0 where
  pub apps : new.apps ≡ old.apps
  pub sound : IsSound new

-- Only the application's view changed, and the layout is as it was.
pub record OnlyView (old new : Stand) (a : ℕ) : Type 0 where
  pub inside : (side_of new a).inside ≡ (side_of old a).inside
  pub others : others_of new a ≡ others_of old a
  pub layout : new.arrays.layout ≡ old.arrays.layout
  pub sound : IsSound new
