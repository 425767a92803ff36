-- What either half of a stream has out at its face.
use Rattle.std.specs.Prelude.{◌≡◌, true, false, [], ◌∷◌, map, Option, option_to_list}
use Rattle.zr_kinds.specs.declared.place.Place.{Place}
use Rattle.board_face.specs.declared.views.{parts.Filling.{Filling}, nic.NicView.{NicView}, app.AppView.{AppView}}

-- The card runs, and what it has out is this buffer, if one, and this piece, if one.
pub record IsSender (v : NicView) (own : Option Filling) (piece : Option Place) : Type 0 where
  pub running : v.ended ≡ false
  pub owns : v.owns ≡ option_to_list own
  pub pieces : map (λ p. p.place) v.pieces ≡ option_to_list piece

-- what the card has out stays, and that it runs
pub record IsSenderWith (old new : NicView) : Type 0 where
  pub setting : new.setting ≡ old.setting
  pub ended : new.ended ≡ old.ended
  pub owns : new.owns ≡ old.owns
  pub pieces : new.pieces ≡ old.pieces

-- The application may lend, and it has this loan out, if one, and nothing else.
pub record IsReceiver (v : AppView) (loan : Option Place) : Type 0 where
  pub here : v.left ≡ false
  pub settled : v.settled ≡ true
  pub counted : v.scrubbed ≡ false
  pub helds : v.helds ≡ []
  pub owns : v.owns ≡ []
  pub loans : map (λ l. l.place) v.loans ≡ option_to_list loan

-- The application may lend, and it has this held piece out and nothing else.
pub record HasOneHeld (v : AppView) (held : Place) : Type 0 where
  pub here : v.left ≡ false
  pub settled : v.settled ≡ true
  pub counted : v.scrubbed ≡ false
  pub helds : map (λ h. h.place) v.helds ≡ held ∷ []
  pub owns : v.owns ≡ []
  pub loans : v.loans ≡ []
