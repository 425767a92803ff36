-- What the card's hand says of its face.
use Rattle.std.specs.Prelude.{◌≡◌, map, option_to_list}
use Rattle.board_face.specs.declared.views.nic.NicView.{NicView}
use Rattle.face_table.specs.declared.card.CardHand.{CardHand}

-- The hand has the tokens that the card has out, and knows whether the card has ended.
pub record IsCardHand (v : NicView) (hand : CardHand) : Type 0 where
  pub owns : v.owns ≡ option_to_list hand.own
  pub pieces : map (λ p. p.place) v.pieces ≡ option_to_list hand.piece
  pub ended : v.ended ≡ hand.ended
