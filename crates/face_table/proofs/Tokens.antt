-- Lists of tokens that are as long as what a hand has.
use Rattle.std.{proofs.{Common.{◌≡◌, ℕ, List, [], ◌∷◌, length, map, refl, Some, None, option_to_list}, lemmas.List.Elements.{All-head}}, specs.Prelude.{All}}
use Rattle.zr_kinds.{specs.declared.place.Place.{Place}, proofs.Lists.{map-none}}
use Rattle.board_face.{proofs.ListLemmas.{places-without_first, same_filling-refl}, specs.{Lists.{without, at_first}, Tokens.{same_filling}}}
use Rattle.board_face.specs.{Texts.{front_place, rest_place}, AppEvents.{cut, helds_without, loans_without, owns_without, own_bytes}}
use Rattle.board_face.specs.declared.views.{parts.Filling.{Filling}, app.{SpareOwn.{SpareOwn}, AppView.{AppView}}}
use Rattle.face_table.specs.{declared.app.AppHand.{AppHand}, AppHand.{IsAppHand}}

-- what is left once an application's token has ended
module _ (v : AppView) (hand : AppHand) (is : IsAppHand v hand) where
  pub helds-front : (held : Place) → hand.front ≡ Some held → map (λ h. h.place) (helds_without v held) ≡ option_to_list hand.rest
  helds-front held here = places-without_first (λ h. h.place) v.helds held (option_to_list hand.rest) (rw here at is.helds)

  pub helds-none : hand.front ≡ None → hand.rest ≡ None → v.helds ≡ []
  helds-none front rest = map-none (λ h. h.place) v.helds (rw (front, rest) at is.helds)

  pub helds-cut : (held : Place) (at : ℕ) → hand.front ≡ Some held → hand.rest ≡ None
      → map (λ h. h.place) (cut v held at).helds ≡ front_place held at ∷ rest_place held at ∷ []
  helds-cut held at front rest =
      let gone : helds_without v held ≡ [] = map-none (λ h. h.place) _ (rw rest at (helds-front held front)) in
      rw gone refl

  pub loans-loan : (loan : Place) → hand.loan ≡ Some loan → map (λ l. l.place) (loans_without v loan) ≡ []
  loans-loan loan here = places-without_first (λ l. l.place) v.loans loan [] (rw here at is.loans)

  pub loans-none : hand.loan ≡ None → v.loans ≡ []
  loans-none none = map-none (λ l. l.place) v.loans (rw none at is.loans)

  pub owns-none : hand.spare ≡ None → v.owns ≡ []
  owns-none none = map-none (λ s. s.own) v.owns (rw none at is.owns)

-- the only spare is the one that the hand has
spare_gone : (own : Filling) (owns : List SpareOwn) → map (λ s. s.own) owns ≡ own ∷ [] → without (λ s. same_filling own s.own) owns ≡ []
spare_gone own [] e = absurd (let none : ⊥ = cc in none)
spare_gone own (s ∷ owns) e =
    let here : s.own ≡ own = cc in
    let rest : map (λ (t : SpareOwn). t.own) owns ≡ [] = cc in
    rw (here, same_filling-refl own) (map-none (λ t. t.own) owns rest)

spare_bytes : (own : Filling) (owns : List SpareOwn) (n : ℕ) → map (λ s. s.own) owns ≡ own ∷ [] → All (λ s. length s.bytes ≡ n) owns
    → length (at_first (λ s. same_filling own s.own) (λ s. s.bytes) [] owns) ≡ n
spare_bytes own [] n e all = absurd (let none : ⊥ = cc in none)
spare_bytes own (s ∷ owns) n e all =
    let here : s.own ≡ own = cc in
    rw (here, same_filling-refl own) (All-head (λ (t : SpareOwn). length t.bytes ≡ n) s owns all)

-- and of the spare
module _ (v : AppView) (hand : AppHand) (own : Filling) (is : IsAppHand v hand) (here : hand.spare ≡ Some own) where
  pub owns-spare : owns_without v own ≡ []
  owns-spare = spare_gone own v.owns (rw here at is.owns)

  pub own_bytes-spare : length (own_bytes v own) ≡ hand.filled
  own_bytes-spare = spare_bytes own v.owns hand.filled (rw here at is.owns) is.filled
