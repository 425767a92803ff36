-- The card is over, and it was the first to come back.
use Rattle.std.{proofs.Common.{◌≡◌, ◌++◌, ◌∷◌, [], ◌≤◌, length, map, refl, ap, sym, ◌∙◌, subst}, specs.Prelude.{is_none}}
use Rattle.ref_words.specs.{Over.{CardIsOver}, Seated.{both_sides, card_seat_view}, declared.view.View.{View}}
use Rattle.word_board.{specs.{Board.{HasDealt, TheNic}, Desk.{AreOver, AreServed, cache_back}}, proofs.AtDesk.{HasDealt-both, AreOver-card, cache-back}}
use Rattle.word_board.proofs.nic_seat.NicSeat.back.Goals as goal

pub look_served-requires-clause-over : goal.look_served-requires-clause-over
look_served-requires-clause-over c =
    let desk = c.desk.inside in
    let mine = c.self.inside.card.side in
    let view : c.join_seats.new.desk.me.0 ≡ both_sides desk.seat.me.0 (card_seat_view mine) = ap (λ me. me.0) c.join_seats.ensures.desk
    ∙ ap (both_sides desk.seat.me.0) (ap (λ me. me.0) c.card.invariant.1 ∙ ap (λ (v : TheNic). card_seat_view v.side) c.card.view_is) in
    subst AreOver (sym view) (AreOver-card desk.seat.me.0 mine c.desk.invariant.5 (record {
      ended = ap (λ s. s.side.view.ended) c.self.view_is ∙ c.requires.ended;
      hands = c.self.invariant.1.rests.hands;
    }))

pub invariant_of-desk : goal.invariant_of-desk
invariant_of-desk c =
    let desk = c.desk.inside in
    let was = c.desk.invariant in
    let seat = c.card.inside.seat in
    let mine = c.self.inside.card.side in
    let joined = c.join_seats.ensures in
    let looked = c.look_served.ensures in
    let card : seat.me.0 ≡ card_seat_view mine = ap (λ me. me.0) c.card.invariant.1 ∙ ap (λ (v : TheNic). card_seat_view v.side) c.card.view_is in
    let before : c.join_seats.new.desk.me.0 ≡ both_sides desk.seat.me.0 (card_seat_view mine) = ap (λ me. me.0) joined.desk
    ∙ ap (both_sides desk.seat.me.0) card in
    let view : c.look_served.new.desk.me.0 ≡ both_sides desk.seat.me.0 (card_seat_view mine) = ap (λ me. me.0) looked.same.me ∙ before in
    let keeps = c.self.invariant.1 in
    let given = desk.nic_given ∷ map is_none desk.hands.items in
    let over : CardIsOver mine = record {
      ended = ap (λ s. s.side.view.ended) c.self.view_is ∙ c.requires.ended;
      hands = keeps.rests.hands;
    } in
    let one : length (desk.seat.me.0.nics ++ mine ∷ []) ≤ 1 = subst (λ (v : View). length v.nics ≤ 1) before looked.one in (
      looked.same.number ∙ (joined.number ∙ was.0),
      ap (λ me. me.1) looked.same.me ∙ (ap (λ me. me.1) joined.desk ∙ was.1),
      subst (HasDealt given) (sym view) (HasDealt-both given desk.seat.me.0 (card_seat_view mine) refl was.2),
      was.3,
      was.4,
      subst AreOver (sym view) (AreOver-card desk.seat.me.0 mine was.5 over),
      keeps.cache ∙ (cache-back desk.seat.me.0.nics mine one ∙ sym (ap (λ (v : View). cache_back v.nics) view)),
      was.7,
      was.8,
      was.9,
    )

pub returns-clause-served : goal.returns-clause-served
returns-clause-served c = subst AreServed (sym (ap (λ me. me.0) c.look_served.ensures.same.me)) c.look_served.ensures.served
