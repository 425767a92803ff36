-- The application is over.
use Rattle.std.{proofs.{Common.{◌≡◌, ◌∷◌, map, refl, ap, sym, ◌∙◌, subst}, lemmas.List.{append-nil}}, specs.Prelude.{is_none}}
use Rattle.ref_words.specs.{Over.{AppIsOver}, Seated.{both_sides, app_seat_view}, declared.view.View.{View}}
use Rattle.word_board.{specs.{Board.{HasDealt, TheApp}, Desk.{AreOver, AreServed, cache_back}}, proofs.AtDesk.{HasDealt-both, AreOver-app}}
use Rattle.word_board.proofs.app_seat.AppSeat.back.Goals as goal

pub look_served-requires-clause-over : goal.look_served-requires-clause-over
look_served-requires-clause-over c =
    let desk = c.desk.inside in
    let mine = c.self.inside.app.side in
    let view : c.join_seats.new.desk.me.0 ≡ both_sides desk.seat.me.0 (app_seat_view mine) = ap (λ me. me.0) c.join_seats.ensures.desk
    ∙ ap (both_sides desk.seat.me.0) (ap (λ me. me.0) c.app.invariant.1 ∙ ap (λ (v : TheApp). app_seat_view v.side) c.app.view_is) in
    subst AreOver (sym view) (AreOver-app desk.seat.me.0 mine c.desk.invariant.5 (record {
      left = ap (λ s. s.side.view.left) c.self.view_is ∙ c.requires.left;
      hands = c.self.invariant.rests.hands;
      lowered = c.self.invariant.rests.owes;
    }))

pub invariant_of-desk : goal.invariant_of-desk
invariant_of-desk c =
    let desk = c.desk.inside in
    let was = c.desk.invariant in
    let mine = c.self.inside.app.side in
    let joined = c.join_seats.ensures in
    let looked = c.look_served.ensures in
    let view : c.look_served.new.desk.me.0 ≡ both_sides desk.seat.me.0 (app_seat_view mine) = ap (λ me. me.0) looked.same.me
    ∙ (ap (λ me. me.0) joined.desk ∙ ap (both_sides desk.seat.me.0)
    (ap (λ me. me.0) c.app.invariant.1 ∙ ap (λ (v : TheApp). app_seat_view v.side) c.app.view_is)) in
    let keeps = c.self.invariant in
    let given = desk.nic_given ∷ map is_none desk.hands.items in
    let over : AppIsOver mine = record {
      left = ap (λ s. s.side.view.left) c.self.view_is ∙ c.requires.left;
      hands = keeps.rests.hands;
      lowered = keeps.rests.owes;
    } in (
      looked.same.number ∙ (joined.number ∙ was.0),
      ap (λ me. me.1) looked.same.me ∙ (ap (λ me. me.1) joined.desk ∙ was.1),
      subst (HasDealt given) (sym view) (HasDealt-both given desk.seat.me.0 (app_seat_view mine) refl was.2),
      was.3,
      was.4,
      subst AreOver (sym view) (AreOver-app desk.seat.me.0 mine was.5 over),
      was.6 ∙ sym (ap (λ (v : View). cache_back v.nics) view ∙ ap cache_back (append-nil desk.seat.me.0.nics)),
      was.7,
      was.8,
      was.9,
    )

pub returns-clause-served : goal.returns-clause-served
returns-clause-served c = subst AreServed (sym (ap (λ me. me.0) c.look_served.ensures.same.me)) c.look_served.ensures.served
