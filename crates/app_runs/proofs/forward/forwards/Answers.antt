-- At first nothing was taken. Each turn keeps the board and the number of the application, so that at the end both seats are back.
use Rattle.std.proofs.Common.{◌≡◌, refl, sym, ap, ◌∙◌}
use Rattle.area_layout.specs.Layout.{Shape}
use Rattle.board_face.specs.{NicCalls.{apps_of}, Opened.{new_nic, new_app}}
use Rattle.word_board.specs.Board.{gave_role, new_desk}
use Rattle.app_runs.proofs.{Seats.{all-back}, forward.forwards.Goals.{After-new-work, in-Did, in-Idle}}
use Rattle.app_runs.proofs.forward.forwards.Goals as goal

-- the desk gave both seats, which are new
given : (g : _) (c : After-new-work g) → (c.seats.new.desk ≡ gave_role (gave_role (new_desk c.in_ok-board.board) 0) 1)
    × (c.in_ok-card.card.nic ≡ record { board = c.in_ok-board.board; side = new_nic c.in_ok-board.board.setting })
    × (c.in_ok-card.seat ≡ record { board = c.in_ok-board.board; side = new_app c.in_ok-board.board.setting 0 })
given g c =
    (c.in_ok-card.ensures.desk ∙ ap (λ d. gave_role (gave_role d 0) 1) c.in_ok-board.ensures.desk, c.in_ok-card.ensures.card, c.in_ok-card.ensures.app)

pub loop-turn-init : goal.loop-turn-init
loop-turn-init g c =
    let (desk, nic, seat) = given g (goal.at.loop-turn-init g c).After-new-work in
    let face : c.new-work.result.face ≡ c.in_ok-card.seat = c.new-work.ensures.parts.0 ∙ ap (λ s. s.face) c.new.ensures.stream in
    record {
      desk = refl;
      at = ap (λ s. s.board) nic ∙ sym (ap (λ d. d.board) desk);
      beside = ap (λ s. s.board) (face ∙ seat) ∙ sym (ap (λ d. d.board) desk);
      number = ap (λ s. s.side.view.app) (face ∙ seat);
      stands = (_, _, c.new-work.ensures.stands);
    }

pub back-requires-clause-desk : goal.back-requires-clause-desk
back-requires-clause-desk g c = sym c.loop-turn.invariant.at

pub back-requires-in-Ended-clause-desk : goal.back-requires-in-Ended-clause-desk
back-requires-in-Ended-clause-desk g c =
    ap (λ d. d.board) c.back.ensures.desk ∙ sym (ap (λ s. s.board) c.parts-seat.ensures.0 ∙ c.turn.ensures.seat.board ∙ c.loop-turn.invariant.beside)

pub finish-requires-clause-desk : goal.finish-requires-clause-desk
finish-requires-clause-desk g c =
    let (desk, _, _) = given g (goal.at.finish-requires-clause-desk g c).After-new-work in
    ap (λ d. d.board) c.back-in-Ended.ensures.desk ∙ ap (λ d. d.board) c.back.ensures.desk ∙ ap (λ d. d.board) (c.loop-turn.invariant.desk ∙ desk)

pub finish-requires-clause-back : goal.finish-requires-clause-back
finish-requires-clause-back g c =
    let (desk, _, _) = given g (goal.at.finish-requires-clause-back g c).After-new-work in
    let many : apps_of c.in_ok-board.board.setting ≡ 1 = ap (λ (l : Shape). l.reserves) c.in_ok-board.ensures.setting in
    let number : c.parts-seat.result.0.side.view.app ≡ 0 =
    ap (λ s. s.side.view.app) c.parts-seat.ensures.0 ∙ c.turn.ensures.seat.app ∙ c.loop-turn.invariant.number in
    rw (c.back-in-Ended.ensures.desk, c.back.ensures.desk, c.loop-turn.invariant.desk, desk) (all-back _ _ _ _ _ many number)

pub loop-turn-preserved : goal.loop-turn-preserved
loop-turn-preserved g c =
    let (first, losses, stands) = c.loop-turn.invariant.stands in
    record {
      desk = c.loop-turn.invariant.desk;
      at = elim c.match-turn.branch [
        | in-Did w ↦ rw w.card-is c.loop-turn.invariant.at
        | in-Idle w ↦ rw w.card-is (w.feed.ensures ∙ c.loop-turn.invariant.at)
      ];
      beside = c.turn.ensures.seat.board ∙ c.loop-turn.invariant.beside;
      number = c.turn.ensures.seat.app ∙ c.loop-turn.invariant.number;
      stands = elim c.match-turn.branch [
        | in-Did w ↦ (first, losses, w.in-Did.ensures.makes.gives first losses stands)
        | in-Idle w ↦ (first, losses, w.in-Idle.ensures.makes.gives first losses stands)
      ];
    }
