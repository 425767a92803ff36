-- What the turn makes of the face's view it makes of the application's side of the board that is given back.
use Rattle.std.proofs.Common.{rules, ◌≡◌, ap}
use Rattle.app_worker.specs.TurnMakes.{TurnMakes, at_work}
use Rattle.plain_board.specs.{Board.{others_of, side_of}, declared.others.Others.{Others}}
use Rattle.replay_turns.proofs.Standing.{others_stand, view_stands}
use Rattle.replay_turns.proofs.board_turns.app_step.Goals as goal

pub returns-clause-makes : goal.returns-clause-makes
returns-clause-makes g c =
    let was = at_work c.args.st.now (side_of c.args.board c.args.app).view c.args.shelf.now in
    view_stands (λ v. TurnMakes g.T.Shelf.kept g.T.Shelf.counts was (at_work c.app_turn-turn.new.st v c.app_turn-turn.new.shelf) c.app_turn-turn.result)
    c.args.board c.app_turn-turn.new.face.board c.back.result c.args.app c.app_turn-turn.new.face.app
    (rw c.app-face.ensures at c.app_turn-turn.ensures.beside) c.back.ensures.board (rw c.app-face.ensures at c.app_turn-turn.ensures.makes)

pub returns-clause-told : goal.returns-clause-told
returns-clause-told g c why idle = search (rules, c.app_turn-turn.ensures.told why idle)

pub returns-clause-only : goal.returns-clause-only
returns-clause-only g c =
    let beside : others_of c.app_turn-turn.new.face.board c.app_turn-turn.new.face.app ≡ others_of c.args.board c.args.app =
    rw c.app-face.ensures at c.app_turn-turn.ensures.beside in
    rw c.back.ensures.board (record {
      card = ap (λ (o : Others). o.card) beside;
      others = others_stand c.args.board c.app_turn-turn.new.face.board c.args.app c.app_turn-turn.new.face.app beside;
      many = search (rules, beside);
      room = ap (λ (o : Others). o.room) beside;
    })
