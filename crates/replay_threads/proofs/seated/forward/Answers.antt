-- It goes on with its part of the run, or has left.
use Rattle.std.proofs.Common.{Some, refl, sym, subst}
use Rattle.replay_threads.{specs.{declared.seated.Forwarding.{Forwarding}, Seated.{ForwardsSince, forward_moment}}, proofs.Pourings.{forwards, forwards-out, stood}}
use Rattle.zc_forward.proofs.Delays.{keeps-delay}
use Rattle.run_account.specs.Ways.{DidPoll, ForwardTurns}
use Rattle.replay_threads.proofs.seated.forward.Goals as goal

pub turn-requires : goal.turn-requires
turn-requires g c = record {
  stands = stood (ForwardsSince g.T.Shelf.kept g.T.Shelf.counts c.args.own.now.forward) c.args.own.now.forward.face.side.view c.args.own.now.poured c.requires.here
      c.requires.fits.side;
}

pub returns-in-Did : goal.returns-in-Did
returns-in-Did g c =
    let turn = c.turn.ensures in
    let now : Forwarding _ = record c.args.own.now { forward = c.turn.new.self } in
    let was = c.args.own.now.forward in
    let later = c.turn.new.self in
    let keeps = keeps-delay was.work later.work was.desk later.desk was.face.side.view later.face.side.view was.carrier later.carrier turn.asks in
    let does : ForwardTurns (forward_moment c.args.own.now) (forward_moment now) = (c.turn.result, c.requires.here, rw c.in-Did.is c.requires.here, turn.makes.does, keeps) in
    record {
      goes = forwards g.T.Shelf.kept g.T.Shelf.counts c.args.own.now now c.requires.here c.requires.fits.side turn.seat.board turn.seat.app does c.requires.here
          c.in-Did.ensures.makes.gives;
      takes = (does, λ _. subst DidPoll (sym c.in-Did.is) tt);
    }

pub returns-in-Idle : goal.returns-in-Idle
returns-in-Idle g c =
    let turn = c.turn.ensures in
    let now : Forwarding _ = record c.args.own.now { forward = c.turn.new.self } in
    let was = c.args.own.now.forward in
    let later = c.turn.new.self in
    let keeps = keeps-delay was.work later.work was.desk later.desk was.face.side.view later.face.side.view was.carrier later.carrier turn.asks in
    let does : ForwardTurns (forward_moment c.args.own.now) (forward_moment now) = (c.turn.result, c.requires.here, rw c.in-Idle.is c.requires.here, turn.makes.does, keeps) in
    record {
      goes = forwards g.T.Shelf.kept g.T.Shelf.counts c.args.own.now now c.requires.here c.requires.fits.side turn.seat.board turn.seat.app does c.requires.here
          c.in-Idle.ensures.makes.gives;
      takes = (does, λ is. subst DidPoll (sym c.in-Idle.is) (c.rests_on.ensures is));
    }

pub returns-in-Ended : goal.returns-in-Ended
returns-in-Ended g c =
    let turn = c.turn.ensures in
    let now : Forwarding _ = record { forward = c.turn.new.self; poured = Some c.in-Ended.poured } in
    let was = c.args.own.now.forward in
    let later = c.turn.new.self in
    let keeps = keeps-delay was.work later.work was.desk later.desk was.face.side.view later.face.side.view was.carrier later.carrier turn.asks in
    let does : ForwardTurns (forward_moment c.args.own.now) (forward_moment now) = (c.turn.result, c.requires.here, rw c.in-Ended.is refl, turn.makes.does, keeps) in
    record {
      goes = forwards-out g.T.Shelf.kept g.T.Shelf.counts c.args.own.now now c.requires.here c.requires.fits.side turn.seat.board turn.seat.app does c.in-Ended.poured refl
          c.in-Ended.ensures.makes.gives;
      takes = (does, λ _. subst DidPoll (sym c.in-Ended.is) tt);
    }
