-- It goes on with its part of the run, or has left.
use Rattle.std.proofs.Common.{Some, refl, sym, subst}
use Rattle.replay_threads.{specs.{declared.seated.Pouring.{Pouring}, Seated.{PoursSince, poll_moment}}, proofs.Pourings.{pours, pours-out, stood}}
use Rattle.run_account.specs.Ways.{DidPoll, PollTurns}
use Rattle.replay_threads.proofs.seated.pour.Goals as goal

pub turn-requires : goal.turn-requires
turn-requires g c = record {
  stands = stood (PoursSince g.T.Shelf.kept g.T.Shelf.counts c.args.own.now.stream) c.args.own.now.stream.face.side.view c.args.own.now.poured c.requires.here
      c.requires.fits.side;
}

pub returns-in-Did : goal.returns-in-Did
returns-in-Did g c =
    let turn = c.turn.ensures in
    let now : Pouring _ = record c.args.own.now { stream = c.turn.new.self } in
    let does : PollTurns (poll_moment c.args.own.now) (poll_moment now) = (c.turn.result, c.requires.here, rw c.in-Did.is c.requires.here, turn.does) in
    record {
      goes = pours g.T.Shelf.kept g.T.Shelf.counts c.args.own.now now c.requires.here c.requires.fits.side turn.beside turn.same does c.requires.here
          c.in-Did.ensures.gives;
      takes = (does, λ _. subst DidPoll (sym c.in-Did.is) tt);
    }

pub returns-in-Idle : goal.returns-in-Idle
returns-in-Idle g c =
    let turn = c.turn.ensures in
    let now : Pouring _ = record c.args.own.now { stream = c.turn.new.self } in
    let does : PollTurns (poll_moment c.args.own.now) (poll_moment now) = (c.turn.result, c.requires.here, rw c.in-Idle.is c.requires.here, turn.does) in
    record {
      goes = pours g.T.Shelf.kept g.T.Shelf.counts c.args.own.now now c.requires.here c.requires.fits.side turn.beside turn.same does c.requires.here
          c.in-Idle.ensures.gives;
      takes = (does, λ is. subst DidPoll (sym c.in-Idle.is) (c.rests_on.ensures is));
    }

pub returns-in-Ended : goal.returns-in-Ended
returns-in-Ended g c =
    let turn = c.turn.ensures in
    let now : Pouring _ = record { stream = c.turn.new.self; poured = Some c.in-Ended.poured } in
    let does : PollTurns (poll_moment c.args.own.now) (poll_moment now) = (c.turn.result, c.requires.here, rw c.in-Ended.is refl, turn.does) in
    record {
      goes = pours-out g.T.Shelf.kept g.T.Shelf.counts c.args.own.now now c.requires.here c.requires.fits.side turn.beside turn.same does c.in-Ended.poured refl
          c.in-Ended.ensures.gives;
      takes = (does, λ _. subst DidPoll (sym c.in-Ended.is) tt);
    }
