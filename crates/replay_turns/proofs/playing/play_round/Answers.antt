-- Each turn goes on, and is told of.
use Rattle.std.proofs.Common.{◌≡◌, length, refl, subst, arith}
use Rattle.run_account.specs.Views.{streams}
use Rattle.replay_turns.{specs.{Following.{Follows, round_of}, Running.{moment_at}}, proofs.{Following.{follows-app}, Turns.{plays-through}, Rounds.{begins, turns, ends}, Unread.{plays-none}}}
use Rattle.replay_turns.proofs.playing.play_round.Goals as goal

pub loop-app-init : goal.loop-app-init
loop-app-init g c = (
  plays-none _ c.step-board.ensures.plays.plays.fits,
  (_, c.step-board.ensures.plays.by, refl),
  begins c.args.board c.step-board.result.0 c.args.run.now c.step-board.new.run c.step-board.result.1 c.step-board.ensures.answer,
)

pub loop-app-preserved : goal.loop-app-preserved
loop-app-preserved g c =
    let round = c.loop-app.invariant in (
      plays-through _ _ _ round.0 c.step-next.ensures.plays.plays,
      follows-app c.loop-app.app _ _ _ round.1 c.step-next.ensures.plays.by,
      turns c.args.board c.loop-app.board c.step-next.result.0 c.args.run.now c.loop-app.run c.step-next.new.run c.loop-app.did c.step-next.result.1
          c.loop-app.app (length c.loop-app.shelves) round.0.fits round.2 c.step-next.ensures.answer,
    )

pub returns : goal.returns
returns g c =
    let m = streams g.S.Source.left g.S.Source.faults g.T.Shelf.kept g.T.Shelf.counts in
    let first = c.step-board.ensures.plays.plays in
    let all : c.loop-app.app ≡ length c.args.run.now.workers.items =
    omega (arith, c.loop-app-test.false, c.loop-app.auto.app-end, c.len-apps.ensures, c.args.run.now.workers.ok) in
    let round = c.loop-app.invariant in
    record {
      plays = record {
        plays = plays-through _ _ _ first round.0;
        by = subst (λ n. Follows (round_of n) (moment_at m c.args.source.now c.args.shelves.now c.args.board c.args.run.now)
            (moment_at m c.loop-app.source c.loop-app.shelves c.loop-app.board c.loop-app.run)) all round.1;
      };
      answer = ends c.args.board c.loop-app.board c.args.run.now c.loop-app.run c.loop-app.did c.loop-app.app round.2
          (let before = first.workers in let later = round.0.workers in
          omega (arith, c.loop-app-test.false, c.len-apps.ensures, c.args.run.now.workers.ok, before, later));
    }
