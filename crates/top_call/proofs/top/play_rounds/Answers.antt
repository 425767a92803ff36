-- The board of the run is in the card, and its log tells of it.
use Rattle.std.proofs.Common.{rules, refl}
use Rattle.run_account.specs.Views.{ends_at, streams}
use Rattle.plain_board.{specs.{Board.{stand_of}, Finish.{IsBoardOver}}, proofs.Ending.{boards-end_well}}
use Rattle.top_call.proofs.{Alone.{lacks-alone}, Recording.{board-records}}
use Rattle.top_call.proofs.top.play_rounds.Goals as goal

pub returns-clause-plays : goal.returns-clause-plays
returns-clause-plays g c =
    let ran = c.in_ok-outcome.ensures.ran in
    let over : IsBoardOver (stand_of c.in_ok-outcome.plain) = record { card = ran.ran.over.card; apps = ran.ran.over.left } in
    record {
      ran = record {
        at = c.run_rounds.new.source;
        ahead = search rules;
        still = λ _. refl;
        nic = _;
        apps = _;
        ran = ran.ran;
        sweeps = λ some. absurd (some refl);
        sides = (refl, refl);
        over = over;
        uncounted = (boards-end_well _ ran.leaves.sound over).counts;
        way = (ran.leaves.sound, ran.leaves.recorded);
        played = c.requires.turns_only;
      };
      recorded = board-records _ _ c.args.plan.now _ _ c.requires.plan
          ran.ran ran.leaves.sound ran.leaves.recorded ran.leaves.room;
      lacks = tt;
    }

pub returns-in_err-outcome-clause-plays : goal.returns-in_err-outcome-clause-plays
returns-in_err-outcome-clause-plays g c = record {
  ran = search rules;
  recorded = search rules;
  lacks = lacks-alone (ends_at (streams g.S.Source.left g.S.Source.faults g.T.Shelf.kept g.T.Shelf.counts) c.args.source.now c.args.shelves.now.items)
      (ends_at _ c.run_rounds.new.source c.run_rounds.new.shelves.items) c.args.plan.now _ c.args.card.now (search rules);
}
