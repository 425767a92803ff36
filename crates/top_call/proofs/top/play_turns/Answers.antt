-- The board of the run is in the card, and its log tells of it.
use Rattle.std.proofs.Common.{rules, refl}
use Rattle.plain_board.{specs.{Board.{stand_of}, Finish.{IsBoardOver}}, proofs.Ending.{boards-end_well}}
use Rattle.top_call.proofs.Recording.{board-records}
use Rattle.top_call.proofs.top.play_turns.Goals as goal

pub returns-clause-plays : goal.returns-clause-plays
returns-clause-plays g c =
    let by_text = c.in_ok-outcome.ensures.ran in
    let ran = by_text.alone in
    let over : IsBoardOver (stand_of c.in_ok-outcome.board) = record { card = ran.ran.over.card; apps = ran.ran.over.left } in
    record {
      ran = record {
        at = c.run_turns.new.source;
        ahead = search rules;
        still = λ _. refl;
        nic = _;
        apps = _;
        ran = ran.ran;
        sweeps = λ _. by_text.swept;
        sides = (refl, refl);
        over = over;
        uncounted = (boards-end_well _ ran.leaves.sound over).counts;
        way = (ran.leaves.sound, ran.leaves.recorded);
        played = by_text.follows;
      };
      recorded = board-records _ _ c.args.plan.now _ _ c.requires.plan
          ran.ran ran.leaves.sound ran.leaves.recorded ran.leaves.room;
      lacks = tt;
    }
