-- The board of the run and its desk are in the card, and the board may be finished.
use Rattle.std.proofs.Common.{refl, sym, ◌∙◌}
use Rattle.top_call.proofs.top.play_beside.Goals as goal

pub returns-clause-plays : goal.returns-clause-plays
returns-clause-plays g c =
    let ran = c.in_ok-outcome.ensures.ran in
    record {
      ran = record {
        at = ran.beside.at;
        ahead = ran.beside.ahead;
        still = λ some. absurd (some refl);
        nic = _;
        apps = _;
        ran = ran.beside.ran;
        sweeps = λ some. absurd (some refl);
        sides = (refl, refl, ran.beside.ran.accounts.opened ∙ sym ran.setting);
        over = (ran.desk_is, ran.back);
        uncounted = c.uncounted.ensures;
        way = tt;
        played = tt;
      };
      recorded = tt;
      lacks = tt;
    }
