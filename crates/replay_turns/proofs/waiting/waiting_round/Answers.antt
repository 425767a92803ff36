-- A round in which nothing is read, and one in which a record is.
use Rattle.std.{proofs.Common.{ℕ, ◌<◌, ◌≤◌, true, false, Bool, arith}, specs.Prelude.{MatchBool}}
use Rattle.replay_turns.proofs.Turns.{plays-through}
use Rattle.replay_turns.proofs.waiting.waiting_round.Goals as goal

-- behind what brought the run no less far
behind : (first was now : ℕ) (Stuck : Type 0) (did : Bool) → first ≤ was → MatchBool did (was < now) Stuck → MatchBool did (first < now) Stuck
behind first was now Stuck true later rises = omega (arith, later, rises)
behind first was now Stuck false later stuck = stuck

pub returns : goal.returns
returns g c =
    let settled = c.settle-board.ensures in
    let round = c.play_round.ensures in
    record {
      plays = plays-through _ _ _ settled.plays round.plays.plays;
      by = behind _ _ _ _ c.play_round.result.1 settled.later round.answer;
    }
