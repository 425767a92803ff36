use Rattle.std.proofs.Common.{rules}
use Rattle.zc_forward.proofs.AllGone.{gave-then}
use Rattle.zc_forward.proofs.stopping.halt.Goals as goal

pub returns-clause-halts : goal.returns-clause-halts
returns-clause-halts g c = record {
  still = search rules;
  gave_up = (
    g.F.AppFace.seen c.give_up.new.stream.face,
    gave-then (g.F.AppFace.seen c.args.stream.now.face) (g.F.AppFace.seen c.give_up_kept.new.stream.face) (g.F.AppFace.seen c.give_up.new.stream.face)
        c.give_up_kept.ensures.gave_up c.give_up.ensures.gave_up,
    c.give_up.ensures.none.0,
    c.stop.ensures.view,
  );
  board = search rules;
}
