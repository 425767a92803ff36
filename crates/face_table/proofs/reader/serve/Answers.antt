use Rattle.std.proofs.Common.{◌∙◌, arith, length-append}
use Rattle.face_table.proofs.Serving.{Serves-CameBack, Serves-took_linear, Serves-told_end, CameBack-turn_abandoned, CameBack-turn_gave}
use Rattle.face_table.proofs.reader.serve.Goals.{in-Note+in_default, in-Linear}
use Rattle.face_table.proofs.reader.serve.Goals as goal

pub returns-in-Err-clause-serves : goal.returns-in-Err-clause-serves
returns-in-Err-clause-serves g c =
    let inv = c.loop.invariant in
    let took = c.in-Note.ensures.view in
    let back = CameBack-turn_abandoned _ _ _ _ _ _ _ inv.nothing took c.lend-loan.ensures.view c.lend-loan.ensures.place c.read_whole.ensures.reads _ _ _
    c.in-Err.ensures.view.0 c.in-Err.ensures.view.1 c.abandon.ensures.view in
    Serves-CameBack _ _ _ _ took.fields inv.serves back

pub returns-in-Ended-clause-serves : goal.returns-in-Ended-clause-serves
returns-in-Ended-clause-serves g c = rw c.in-Ended.ensures.view.event (Serves-told_end _ _ c.loop.invariant.serves)

pub loop-preserved : goal.loop-preserved
loop-preserved g c =
    let inv = c.loop.invariant in
    elim c.match-poll.branch [
      | in-Note+in_default w ↦
          let took = w.in-Note.ensures.view in
          let back = CameBack-turn_gave _ _ _ _ _ _ _ inv.nothing took w.lend-loan.ensures.view w.lend-loan.ensures.place w.read_whole.ensures.reads _
          w.in_default.ensures.view in
          rw w.face-is (record {
            here = back.here ∙ inv.here;
            can = record { settled = back.settled ∙ inv.can.settled; counted = back.scrubbed ∙ inv.can.counted };
            nothing = back.nothing;
            serves = Serves-CameBack _ _ _ _ took.fields inv.serves back;
            many = rw back.taken (simp length-append (omega (arith, inv.many)));
            beside = cc;
          })
      | in-Linear w ↦
          let took = w.in-Linear.ensures.view in
          rw (w.face-is, took.event) (record {
            here = inv.here;
            can = record { settled = inv.can.settled; counted = inv.can.counted };
            nothing = record { helds = inv.nothing.helds; loans = inv.nothing.loans; spares = inv.nothing.spares };
            serves = Serves-took_linear _ _ _ _ took.fields inv.serves;
            many = simp length-append (omega (arith, inv.many));
            beside = cc;
          })
    ]
