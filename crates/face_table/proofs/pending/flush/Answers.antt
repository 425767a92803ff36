use Rattle.face_table.proofs.Sending.{IsReady-sent, Sends-sent}
use Rattle.board_face.proofs.LookLemmas.{NicRose-later}
use Rattle.face_table.proofs.pending.flush.Goals as goal

pub loop-next-preserved : goal.loop-next-preserved
loop-next-preserved g c =
    let inv = c.loop-next.invariant in
    let items = c.in-Some.ensures.items in
    record {
      open_still = rw c.in_default-send.ensures.view inv.open_still;
      ready = rw c.in_default-send.ensures.view (IsReady-sent _ _ _ (rw items at inv.ready));
      sends = rw c.in_default-send.ensures.view (Sends-sent _ _ _ _ _ (rw items at inv.sends));
      beside = cc;
    }

pub returns-in-Err-clause-stopped : goal.returns-in-Err-clause-stopped
returns-in-Err-clause-stopped g c = NicRose-later _ _ _ _ c.loop-next.invariant.sends.looks c.in-Err.ensures.view.1.rose

pub returns-in-Err-clause-told : goal.returns-in-Err-clause-told
returns-in-Err-clause-told g c = rw (c.in-Err.ensures.beside, c.in-Err.ensures.view.1.event) (c.in-Err.ensures.told _ c.in-Err.ensures.view.1.rose)
