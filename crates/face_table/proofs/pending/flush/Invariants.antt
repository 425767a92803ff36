use Rattle.std.{proofs.Common.{◌≡◌}, specs.VecDeque.{deque_len}}
use Rattle.board_face.specs.NicCalls.{IsOpen}
use Rattle.face_table.specs.Flush.{IsReady, Sends}
use Rattle.face_table.proofs.pending.flush.Given as goal

abbrev pub invariant-loop-next : goal.invariant-loop-next
invariant-loop-next g l = record {
  open_still : IsOpen (g.F.NicFace.seen l.face);
  ready : IsReady (g.F.NicFace.seen l.face) l.pending.items;
  sends : Sends (g.F.NicFace.seen l.initial.face) (g.F.NicFace.seen l.face) l.initial.pending.items l.pending.items;
  beside : g.F.NicFace.beside l.face ≡ g.F.NicFace.beside l.initial.face;
}

abbrev pub decreases-loop-next : goal.decreases-loop-next
decreases-loop-next g l = deque_len l.pending
