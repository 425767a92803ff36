-- The first `done` bytes of the payload have entered.
use Rattle.std.specs.Prelude.{◌≡◌, ◌+◌, ◌-◌, ◌≤◌, ℕ, List, Some, slice_get, false}
use Rattle.tcp_reorder.specs.Entering.{HasEntered}
use Rattle.board_face.specs.declared.views.app.{HeldPiece.{HeldPiece}, TakenNote.{TakenNote}}
use Rattle.flow_queues.specs.{Marks.{marks_from}, Core.{over_kept, short_bytes, marks_of_waiting, IsOfNote, Each}}
use Rattle.flow_queues.proofs.short.enter_short.Given as goal

abbrev pub invariant-loop-done : goal.invariant-loop-done
invariant-loop-done l = record {
  total : l.total ≡ l.note.total;
  entered : HasEntered marks_of_waiting l.fn.queue l.queue l.note.seq l.total 0 (marks_from l.number 0 l.total) l.done;
  within : l.done ≤ l.total;
  over : (f : HeldPiece → ℕ) → over_kept f l.queue ≡ over_kept f l.fn.queue;
  short : short_bytes l.queue ≤ short_bytes l.fn.queue + l.done;
  notes : (taken : List TakenNote) (t : TakenNote) → slice_get taken l.number ≡ Some t → t.note.split ≡ false → t.bytes ≡ l.payload
      → Each (λ k. IsOfNote taken k.piece) l.fn.queue.kept → Each (λ k. IsOfNote taken k.piece) l.queue.kept;
}

abbrev pub decreases-loop-done : goal.decreases-loop-done
decreases-loop-done l = l.total - l.done
