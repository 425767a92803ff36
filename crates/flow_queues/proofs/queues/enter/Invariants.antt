-- What of the piece is there, and that the rest is out.
use Rattle.std.specs.Prelude.{◌≡◌, ◌+◌, ◌%◌, ◌^◌, ◌≤◌, List, Some, slice_get, true}
use Rattle.tcp_reorder.specs.Gaps.{origin}
use Rattle.board_face.specs.declared.views.app.TakenNote.{TakenNote}
use Rattle.flow_queues.specs.{Core.{held_piece, over_kept, short_bytes, total, IsOfNote, Each, held_len}, Pieces.{OnlyHelds, whole_piece, over_others}}
use Rattle.flow_queues.proofs.Entering.{IsLeft, left_len}
use Rattle.flow_queues.proofs.queues.enter.Given as goal

abbrev pub invariant-loop-left : goal.invariant-loop-left
invariant-loop-left g l =
    (l.seq ≡ (l.note.seq + l.note.at) % 2 ^ 32) × (l.number ≡ l.fn.number)
    × OnlyHelds (g.F.AppFace.seen l.fn.face) (g.F.AppFace.seen l.face) (λ f. f (held_piece (whole_piece l.fn.number l.fn.held)) + over_kept f l.fn.queue)
    (λ f. over_others f l.left + over_kept f l.queue)
    × (l.queue.base ≡ l.fn.queue.base) × (l.queue.popped ≡ l.fn.queue.popped)
    × IsLeft (g.F.AppFace.seen l.face) l.fn.queue l.queue l.number l.seq l.note.place.len (origin l.fn.queue l.note.seq + l.note.at) l.left
    × (g.F.AppFace.beside l.face ≡ g.F.AppFace.beside l.fn.face)
    × (total held_len (g.F.AppFace.seen l.face).helds ≤ total held_len (g.F.AppFace.seen l.fn.face).helds)
    × (short_bytes l.queue ≡ short_bytes l.fn.queue)
    × ((taken : List TakenNote) (t : TakenNote) → slice_get taken l.fn.number ≡ Some t → t.note.split ≡ true
    → Each (λ k. IsOfNote taken k.piece) l.fn.queue.kept → Each (λ k. IsOfNote taken k.piece) l.queue.kept)

abbrev pub decreases-loop-left : goal.decreases-loop-left
decreases-loop-left g l = left_len l.left
