-- Some of the loans were given up, and the others are out.
use Rattle.std.proofs.Common.{◌≡◌, ℕ, length}
use Rattle.zr_kinds.specs.declared.place.Place.{Place}
use Rattle.board_face.specs.declared.views.app.LentPiece.{LentPiece}
use Rattle.flow_queues.specs.Core.{total}
use Rattle.zc_poll.specs.Standing.{StreamStands}
use Rattle.zc_forward.specs.{Sending.{of_sent}, GivenUp.{GaveUp}}
use Rattle.zc_forward.proofs.carrying.give_up.Given as goal

abbrev pub invariant-loop-sent : goal.invariant-loop-sent
invariant-loop-sent g l =
    StreamStands l.stream.desk (g.F.AppFace.seen l.stream.face)
    × (l.stream.desk ≡ l.fn.stream.desk)
    × GaveUp (g.F.AppFace.seen l.fn.stream.face) (g.F.AppFace.seen l.stream.face)
    × ((f : Place → ℕ) → total (λ (p : LentPiece). f p.place) (g.F.AppFace.seen l.stream.face).loans ≡ of_sent f l.out.items)
    × (g.F.AppFace.beside l.stream.face ≡ g.F.AppFace.beside l.fn.stream.face)

abbrev pub decreases-loop-sent : goal.decreases-loop-sent
decreases-loop-sent g l = length l.out.items
