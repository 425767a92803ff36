-- The first bytes were read and appended.
use Rattle.std.specs.{Prelude.{◌≡◌, ◌≢◌, ℕ, ◌-◌, ◌<◌, ◌≤◌, length}, Io.KnownBytes.{Keeps}}
use Rattle.zr_io.specs.Moved.{Gained, raised_by}
use Rattle.flow_queues.{specs.{declared.queues.Lending.{Lending}, Core.{IsIn, lent_piece, OnlyReads}}, proofs.ReadLemmas.{IsReadTo}}
use Rattle.zc_poll.specs.Standing.{StreamStands}
use Rattle.zc_poll.proofs.pouring.append_loan.Given as goal

abbrev pub invariant-loop-done : goal.invariant-loop-done
invariant-loop-done g l =
    (l.done ≤ l.len) × (l.len ≡ l.loan.len) × (length l.chunk ≡ 4096)
    × StreamStands l.stream.desk (g.F.AppFace.seen l.stream.face)
    × (l.stream.desk ≡ l.fn.stream.desk)
    × OnlyReads (g.F.AppFace.seen l.fn.stream.face) (g.F.AppFace.seen l.stream.face)
    × ((lending : Lending) → lending.loan ≡ l.loan → lending.note < length (g.F.AppFace.seen l.fn.stream.face).taken
    → IsIn (lent_piece (g.F.AppFace.seen l.fn.stream.face).taken lending) (g.F.AppFace.seen l.fn.stream.face).loans
    → Gained (g.T.Shelf.kept l.fn.shelf l.flow) (g.T.Shelf.kept l.shelf l.flow)
    (IsReadTo (g.F.AppFace.seen l.fn.stream.face).taken (g.F.AppFace.seen l.stream.face).reads lending l.done))
    × ((other : ℕ) → other ≢ l.flow → Keeps (g.T.Shelf.kept l.fn.shelf other) (g.T.Shelf.kept l.shelf other))
    × ((g.T.Shelf.counts l.shelf).faults ≡ (g.T.Shelf.counts l.fn.shelf).faults)
    × (g.F.AppFace.beside l.stream.face ≡ g.F.AppFace.beside l.fn.stream.face)
    × ((g.T.Shelf.counts l.shelf).appended ≡ raised_by (g.T.Shelf.counts l.fn.shelf).appended l.done)

abbrev pub decreases-loop-done : goal.decreases-loop-done
decreases-loop-done g l = l.len - l.done
