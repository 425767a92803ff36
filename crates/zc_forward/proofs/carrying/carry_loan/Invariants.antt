-- The first bytes were read and carried.
use Rattle.std.specs.{Prelude.{◌≡◌, ◌≢◌, ℕ, ◌-◌, ◌<◌, ◌≤◌, length}, Io.KnownBytes.{Keeps}}
use Rattle.zr_io.specs.Moved.{Gained, raised_by}
use Rattle.flow_queues.{specs.{declared.queues.Lending.{Lending}, Core.{IsIn, lent_piece, OnlyReads}}, proofs.ReadLemmas.{IsReadTo}}
use Rattle.zc_poll.specs.Standing.{StreamStands}
use Rattle.zc_forward.proofs.carrying.carry_loan.Given as goal

abbrev pub invariant-loop-done : goal.invariant-loop-done
invariant-loop-done g l =
    (l.done ≤ l.len) × (l.len ≡ l.sent.loan.len) × (length l.chunk ≡ 4096)
    × StreamStands l.stream.desk (g.F.AppFace.seen l.stream.face)
    × (l.stream.desk ≡ l.fn.stream.desk)
    × OnlyReads (g.F.AppFace.seen l.fn.stream.face) (g.F.AppFace.seen l.stream.face)
    × ((lending : Lending) → lending.loan ≡ l.sent.loan → lending.note < length (g.F.AppFace.seen l.fn.stream.face).taken
    → IsIn (lent_piece (g.F.AppFace.seen l.fn.stream.face).taken lending) (g.F.AppFace.seen l.fn.stream.face).loans
    → Gained (g.C.Carrier.got l.fn.carrier l.sent.flow) (g.C.Carrier.got l.carrier l.sent.flow)
    (IsReadTo (g.F.AppFace.seen l.fn.stream.face).taken (g.F.AppFace.seen l.stream.face).reads lending l.done))
    × ((other : ℕ) → other ≢ l.sent.flow → Keeps (g.C.Carrier.got l.fn.carrier other) (g.C.Carrier.got l.carrier other))
    × ((g.C.Carrier.counts l.carrier).faults ≡ (g.C.Carrier.counts l.fn.carrier).faults)
    × (g.F.AppFace.beside l.stream.face ≡ g.F.AppFace.beside l.fn.stream.face)
    × (g.C.Carrier.tags l.carrier ≡ g.C.Carrier.tags l.fn.carrier)
    × (g.C.Carrier.pace l.carrier ≡ g.C.Carrier.pace l.fn.carrier)
    × ((g.C.Carrier.counts l.carrier).appended ≡ raised_by (g.C.Carrier.counts l.fn.carrier).appended l.done)

abbrev pub decreases-loop-done : goal.decreases-loop-done
decreases-loop-done g l = l.len - l.done
