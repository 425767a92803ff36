-- The first flows keep nothing any more.
use Rattle.std.specs.Prelude.{◌≡◌, ◌-◌, ◌≤◌, ℕ, map, take, length}
use Rattle.board_face.specs.declared.views.app.HeldPiece.{HeldPiece}
use Rattle.flow_queues.specs.{Core.{LieApart, total, over_kept, short_bytes}, Flows.{facts_of}}
use Rattle.flow_queues.proofs.letting.release_all.Given as goal

abbrev pub invariant-loop-i : goal.invariant-loop-i
invariant-loop-i g l =
    (g.F.AppFace.seen l.face ≡ record (g.F.AppFace.seen l.fn.face) { helds = (g.F.AppFace.seen l.face).helds })
    × LieApart (g.F.AppFace.seen l.face)
    × ((f : HeldPiece → ℕ) → total f (g.F.AppFace.seen l.face).helds ≡ total (λ flow. over_kept f flow.queue) l.flows.items)
    × (total (λ flow. over_kept (λ _. 1) flow.queue) (take l.i l.flows.items) ≡ 0)
    × (l.i ≤ length l.flows.items)
    × (map facts_of l.flows.items ≡ map facts_of l.fn.flows.items)
    × (g.F.AppFace.beside l.face ≡ g.F.AppFace.beside l.fn.face)
    × (total (λ flow. short_bytes flow.queue) (take l.i l.flows.items) ≡ 0)

abbrev pub decreases-loop-i : goal.decreases-loop-i
decreases-loop-i g l = length l.flows.items - l.i
