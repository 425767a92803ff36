-- Those that were taken out are abandoned.
use Rattle.std.specs.Prelude.{◌≡◌, length}
use Rattle.flow_queues.specs.Core.{over_read}
use Rattle.app_worker.proofs.LetGone.{AbandonsSome}
use Rattle.app_worker.proofs.letting.abandon_leaked.Given as goal

abbrev pub invariant-loop-lending : goal.invariant-loop-lending
invariant-loop-lending g l =
    AbandonsSome (g.F.AppFace.seen l.fn.face) (g.F.AppFace.seen l.face) (λ f. over_read (g.F.AppFace.seen l.fn.face).taken f l.fn.leaked.items)
    (λ f. over_read (g.F.AppFace.seen l.fn.face).taken f l.leaked.items)
    × (l.leaked.capacity ≡ l.fn.leaked.capacity)
    × (g.F.AppFace.beside l.face ≡ g.F.AppFace.beside l.fn.face)

abbrev pub decreases-loop-lending : goal.decreases-loop-lending
decreases-loop-lending g l = length l.leaked.items
