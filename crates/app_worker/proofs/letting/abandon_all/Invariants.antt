-- Those that were taken out are abandoned.
use Rattle.std.specs.Prelude.{◌≡◌, length}
use Rattle.flow_queues.specs.Core.{total, lent_piece}
use Rattle.app_worker.proofs.LetGone.{AbandonsSome}
use Rattle.app_worker.proofs.letting.abandon_all.Given as goal

abbrev pub invariant-loop-lending : goal.invariant-loop-lending
invariant-loop-lending g l =
    AbandonsSome (g.F.AppFace.seen l.fn.face) (g.F.AppFace.seen l.face)
    (λ f. total (λ p. f (lent_piece (g.F.AppFace.seen l.fn.face).taken p.1)) l.fn.unread.items)
    (λ f. total (λ p. f (lent_piece (g.F.AppFace.seen l.fn.face).taken p.1)) l.unread.items)
    × (l.unread.capacity ≡ l.fn.unread.capacity)
    × (g.F.AppFace.beside l.face ≡ g.F.AppFace.beside l.fn.face)

abbrev pub decreases-loop-lending : goal.decreases-loop-lending
decreases-loop-lending g l = length l.unread.items
