-- Those that were taken out are given up.
use Rattle.std.specs.Prelude.{◌≡◌, length}
use Rattle.flow_queues.specs.{Core.{over_kept}, Pieces.{OnlyHelds}}
use Rattle.flow_queues.proofs.letting.release_kept.Given as goal

abbrev pub invariant-loop-waiting : goal.invariant-loop-waiting
invariant-loop-waiting g l =
    OnlyHelds (g.F.AppFace.seen l.fn.face) (g.F.AppFace.seen l.face) (λ f. over_kept f l.fn.queue) (λ f. over_kept f l.queue)
    × (l.queue.base ≡ l.fn.queue.base)
    × (g.F.AppFace.beside l.face ≡ g.F.AppFace.beside l.fn.face)

abbrev pub decreases-loop-waiting : goal.decreases-loop-waiting
decreases-loop-waiting g l = length l.queue.kept
