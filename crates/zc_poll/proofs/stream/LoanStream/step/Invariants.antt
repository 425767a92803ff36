-- As many notes were taken as turns were made, and nothing is in order.
use Rattle.std.specs.Prelude.{◌≡◌, ◌-◌, ◌≤◌, false}
use Rattle.zc_poll.specs.{Standing.{NoneInOrder}, DeskOf.{desk_of}, Steps.{PassedNotes}}
use Rattle.zc_poll.proofs.stream.LoanStream.step.Given as goal

abbrev pub invariant-loop-left : goal.invariant-loop-left
invariant-loop-left g l =
    PassedNotes ((g.F.AppFace.seen l.fn.self.face).setting.places - l.left) l.fn.self.desk (desk_of l.self-inside.state) (g.F.AppFace.seen l.fn.self.face)
    (g.F.AppFace.seen l.self-inside.face)
    × NoneInOrder (desk_of l.self-inside.state)
    × (l.left ≤ (g.F.AppFace.seen l.fn.self.face).setting.places)
    × (l.fn.self.desk.ended ≡ false)
    × (g.F.AppFace.beside l.self-inside.face ≡ g.F.AppFace.beside l.fn.self.face)

abbrev pub decreases-loop-left : goal.decreases-loop-left
decreases-loop-left g l = l.left
