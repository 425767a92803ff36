-- Nothing moves.
use Rattle.std.proofs.Common.{refl}
use Rattle.plain_board.proofs.Still.{IsSound-asked}
use Rattle.plain_board.proofs.contents.Contents.left.Goals as goal

pub invariant_of-self : goal.invariant_of-self
invariant_of-self c = rw c.note.ensures (IsSound-asked _ c.args.app _ c.self.invariant.0, c.self.invariant.1)

pub returns-clause-only : goal.returns-clause-only
returns-clause-only c = record { apps = rw (← c.self.view_is) refl; sound = (invariant_of-self c).0 }
