-- Nothing moves.
use Rattle.std.proofs.Common.{refl}
use Rattle.plain_board.proofs.Still.{IsSound-ended}
use Rattle.plain_board.proofs.contents.Contents.end.Goals as goal

pub invariant_of-self : goal.invariant_of-self
invariant_of-self c = let none = rw (← c.self.view_is) at c.requires in rw c.note.ensures (IsSound-ended _ c.self.invariant.0 none, c.self.invariant.1)

pub returns-clause-only : goal.returns-clause-only
returns-clause-only c = record { apps = rw (← c.self.view_is) refl; sound = (invariant_of-self c).0 }
