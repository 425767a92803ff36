-- No more changes than that the application left.
use Rattle.std.proofs.Common.{refl}
use Rattle.plain_board.proofs.{AppFrames.{here-of, others-then, side-then}, Leaving.{IsSound-left}}
use Rattle.plain_board.proofs.contents.Contents.leave.Goals as goal

pub invariant_of-self : goal.invariant_of-self
invariant_of-self c =
    let here = here-of _ c.args.app c.self.invariant.0 (rw (← c.self.view_is) at c.requires.app) in
    let can = rw (← c.self.view_is) at c.requires.can in
    rw (c.note_at.ensures, c.put.ensures) (IsSound-left _ c.args.app _ c.self.invariant.0 here can, c.self.invariant.1)

pub returns-clause-only : goal.returns-clause-only
returns-clause-only c =
    let here = here-of _ c.args.app c.self.invariant.0 (rw (← c.self.view_is) at c.requires.app) in
    record {
      inside = rw (← c.self.view_is, c.note_at.ensures, side-then c.self.inside.apps.items c.args.app _ _ here) refl;
      others = rw (← c.self.view_is, c.note_at.ensures) (others-then c.self.inside.nic c.self.inside.apps.items c.args.app _);
      layout = rw (← c.self.view_is) refl;
      sound = (invariant_of-self c).0;
    }
