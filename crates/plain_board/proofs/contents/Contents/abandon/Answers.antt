-- One loan less is out, and one more is owed.
use Rattle.std.proofs.Common.{refl}
use Rattle.plain_board.proofs.{AppFrames.{here-of, others-then, side-then}, Abandoning.{IsSound-abandoned, loan-there, loan-counted}}
use Rattle.plain_board.proofs.contents.Contents.abandon.Goals as goal

pub lower-requires-clause-there : goal.lower-requires-clause-there
lower-requires-clause-there c =
    let asked = rw (← c.self.view_is) at c.requires in
    let here = here-of _ c.args.app c.self.invariant.0 asked.app in
    rw (c.user_index-user.ensures, c.place-place.ensures) (loan-there _ c.args.app _ c.args.loan c.self.invariant.0 here asked.out)

pub lower-requires-clause-some : goal.lower-requires-clause-some
lower-requires-clause-some c =
    let asked = rw (← c.self.view_is) at c.requires in
    let here = here-of _ c.args.app c.self.invariant.0 asked.app in
    rw (c.user_index-user.ensures, c.place-place.ensures) (loan-counted _ c.args.app _ c.args.loan c.self.invariant.0 here asked.out)

pub invariant_of-self : goal.invariant_of-self
invariant_of-self c =
    let asked = rw (← c.self.view_is) at c.requires in
    let here = here-of _ c.args.app c.self.invariant.0 asked.app in
    rw (c.note_at.ensures, c.lower.ensures.counts, c.user_index-user.ensures, c.place-place.ensures)
    (IsSound-abandoned _ c.args.app _ c.args.loan c.self.invariant.0 here asked.out _ refl, c.self.invariant.1)

pub returns-clause-only : goal.returns-clause-only
returns-clause-only c =
    let here = here-of _ c.args.app c.self.invariant.0 (rw (← c.self.view_is) at c.requires.app) in
    record {
      inside = rw (← c.self.view_is, c.note_at.ensures, side-then c.self.inside.apps.items c.args.app _ _ here) refl;
      others = rw (← c.self.view_is, c.note_at.ensures) (others-then c.self.inside.nic c.self.inside.apps.items c.args.app _);
      layout = rw (← c.self.view_is) refl;
      sound = (invariant_of-self c).0;
    }
