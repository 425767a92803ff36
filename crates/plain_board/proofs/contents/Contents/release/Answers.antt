-- A held piece's buffer has a holder, so its count can be lowered.
use Rattle.std.proofs.Common.{refl, arith}
use Rattle.plain_board.proofs.{AppFrames.{here-of, others-then, side-then}, HeldPieces.{there-pool, held-count, is_held}, Releasing.{IsSound-released}}
use Rattle.plain_board.proofs.contents.Contents.release.Goals as goal

pub lower-left-requires-clause-there : goal.lower-left-requires-clause-there
lower-left-requires-clause-there c =
    let asked = rw (← c.self.view_is) at c.requires in
    let here = here-of _ c.args.app c.self.invariant.0 asked.app in
    rw c.place-place.ensures (there-pool _ c.args.app _ c.args.held c.self.invariant.0 here asked.out)

pub lower-left-requires-clause-some : goal.lower-left-requires-clause-some
lower-left-requires-clause-some c =
    let asked = rw (← c.self.view_is) at c.requires in
    let here = here-of _ c.args.app c.self.invariant.0 asked.app in
    rw c.place-place.ensures (omega (
      arith,
      held-count _ c.args.app _ c.args.held c.self.invariant.0 here asked.out,
      is_held _ c.args.app _ c.args.held c.self.invariant.0 here asked.out,
    ))

pub invariant_of-self : goal.invariant_of-self
invariant_of-self c =
    let asked = rw (← c.self.view_is) at c.requires in
    let here = here-of _ c.args.app c.self.invariant.0 asked.app in
    rw (c.note_at.ensures, c.list_if.ensures, c.came_free-free.ensures, c.lower-left.ensures.left, c.lower-left.ensures.counts, c.place-place.ensures)
    (IsSound-released _ c.args.app _ c.args.held c.self.invariant.0 here asked.here asked.out, c.self.invariant.1)

pub returns-clause-view : goal.returns-clause-view
returns-clause-view c =
    let here = here-of _ c.args.app c.self.invariant.0 (rw (← c.self.view_is) at c.requires.app) in
    rw (← c.self.view_is, c.note_at.ensures, side-then c.self.inside.apps.items c.args.app _ _ here, c.place-place.ensures)

pub returns-clause-only : goal.returns-clause-only
returns-clause-only c =
    let here = here-of _ c.args.app c.self.invariant.0 (rw (← c.self.view_is) at c.requires.app) in
    record {
      inside = rw (← c.self.view_is, c.note_at.ensures, side-then c.self.inside.apps.items c.args.app _ _ here) refl;
      others = rw (← c.self.view_is, c.note_at.ensures) (others-then c.self.inside.nic c.self.inside.apps.items c.args.app _);
      layout = rw (← c.self.view_is) refl;
      sound = (invariant_of-self c).0;
    }
