-- A held piece lies in a buffer of the area, whose holders are few.
use Rattle.std.proofs.Common.{refl, arith}
use Rattle.plain_board.proofs.{AppFrames.{here-of, others-then, side-then}, HeldPieces.{there-pool, held-few, held-ends}, Cutting.{IsSound-cut}}
use Rattle.plain_board.proofs.contents.Contents.cut.Goals as goal

pub raise-requires-clause-there : goal.raise-requires-clause-there
raise-requires-clause-there c =
    let asked = rw (← c.self.view_is) at c.requires in
    let here = here-of _ c.args.app c.self.invariant.0 asked.app in
    rw c.place-place.ensures (there-pool _ c.args.app _ c.args.held c.self.invariant.0 here asked.out)

pub raise-requires-clause-fits : goal.raise-requires-clause-fits
raise-requires-clause-fits c =
    let asked = rw (← c.self.view_is) at c.requires in
    let here = here-of _ c.args.app c.self.invariant.0 asked.app in
    rw c.place-place.ensures (omega (arith, held-few _ c.args.app _ c.args.held c.self.invariant.0 here asked.out))

pub overflow_add-rest : goal.overflow_add-rest
overflow_add-rest c =
    let asked = rw (← c.self.view_is) at c.requires in
    let here = here-of _ c.args.app c.self.invariant.0 asked.app in
    rw c.place-place.ensures (omega (arith, held-ends _ c.args.app _ c.args.held c.self.invariant.0 here asked.out))

pub invariant_of-self : goal.invariant_of-self
invariant_of-self c =
    let asked = rw (← c.self.view_is) at c.requires in
    let here = here-of _ c.args.app c.self.invariant.0 asked.app in
    rw (c.note_at.ensures, c.raise.ensures, c.place-place.ensures)
    (IsSound-cut _ c.args.app _ c.args.held c.args.at c.self.invariant.0 here asked.here asked.out c.requires.front c.requires.rest, c.self.invariant.1)

pub returns-clause-view : goal.returns-clause-view
returns-clause-view c =
    let here = here-of _ c.args.app c.self.invariant.0 (rw (← c.self.view_is) at c.requires.app) in
    rw (← c.self.view_is, c.note_at.ensures, side-then c.self.inside.apps.items c.args.app _ _ here, c.place-place.ensures)

pub returns-clause-only : goal.returns-clause-only
returns-clause-only c =
    let here = here-of _ c.args.app c.self.invariant.0 (rw (← c.self.view_is) at c.requires.app) in
    record {
      inside = rw (← c.self.view_is, c.note_at.ensures, side-then c.self.inside.apps.items c.args.app _ _ here) refl;
      others = rw (← c.self.view_is, c.note_at.ensures) (others-then c.self.inside.nic c.self.inside.apps.items c.args.app _);
      layout = rw (← c.self.view_is) refl;
      sound = (invariant_of-self c).0;
    }
