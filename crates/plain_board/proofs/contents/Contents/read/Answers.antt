-- What the area has at the loan's place is the loan's text.
use Rattle.std.proofs.Common.{refl, length}
use Rattle.plain_board.proofs.{AppFrames.{here-of, others-then, side-then}, Reading.{IsSound-read, bytes-there, shows-copy, lies}}
use Rattle.plain_board.proofs.contents.Contents.read.Goals as goal

pub byte_of-requires : goal.byte_of-requires
byte_of-requires c =
    let asked = rw (← c.self.view_is) at c.requires in
    let here = here-of _ c.args.app c.self.invariant.0 asked.app in
    rw c.place-place.ensures (lies _ c.args.app _ c.args.loan.now c.self.invariant.0 here asked.out)

pub load-requires : goal.load-requires
load-requires c =
    let asked = rw (← c.self.view_is) at c.requires in
    let here = here-of _ c.args.app c.self.invariant.0 asked.app in
    rw (c.as_slice.ensures.value, c.byte_of.ensures.value, c.place-place.ensures)
    (bytes-there _ c.args.app _ c.args.loan.now c.self.invariant.0 here asked.out c.args.from (length c.args.into.now) c.requires.within)

pub invariant_of-self : goal.invariant_of-self
invariant_of-self c =
    let asked = rw (← c.self.view_is) at c.requires in
    let here = here-of _ c.args.app c.self.invariant.0 asked.app in
    rw (c.note_at.ensures, c.load.ensures, c.as_slice.ensures.value, c.byte_of.ensures.value, c.place-place.ensures)
    (IsSound-read _ c.args.app _ c.args.loan.now c.self.invariant.0 here asked.out c.args.from (length c.args.into.now) c.requires.within, c.self.invariant.1)

pub returns-clause-copied : goal.returns-clause-copied
returns-clause-copied c =
    let asked = rw (← c.self.view_is) at c.requires in
    let here = here-of _ c.args.app c.self.invariant.0 asked.app in
    rw (← c.self.view_is, c.load.ensures, c.as_slice.ensures.value, c.byte_of.ensures.value, c.place-place.ensures)
    (shows-copy _ c.args.app _ c.args.loan.now c.self.invariant.0 here asked.out c.args.from (length c.args.into.now) c.requires.within)

pub returns-clause-only : goal.returns-clause-only
returns-clause-only c =
    let here = here-of _ c.args.app c.self.invariant.0 (rw (← c.self.view_is) at c.requires.app) in
    record {
      inside = rw (← c.self.view_is, c.note_at.ensures, side-then c.self.inside.apps.items c.args.app _ _ here) refl;
      others = rw (← c.self.view_is, c.note_at.ensures) (others-then c.self.inside.nic c.self.inside.apps.items c.args.app _);
      layout = rw (← c.self.view_is) refl;
      sound = (invariant_of-self c).0;
    }
