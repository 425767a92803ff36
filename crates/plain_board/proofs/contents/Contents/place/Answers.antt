-- The buffer of a token has room for the text, and fewer holders than a count may have.
use Rattle.std.proofs.Common.{refl}
use Rattle.plain_board.proofs.PlacedText.{lies-in, in_area, is_few, IsSound-placed}
use Rattle.plain_board.proofs.contents.Contents.place.Goals as goal

pub byte_of-at-requires : goal.byte_of-at-requires
byte_of-at-requires c =
    let out = rw (← c.self.view_is) at c.requires.out in
    rw c.filling_of-filling.ensures (lies-in _ c.args.own.now c.args.bytes.now c.self.invariant.0 out c.requires.fits)

pub store-requires : goal.store-requires
store-requires c =
    let out = rw (← c.self.view_is) at c.requires.out in
    rw (c.byte_of-at.ensures.value, c.filling_of-filling.ensures) (in_area _ c.args.own.now c.args.bytes.now c.self.invariant.0 out c.requires.fits)

pub raise-requires-clause-fits : goal.raise-requires-clause-fits
raise-requires-clause-fits c =
    let out = rw (← c.self.view_is) at c.requires.out in
    rw c.filling_of-filling.ensures (is_few _ c.args.own.now c.args.bytes.now c.self.invariant.0 out c.requires.fits)

pub invariant_of-self : goal.invariant_of-self
invariant_of-self c =
    let asked = rw (← c.self.view_is) at c.requires in
    rw (c.note.ensures, c.store.ensures, c.raise.ensures, c.byte_of-at.ensures.value, c.filling_of-filling.ensures)
    (IsSound-placed _ c.args.own.now c.args.bytes.now c.self.invariant.0 asked.out c.requires.fits asked.open c.requires.some, c.self.invariant.1)

pub returns-clause-only : goal.returns-clause-only
returns-clause-only c = record { apps = rw (← c.self.view_is) refl; sound = (invariant_of-self c).0 }
