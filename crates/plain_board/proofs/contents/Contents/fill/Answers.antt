-- The bytes are stored at the begin of the spare's buffer, in which nothing else lies.
use Rattle.std.proofs.Common.{refl}
use Rattle.plain_board.proofs.{AppFrames.{here-of, others-then, side-then}, SpareFilled.{spare-there, lies-in, fits-area, fits-token, IsSound-filled}}
use Rattle.plain_board.proofs.contents.Contents.fill.Goals as goal

pub byte_of-at-requires : goal.byte_of-at-requires
byte_of-at-requires c =
    let here = here-of _ c.args.app c.self.invariant.0 (rw (← c.self.view_is) at c.requires.app) in
    let out = rw (← c.self.view_is) at c.requires.out in
    rw c.filling_of-filling.ensures (lies-in _ c.args.app _ c.args.own.now c.self.invariant.0 here out c.args.bytes.now c.requires.empty c.requires.few)

pub store-requires : goal.store-requires
store-requires c =
    let here = here-of _ c.args.app c.self.invariant.0 (rw (← c.self.view_is) at c.requires.app) in
    let out = rw (← c.self.view_is) at c.requires.out in
    rw (c.byte_of-at.ensures.value, c.filling_of-filling.ensures)
    (fits-area _ c.args.app _ c.args.own.now c.self.invariant.0 here out c.args.bytes.now c.requires.empty c.requires.few)

pub put-requires : goal.put-requires
put-requires c =
    let here = here-of _ c.args.app c.self.invariant.0 (rw (← c.self.view_is) at c.requires.app) in
    let out = rw (← c.self.view_is) at c.requires.out in
    rw (c.self.invariant.0.sizes.filled, c.filling_of-filling.ensures) (spare-there _ c.args.app _ c.args.own.now c.self.invariant.0 here out)

pub filled_up-requires : goal.filled_up-requires
filled_up-requires c =
    let here = here-of _ c.args.app c.self.invariant.0 (rw (← c.self.view_is) at c.requires.app) in
    let out = rw (← c.self.view_is) at c.requires.out in
    fits-token _ c.args.app _ c.args.own.now c.self.invariant.0 here out c.args.bytes.now c.requires.empty c.requires.few

pub invariant_of-self : goal.invariant_of-self
invariant_of-self c =
    let here = here-of _ c.args.app c.self.invariant.0 (rw (← c.self.view_is) at c.requires.app) in
    let asked = rw (← c.self.view_is) at c.requires in
    rw (c.note_at.ensures, c.put.ensures, c.store.ensures, c.byte_of-at.ensures.value, c.filling_of-filling.ensures) (
      IsSound-filled _ c.args.app _ c.args.own.now c.self.invariant.0 here asked.out c.args.bytes.now c.requires.empty c.requires.few asked.here c.requires.some,
      c.self.invariant.1,
    )

pub returns-clause-only : goal.returns-clause-only
returns-clause-only c =
    let here = here-of _ c.args.app c.self.invariant.0 (rw (← c.self.view_is) at c.requires.app) in
    record {
      inside = rw (← c.self.view_is, c.note_at.ensures, side-then c.self.inside.apps.items c.args.app _ _ here) refl;
      others = rw (← c.self.view_is, c.note_at.ensures) (others-then c.self.inside.nic c.self.inside.apps.items c.args.app _);
      layout = rw (← c.self.view_is) refl;
      sound = (invariant_of-self c).0;
    }
