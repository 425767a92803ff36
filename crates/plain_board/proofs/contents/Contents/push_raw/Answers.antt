-- Where the ring is full nothing moves. Else the entry is the last on its way.
use Rattle.std.proofs.Common.{refl, arith}
use Rattle.board_face.specs.declared.views.app.AppLook.TheVariants.{RefillInUse}
use Rattle.plain_board.proofs.{AppFrames.{here-of, others-then, side-then}, AppTold.{IsSound-looked}, Pushing.{IsSound-pushed, ring-length, ring-few, told-full}}
use Rattle.plain_board.proofs.NotNow.{full-written}
use Rattle.plain_board.proofs.contents.Contents.push_raw.Goals as goal

pub invariant_of-self : goal.invariant_of-self
invariant_of-self c =
    let here = here-of _ c.args.app c.self.invariant.0 (rw (← c.self.view_is) at c.requires.app) in
    rw (c.note_at.ensures, c.if-not-put_back.ensures.slots.0) (IsSound-looked _ c.args.app _ RefillInUse c.self.invariant.0 here, c.self.invariant.1)

pub returns-then-not-put_back-clause-told : goal.returns-then-not-put_back-clause-told
returns-then-not-put_back-clause-told c =
    let here = here-of _ c.args.app c.self.invariant.0 (rw (← c.self.view_is) at c.requires.app) in
    rw (← c.self.view_is, c.note_at.ensures, side-then c.self.inside.apps.items c.args.app _ _ here)
    (told-full _ c.args.app _ c.args.entry c.self.invariant.0 here c.if-not-put_back.ensures.slots.1)

pub returns-then-not-put_back-clause-only : goal.returns-then-not-put_back-clause-only
returns-then-not-put_back-clause-only c =
    let here = here-of _ c.args.app c.self.invariant.0 (rw (← c.self.view_is) at c.requires.app) in
    record {
      inside = rw (← c.self.view_is, c.note_at.ensures, side-then c.self.inside.apps.items c.args.app _ _ here) refl;
      others = rw (← c.self.view_is, c.note_at.ensures) (others-then c.self.inside.nic c.self.inside.apps.items c.args.app _);
      layout = rw (← c.self.view_is) refl;
      sound = (invariant_of-self c).0;
    }

pub invariant_of-self-2 : goal.invariant_of-self-2
invariant_of-self-2 c =
    let here = here-of _ c.args.app c.self.invariant.0 (rw (← c.self.view_is) at c.requires.app) in
    let asked = rw (← c.self.view_is) at c.requires in
    let many = ring-length _ c.args.app _ c.args.entry c.self.invariant.0 here _ _ _ c.if-not-put_back.ensures.slots c.index.ensures c.len-entries.ensures.len
    in
    rw (c.note_at-2.ensures, c.put.ensures, c.if-not-put_back.ensures.slots)
    (IsSound-pushed _ c.args.app _ c.args.entry c.self.invariant.0 here asked.idle asked.counted (c.if-not-put_back.ensures.room refl) _ many, c.self.invariant.1)

pub returns-clause-only : goal.returns-clause-only
returns-clause-only c =
    let here = here-of _ c.args.app c.self.invariant.0 (rw (← c.self.view_is) at c.requires.app) in
    record {
      inside = rw (← c.self.view_is, c.note_at-2.ensures, side-then c.self.inside.apps.items c.args.app _ _ here) refl;
      others = rw (← c.self.view_is, c.note_at-2.ensures) (others-then c.self.inside.nic c.self.inside.apps.items c.args.app _);
      layout = rw (← c.self.view_is) refl;
      sound = (invariant_of-self-2 c).0;
    }

pub returns-then-not-put_back-clause-full : goal.returns-then-not-put_back-clause-full
returns-then-not-put_back-clause-full c =
    let here = here-of _ c.args.app c.self.invariant.0 (rw (← c.self.view_is) at c.requires.app) in
    rw (← c.self.view_is) (full-written _ c.args.app _ c.self.invariant.0 here c.if-not-put_back.ensures.slots.1)

pub overflow_cast-entries : goal.overflow_cast-entries
overflow_cast-entries c =
    let here = here-of _ c.args.app c.self.invariant.0 (rw (← c.self.view_is) at c.requires.app) in
    let many = ring-length _ c.args.app _ c.args.entry c.self.invariant.0 here _ _ _ c.if-not-put_back.ensures.slots c.index.ensures c.len-entries.ensures.len
    in
    let few = ring-few _ c.args.app _ c.args.entry c.self.invariant.0 here (c.if-not-put_back.ensures.room refl) in
    omega (arith, many, few)
