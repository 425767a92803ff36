-- Where the ring is full nothing moves. Else the note is the last on its way, and its piece only changes its kind.
use Rattle.std.proofs.Common.{arith, refl}
use Rattle.board_face.specs.declared.views.nic.NicLook.TheVariants.{NoteInUse}
use Rattle.plain_board.proofs.{AppFrames.{here-of}, Card.{within-setting}, Still.{IsSound-saw}, NotesSent.{IsSound-sent}, Seeing.{NicTold-full}, NotNow.{full-sent}}
use Rattle.plain_board.proofs.contents.Contents.send.Goals as goal

pub invariant_of-self : goal.invariant_of-self
invariant_of-self c = rw (c.note.ensures, c.if-not-put_back.ensures.slots.0) (IsSound-saw _ (NoteInUse c.args.app) c.self.invariant.0, c.self.invariant.1)

pub invariant_of-self-2 : goal.invariant_of-self-2
invariant_of-self-2 c =
    let sound = c.self.invariant.0 in
    let here = here-of _ c.args.app sound (within-setting _ _ c.self.invariant.0 (rw (← c.self.view_is) at c.requires.app)) in
    let out = rw (← c.self.view_is, ← c.requires.place) at c.requires.out in
    let running = rw (← c.self.view_is) at c.requires.open in
    rw (c.note-2.ensures, c.if-not-put_back.ensures.slots) (
      IsSound-sent _ c.args.app _ c.args.note _ sound here running out c.requires.fields
          (c.if-not-put_back.ensures.room refl),
      c.self.invariant.1,
    )

pub returns-then-not-put_back-clause-told : goal.returns-then-not-put_back-clause-told
returns-then-not-put_back-clause-told c =
    let sound = c.self.invariant.0 in
    let few = within-setting _ _ c.self.invariant.0 (rw (← c.self.view_is) at c.requires.app) in
    rw (← c.self.view_is, c.note.ensures) (NicTold-full _ sound c.args.app (let many = sound.set.many in omega arith) c.if-not-put_back.ensures.slots.1)

pub returns-then-not-put_back-clause-full : goal.returns-then-not-put_back-clause-full
returns-then-not-put_back-clause-full c =
    let sound = c.self.invariant.0 in
    let few = within-setting _ _ c.self.invariant.0 (rw (← c.self.view_is) at c.requires.app) in
    rw (← c.self.view_is) (full-sent _ c.args.app sound (let many = sound.set.many in omega arith) c.if-not-put_back.ensures.slots.1)

pub returns-then-not-put_back-clause-only : goal.returns-then-not-put_back-clause-only
returns-then-not-put_back-clause-only c = record { apps = rw (← c.self.view_is) refl; sound = (invariant_of-self c).0 }

pub returns-clause-only : goal.returns-clause-only
returns-clause-only c = record { apps = rw (← c.self.view_is) refl; sound = (invariant_of-self-2 c).0 }
