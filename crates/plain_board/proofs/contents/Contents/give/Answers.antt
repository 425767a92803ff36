-- The entry is behind the others and the loan out no more, or the ring is full.
use Rattle.std.proofs.Common.{refl}
use Rattle.board_face.specs.declared.views.app.AppLook.TheVariants.{RefillInUse}
use Rattle.plain_board.proofs.{AppFrames.{here-of, others-then, side-then}, AppTold.{IsSound-looked}, Abandoning.{loan-there, loan-counted}}
use Rattle.plain_board.proofs.{Giving.{IsSound-gave, lies, same-entry}, Writing.{told-in_use}, NotNow.{full-written}}
use Rattle.plain_board.proofs.contents.Contents.give.Goals as goal

pub off_of-requires : goal.off_of-requires
off_of-requires c =
    let asked = rw (← c.self.view_is) at c.requires in
    let here = here-of _ c.args.app c.self.invariant.0 asked.app in
    rw c.place-place.ensures (lies _ c.args.app _ c.args.loan c.self.invariant.0 here asked.out)

pub lower-requires-clause-there : goal.lower-requires-clause-there
lower-requires-clause-there c =
    let asked = rw (← c.self.view_is) at c.requires in
    let here = here-of _ c.args.app c.self.invariant.0 asked.app in
    rw (c.user_index-user.ensures, c.place-place.ensures) (loan-there _ c.args.app _ c.args.loan c.self.invariant.0 here asked.out)

pub lower-requires-clause-some : goal.lower-requires-clause-some
lower-requires-clause-some c =
    let asked = rw (← c.self.view_is) at c.requires in
    let here = here-of _ c.args.app c.self.invariant.0 asked.app in
    rw (c.user_index-user.ensures, c.place-place.ensures) (loan-counted _ c.args.app _ c.args.loan c.self.invariant.0 here asked.out)

pub invariant_of-self : goal.invariant_of-self
invariant_of-self c =
    let here = here-of _ c.args.app c.self.invariant.0 (rw (← c.self.view_is) at c.requires.app) in
    rw (c.note_at.ensures, c.if-not-put_back.ensures.slots.0) (IsSound-looked _ c.args.app _ RefillInUse c.self.invariant.0 here, c.self.invariant.1)

pub returns-then-not-put_back-clause-told : goal.returns-then-not-put_back-clause-told
returns-then-not-put_back-clause-told c =
    let here = here-of _ c.args.app c.self.invariant.0 (rw (← c.self.view_is) at c.requires.app) in
    rw (← c.self.view_is, c.note_at.ensures, side-then c.self.inside.apps.items c.args.app _ _ here)
    (told-in_use _ c.args.app _ c.self.invariant.0 here c.if-not-put_back.ensures.slots.1)

pub returns-then-not-put_back-clause-only : goal.returns-then-not-put_back-clause-only
returns-then-not-put_back-clause-only c =
    let here = here-of _ c.args.app c.self.invariant.0 (rw (← c.self.view_is) at c.requires.app) in
    record {
      inside = rw (← c.self.view_is, c.note_at.ensures, side-then c.self.inside.apps.items c.args.app _ _ here) refl;
      others = rw (← c.self.view_is, c.note_at.ensures) (others-then c.self.inside.nic c.self.inside.apps.items c.args.app _);
      layout = rw (← c.self.view_is) refl;
      sound = (invariant_of-self c).0;
    }

pub invariant_of-self-2 : goal.invariant_of-self-2
invariant_of-self-2 c =
    let asked = rw (← c.self.view_is) at c.requires in
    let here = here-of _ c.args.app c.self.invariant.0 asked.app in
    rw (
      c.note_at-2.ensures,
      c.lower.ensures.counts,
      c.user_index-user.ensures,
      c.if-not-put_back.ensures.slots,
      c.off_of.ensures.value,
      c.place-place.ensures,
    ) (
      IsSound-gave _ c.args.app _ c.args.loan c.self.invariant.0 here asked.out _ _ (same-entry _ c.args.app _ c.args.loan c.self.invariant.0 here asked.out) refl
          (c.if-not-put_back.ensures.room refl),
      c.self.invariant.1,
    )

pub returns-clause-only : goal.returns-clause-only
returns-clause-only c =
    let here = here-of _ c.args.app c.self.invariant.0 (rw (← c.self.view_is) at c.requires.app) in
    record {
      inside = rw (← c.self.view_is, c.note_at-2.ensures, side-then c.self.inside.apps.items c.args.app _ _ here) refl;
      others = rw (← c.self.view_is, c.note_at-2.ensures) (others-then c.self.inside.nic c.self.inside.apps.items c.args.app _);
      layout = rw (← c.self.view_is) refl;
      sound = (invariant_of-self-2 c).0;
    }

pub returns-then-not-put_back-clause-full : goal.returns-then-not-put_back-clause-full
returns-then-not-put_back-clause-full c =
    let here = here-of _ c.args.app c.self.invariant.0 (rw (← c.self.view_is) at c.requires.app) in
    rw (← c.self.view_is) (full-written _ c.args.app _ c.self.invariant.0 here c.if-not-put_back.ensures.slots.1)
