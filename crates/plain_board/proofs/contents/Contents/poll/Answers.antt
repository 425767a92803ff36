-- The front of the application's ring is the next note on its way.
use Rattle.std.proofs.Common.{◌∙◌, refl, sym}
use Rattle.plain_board.proofs.{AppFrames.{here-of, others-then, side-then}, Popping.{rings-same}}
use Rattle.plain_board.proofs.Polling.{IsSound-no_note, told-no_note, ToldEnd-told, AppOnlySaw-none, IsSound-took_note, IsSound-took_linear, TookNote-took}
use Rattle.plain_board.proofs.{Polling.{TookLinear-took}, NotNow.{untold}, contents.Contents.poll.Goals.{then-ended, else-ended}}
use Rattle.plain_board.proofs.contents.Contents.poll.Goals as goal
use Rattle.zr_kinds.proofs.Lists.{front-none, front-some}

-- no note is there

pub invariant_of-self : goal.invariant_of-self
invariant_of-self c =
    let here = here-of _ c.args.app c.self.invariant.0 (rw (← c.self.view_is) at c.requires.app) in
    let none = front-none _ (sym c.take_front.ensures.front ∙ c.in_default.is) in
    rw (c.note_at.ensures, c.take_front.ensures.rings, rings-same c.self.inside.notes.items c.args.app none)
    (IsSound-no_note _ c.args.app _ c.self.invariant.0 here none _ refl, c.self.invariant.1)

pub returns-in_default-clause-view : goal.returns-in_default-clause-view
returns-in_default-clause-view c =
    let here = here-of _ c.args.app c.self.invariant.0 (rw (← c.self.view_is) at c.requires.app) in
    elim c.if-ended.branch [
      | then-ended w ↦ rw (← c.self.view_is, c.note_at.ensures, side-then c.self.inside.apps.items c.args.app _ _ here, w.if-ended.true, w.result-is)
          (ToldEnd-told _)
      | else-ended w ↦ rw (← c.self.view_is, c.note_at.ensures, side-then c.self.inside.apps.items c.args.app _ _ here, w.if-ended.false, w.result-is)
          (AppOnlySaw-none _)
    ]

pub returns-in_default-clause-told : goal.returns-in_default-clause-told
returns-in_default-clause-told c =
    let here = here-of _ c.args.app c.self.invariant.0 (rw (← c.self.view_is) at c.requires.app) in
    let none = front-none _ (sym c.take_front.ensures.front ∙ c.in_default.is) in
    rw (← c.self.view_is, c.note_at.ensures, side-then c.self.inside.apps.items c.args.app _ _ here)
    (told-no_note _ c.args.app _ c.self.invariant.0 here none _ refl)

pub returns-in_default-clause-untold : goal.returns-in_default-clause-untold
returns-in_default-clause-untold c =
    let here = here-of _ c.args.app c.self.invariant.0 (rw (← c.self.view_is) at c.requires.app) in
    elim c.if-ended.branch [
      | then-ended w ↦ λ none. absurd (let ended = w.result-is in cc)
      | else-ended w ↦ λ none. rw (← c.self.view_is) (untold _ c.args.app _ c.self.invariant.0 here w.if-ended.false _ refl)
    ]

pub returns-in_default-clause-only : goal.returns-in_default-clause-only
returns-in_default-clause-only c =
    let here = here-of _ c.args.app c.self.invariant.0 (rw (← c.self.view_is) at c.requires.app) in
    record {
      inside = rw (← c.self.view_is, c.note_at.ensures, side-then c.self.inside.apps.items c.args.app _ _ here) refl;
      others = rw (← c.self.view_is, c.note_at.ensures) (others-then c.self.inside.nic c.self.inside.apps.items c.args.app _);
      layout = rw (← c.self.view_is) refl;
      sound = (invariant_of-self c).0;
    }

-- a split note is there

pub invariant_of-self-then-note : goal.invariant_of-self-then-note
invariant_of-self-then-note c =
    let asked = rw (← c.self.view_is) at c.requires in
    let here = here-of _ c.args.app c.self.invariant.0 asked.app in
    let found = front-some _ c.in-Some.slot (sym c.take_front.ensures.front ∙ c.in-Some.is) in
    rw (c.note_at-then-note.ensures, c.take_front.ensures.rings)
    (IsSound-took_note _ c.args.app _ c.in-Some.slot _ c.self.invariant.0 here asked.here found c.if-note.true, c.self.invariant.1)

pub returns-then-note-clause-view : goal.returns-then-note-clause-view
returns-then-note-clause-view c =
    let asked = rw (← c.self.view_is) at c.requires in
    let here = here-of _ c.args.app c.self.invariant.0 asked.app in
    let found = front-some _ c.in-Some.slot (sym c.take_front.ensures.front ∙ c.in-Some.is) in
    rw (← c.self.view_is, c.note_at-then-note.ensures, side-then c.self.inside.apps.items c.args.app _ _ here, c.new.ensures)
    (TookNote-took _ c.args.app _ c.in-Some.slot _ c.self.invariant.0 here asked.here found c.if-note.true)

pub returns-then-note-clause-only : goal.returns-then-note-clause-only
returns-then-note-clause-only c =
    let here = here-of _ c.args.app c.self.invariant.0 (rw (← c.self.view_is) at c.requires.app) in
    record {
      inside = rw (← c.self.view_is, c.note_at-then-note.ensures, side-then c.self.inside.apps.items c.args.app _ _ here) refl;
      others = rw (← c.self.view_is, c.note_at-then-note.ensures) (others-then c.self.inside.nic c.self.inside.apps.items c.args.app _);
      layout = rw (← c.self.view_is) refl;
      sound = (invariant_of-self-then-note c).0;
    }

-- another note is there

pub invariant_of-self-2 : goal.invariant_of-self-2
invariant_of-self-2 c =
    let asked = rw (← c.self.view_is) at c.requires in
    let here = here-of _ c.args.app c.self.invariant.0 asked.app in
    let found = front-some _ c.in-Some.slot (sym c.take_front.ensures.front ∙ c.in-Some.is) in
    rw (c.note_at-2.ensures, c.take_front.ensures.rings)
    (IsSound-took_linear _ c.args.app _ c.in-Some.slot _ c.self.invariant.0 here asked.here found c.if-note.false, c.self.invariant.1)

pub returns-clause-view : goal.returns-clause-view
returns-clause-view c =
    let asked = rw (← c.self.view_is) at c.requires in
    let here = here-of _ c.args.app c.self.invariant.0 asked.app in
    let found = front-some _ c.in-Some.slot (sym c.take_front.ensures.front ∙ c.in-Some.is) in
    rw (← c.self.view_is, c.note_at-2.ensures, side-then c.self.inside.apps.items c.args.app _ _ here)
    (TookLinear-took _ c.args.app _ c.in-Some.slot _ c.self.invariant.0 here asked.here found c.if-note.false)

pub returns-clause-only : goal.returns-clause-only
returns-clause-only c =
    let here = here-of _ c.args.app c.self.invariant.0 (rw (← c.self.view_is) at c.requires.app) in
    record {
      inside = rw (← c.self.view_is, c.note_at-2.ensures, side-then c.self.inside.apps.items c.args.app _ _ here) refl;
      others = rw (← c.self.view_is, c.note_at-2.ensures) (others-then c.self.inside.nic c.self.inside.apps.items c.args.app _);
      layout = rw (← c.self.view_is) refl;
      sound = (invariant_of-self-2 c).0;
    }
