-- The lowest listed buffer has no holder, and neither has the reserve where its count is 0.
use Rattle.std.proofs.Common.{refl, arith}
use Rattle.board_face.{specs.declared.views.app.AppLook.TheVariants.{NoSpare}, proofs.TokenLemmas.{FitsBuffer-fresh}}
use Rattle.plain_board.proofs.{AppFrames.{here-of, others-then, side-then}, AppTold.{IsSound-looked}}
use Rattle.plain_board.proofs.Sparing.{is_unheld, there-pool, none-count, IsSound-got_spare, GotSpare-got, told-got, told-none, AppOnlySaw-spare}
use Rattle.plain_board.proofs.NotNow.{used-reserve, found-lowest}
use Rattle.plain_board.proofs.contents.Contents.spare.Goals as goal

-- no buffer is there

pub invariant_of-self : goal.invariant_of-self
invariant_of-self c =
    let here = here-of _ c.args.app c.self.invariant.0 (rw (← c.self.view_is) at c.requires.app) in
    let none = c.in_default.ensures in
    rw (c.note_at.ensures, none.2) (IsSound-looked _ c.args.app _ NoSpare c.self.invariant.0 here, c.self.invariant.1)

pub returns-in_default-clause-view : goal.returns-in_default-clause-view
returns-in_default-clause-view c =
    let here = here-of _ c.args.app c.self.invariant.0 (rw (← c.self.view_is) at c.requires.app) in
    rw (← c.self.view_is, c.note_at.ensures, side-then c.self.inside.apps.items c.args.app _ _ here) (AppOnlySaw-spare _)

pub returns-in_default-clause-told : goal.returns-in_default-clause-told
returns-in_default-clause-told c =
    let here = here-of _ c.args.app c.self.invariant.0 (rw (← c.self.view_is) at c.requires.app) in
    let none = rw (c.as_slice.ensures.value, c.buffers.ensures.value) at c.in_default.ensures in
    rw (← c.self.view_is, c.note_at.ensures, side-then c.self.inside.apps.items c.args.app _ _ here)
    (told-none _ c.args.app _ c.self.invariant.0 here none.0 none.1)

pub returns-in_default-clause-held : goal.returns-in_default-clause-held
returns-in_default-clause-held c =
    let here = here-of _ c.args.app c.self.invariant.0 (rw (← c.self.view_is) at c.requires.app) in
    let none = rw (c.as_slice.ensures.value, c.buffers.ensures.value) at c.in_default.ensures in
    rw (← c.self.view_is) (used-reserve _ c.args.app _ c.self.invariant.0 here none.1)

pub returns-in_default-clause-only : goal.returns-in_default-clause-only
returns-in_default-clause-only c =
    let here = here-of _ c.args.app c.self.invariant.0 (rw (← c.self.view_is) at c.requires.app) in
    record {
      inside = rw (← c.self.view_is, c.note_at.ensures, side-then c.self.inside.apps.items c.args.app _ _ here) refl;
      others = rw (← c.self.view_is, c.note_at.ensures) (others-then c.self.inside.nic c.self.inside.apps.items c.args.app _);
      layout = rw (← c.self.view_is) refl;
      sound = (invariant_of-self c).0;
    }

-- a buffer is there

pub raise-requires-clause-there : goal.raise-requires-clause-there
raise-requires-clause-there c =
    let here = here-of _ c.args.app c.self.invariant.0 (rw (← c.self.view_is) at c.requires.app) in
    let picked = rw (c.as_slice.ensures.value, c.buffers.ensures.value) at c.in-Some.ensures in
    there-pool _ c.args.app c.in-Some.buffer _ c.self.invariant.0 (is_unheld _ c.args.app c.in-Some.buffer _ _ c.self.invariant.0 here picked)

pub raise-requires-clause-fits : goal.raise-requires-clause-fits
raise-requires-clause-fits c =
    let here = here-of _ c.args.app c.self.invariant.0 (rw (← c.self.view_is) at c.requires.app) in
    let picked = rw (c.as_slice.ensures.value, c.buffers.ensures.value) at c.in-Some.ensures in
    omega (arith, none-count _ c.args.app c.in-Some.buffer _ c.self.invariant.0 (is_unheld _ c.args.app c.in-Some.buffer _ _ c.self.invariant.0 here picked))

pub new-requires : goal.new-requires
new-requires c = rw c.size_of-size.ensures.value (FitsBuffer-fresh
    (record { layout = c.self.inside.layout; places = 0 }) c.in-Some.buffer c.self.invariant.0.sizes.layout)

pub invariant_of-self-2 : goal.invariant_of-self-2
invariant_of-self-2 c =
    let asked = rw (← c.self.view_is) at c.requires in
    let here = here-of _ c.args.app c.self.invariant.0 asked.app in
    let picked = rw (c.as_slice.ensures.value, c.buffers.ensures.value) at c.in-Some.ensures in
    let free = is_unheld _ c.args.app c.in-Some.buffer _ _ c.self.invariant.0 here picked in
    rw (c.note_at-2.ensures, c.put.ensures, c.raise.ensures)
    (IsSound-got_spare _ c.args.app c.in-Some.buffer _ _ c.self.invariant.0 here asked.here asked.due free, c.self.invariant.1)

pub returns-clause-view : goal.returns-clause-view
returns-clause-view c =
    let asked = rw (← c.self.view_is) at c.requires in
    let here = here-of _ c.args.app c.self.invariant.0 asked.app in
    let picked = rw (c.as_slice.ensures.value, c.buffers.ensures.value) at c.in-Some.ensures in
    let free = is_unheld _ c.args.app c.in-Some.buffer _ _ c.self.invariant.0 here picked in
    rw (← c.self.view_is, c.note_at-2.ensures, side-then c.self.inside.apps.items c.args.app _ _ here, c.new.ensures)
    (GotSpare-got _ c.args.app c.in-Some.buffer _ _ c.self.invariant.0 here asked.here asked.due free _ c.size_of-size.ensures.value)

pub returns-clause-told : goal.returns-clause-told
returns-clause-told c =
    let asked = rw (← c.self.view_is) at c.requires in
    let here = here-of _ c.args.app c.self.invariant.0 asked.app in
    let picked = rw (c.as_slice.ensures.value, c.buffers.ensures.value) at c.in-Some.ensures in
    let free = is_unheld _ c.args.app c.in-Some.buffer _ _ c.self.invariant.0 here picked in
    rw (← c.self.view_is, c.note_at-2.ensures, side-then c.self.inside.apps.items c.args.app _ _ here)
    (told-got _ c.args.app c.in-Some.buffer _ _ c.self.invariant.0 here asked.here asked.due free)

pub returns-clause-only : goal.returns-clause-only
returns-clause-only c =
    let here = here-of _ c.args.app c.self.invariant.0 (rw (← c.self.view_is) at c.requires.app) in
    record {
      inside = rw (← c.self.view_is, c.note_at-2.ensures, side-then c.self.inside.apps.items c.args.app _ _ here) refl;
      others = rw (← c.self.view_is, c.note_at-2.ensures) (others-then c.self.inside.nic c.self.inside.apps.items c.args.app _);
      layout = rw (← c.self.view_is) refl;
      sound = (invariant_of-self-2 c).0;
    }

pub returns-clause-lowest : goal.returns-clause-lowest
returns-clause-lowest c =
    let here = here-of _ c.args.app c.self.invariant.0 (rw (← c.self.view_is) at c.requires.app) in
    let picked = rw (c.as_slice.ensures.value, c.buffers.ensures.value) at c.in-Some.ensures in
    rw (← c.self.view_is, c.new.ensures) (found-lowest _ c.args.app _ c.self.invariant.0 here c.in-Some.buffer _ picked)

pub returns-clause-unheld : goal.returns-clause-unheld
returns-clause-unheld c =
    let here = here-of _ c.args.app c.self.invariant.0 (rw (← c.self.view_is) at c.requires.app) in
    let picked = rw (c.as_slice.ensures.value, c.buffers.ensures.value) at c.in-Some.ensures in
    rw (← c.self.view_is, c.new.ensures) (is_unheld _ c.args.app c.in-Some.buffer _ _ c.self.invariant.0 here picked).none
