-- The spare's buffer has one user more, and its length is booked.
use Rattle.std.proofs.{Common.{◌∙◌, ap, refl, arith}, lemmas.List.{get_or_read}}
use Rattle.board_face.specs.AppEvents.{begin_place}
use Rattle.plain_board.proofs.{AppFrames.{here-of, others-then, side-then}, TokensLie.{spare-within}, OnLoan.{user-there, loan-there, user-few, loan-few}}
use Rattle.plain_board.proofs.OwnLending.{IsSound-lent_own, own-there, own-filled}
use Rattle.plain_board.proofs.contents.Contents.lend_own.Goals as goal

pub index-len-requires : goal.index-len-requires
index-len-requires c =
    let asked = rw (← c.self.view_is) at c.requires in
    let here = here-of _ c.args.app c.self.invariant.0 asked.app in
    rw c.filling_of-filling.ensures (omega (arith, own-there _ c.args.app _ c.args.own c.self.invariant.0 here asked.out, c.self.inside.filled.ok.0))

pub raise-requires-clause-there : goal.raise-requires-clause-there
raise-requires-clause-there c =
    let asked = rw (← c.self.view_is) at c.requires in
    let here = here-of _ c.args.app c.self.invariant.0 asked.app in
    rw (c.user_index-user.ensures, c.filling_of-filling.ensures)
    (user-there _ c.args.app _ c.args.own.buffer c.self.invariant.0 here (spare-within _ c.args.app _ c.self.invariant.0 here c.args.own asked.out))

pub raise-requires-clause-fits : goal.raise-requires-clause-fits
raise-requires-clause-fits c =
    let asked = rw (← c.self.view_is) at c.requires in
    let here = here-of _ c.args.app c.self.invariant.0 asked.app in
    rw (c.user_index-user.ensures, c.filling_of-filling.ensures)
    (user-few _ c.args.app _ c.args.own.buffer c.self.invariant.0 here (spare-within _ c.args.app _ c.self.invariant.0 here c.args.own asked.out))

pub raise-requires-2-clause-there : goal.raise-requires-2-clause-there
raise-requires-2-clause-there c =
    let asked = rw (← c.self.view_is) at c.requires in
    let here = here-of _ c.args.app c.self.invariant.0 asked.app in
    rw (c.user_index-user.ensures, c.filling_of-filling.ensures)
    (loan-there _ c.args.app _ c.args.own.buffer c.self.invariant.0 here (spare-within _ c.args.app _ c.self.invariant.0 here c.args.own asked.out))

pub raise-requires-2-clause-fits : goal.raise-requires-2-clause-fits
raise-requires-2-clause-fits c =
    let asked = rw (← c.self.view_is) at c.requires in
    let here = here-of _ c.args.app c.self.invariant.0 asked.app in
    rw (c.user_index-user.ensures, c.filling_of-filling.ensures)
    (loan-few _ c.args.app _ c.args.own.buffer c.self.invariant.0 here (spare-within _ c.args.app _ c.self.invariant.0 here c.args.own asked.out))

pub invariant_of-self : goal.invariant_of-self
invariant_of-self c =
    let asked = rw (← c.self.view_is) at c.requires in
    let here = here-of _ c.args.app c.self.invariant.0 asked.app in
    rw (c.note_at.ensures, c.raise.ensures, c.raise-2.ensures, c.user_index-user.ensures, c.filling_of-filling.ensures)
    (IsSound-lent_own _ c.args.app _ c.args.own c.self.invariant.0 here asked.out asked.can asked.filled _ _ refl refl, c.self.invariant.1)

pub returns-clause-place : goal.returns-clause-place
returns-clause-place c =
    let asked = rw (← c.self.view_is) at c.requires in
    let here = here-of _ c.args.app c.self.invariant.0 asked.app in
    let there = own-there _ c.args.app _ c.args.own c.self.invariant.0 here asked.out in
    let read = get_or_read c.self.inside.filled.items _ c.index-len.result.now (rw c.filling_of-filling.ensures there) c.index-len.ensures 0 in
    let len = rw c.filling_of-filling.ensures at read ∙ own-filled _ c.args.app _ c.args.own c.self.invariant.0 here asked.out in
    rw (← c.self.view_is, c.new.ensures, c.filling_of-filling.ensures) (ap (begin_place c.args.own.buffer) len)

pub returns-clause-only : goal.returns-clause-only
returns-clause-only c =
    let here = here-of _ c.args.app c.self.invariant.0 (rw (← c.self.view_is) at c.requires.app) in
    record {
      inside = rw (← c.self.view_is, c.note_at.ensures, side-then c.self.inside.apps.items c.args.app _ _ here) refl;
      others = rw (← c.self.view_is, c.note_at.ensures) (others-then c.self.inside.nic c.self.inside.apps.items c.args.app _);
      layout = rw (← c.self.view_is) refl;
      sound = (invariant_of-self c).0;
    }
