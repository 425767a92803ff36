-- The piece's buffer has one user more.
use Rattle.std.proofs.Common.{refl}
use Rattle.plain_board.proofs.{AppFrames.{here-of, others-then, side-then}, Lending.{IsSound-lent, held-within}, OnLoan.{user-there, loan-there, user-few, loan-few}}
use Rattle.plain_board.proofs.contents.Contents.lend.Goals as goal

pub raise-requires-clause-there : goal.raise-requires-clause-there
raise-requires-clause-there c =
    let asked = rw (← c.self.view_is) at c.requires in
    let here = here-of _ c.args.app c.self.invariant.0 asked.app in
    rw (c.user_index-user.ensures, c.place-place.ensures) (user-there _ c.args.app _ c.args.held.buffer c.self.invariant.0 here
    (held-within _ c.args.app _ c.args.held c.self.invariant.0 here asked.out))

pub raise-requires-clause-fits : goal.raise-requires-clause-fits
raise-requires-clause-fits c =
    let asked = rw (← c.self.view_is) at c.requires in
    let here = here-of _ c.args.app c.self.invariant.0 asked.app in
    rw (c.user_index-user.ensures, c.place-place.ensures) (user-few _ c.args.app _ c.args.held.buffer c.self.invariant.0 here
    (held-within _ c.args.app _ c.args.held c.self.invariant.0 here asked.out))

pub raise-requires-2-clause-there : goal.raise-requires-2-clause-there
raise-requires-2-clause-there c =
    let asked = rw (← c.self.view_is) at c.requires in
    let here = here-of _ c.args.app c.self.invariant.0 asked.app in
    rw (c.user_index-user.ensures, c.place-place.ensures) (loan-there _ c.args.app _ c.args.held.buffer c.self.invariant.0 here
    (held-within _ c.args.app _ c.args.held c.self.invariant.0 here asked.out))

pub raise-requires-2-clause-fits : goal.raise-requires-2-clause-fits
raise-requires-2-clause-fits c =
    let asked = rw (← c.self.view_is) at c.requires in
    let here = here-of _ c.args.app c.self.invariant.0 asked.app in
    rw (c.user_index-user.ensures, c.place-place.ensures) (loan-few _ c.args.app _ c.args.held.buffer c.self.invariant.0 here
    (held-within _ c.args.app _ c.args.held c.self.invariant.0 here asked.out))

pub invariant_of-self : goal.invariant_of-self
invariant_of-self c =
    let asked = rw (← c.self.view_is) at c.requires in
    let here = here-of _ c.args.app c.self.invariant.0 asked.app in
    rw (c.note_at.ensures, c.raise.ensures, c.raise-2.ensures, c.user_index-user.ensures, c.place-place.ensures)
    (IsSound-lent _ c.args.app _ c.args.held c.self.invariant.0 here asked.out asked.can _ _ refl refl, c.self.invariant.1)

pub returns-clause-only : goal.returns-clause-only
returns-clause-only c =
    let here = here-of _ c.args.app c.self.invariant.0 (rw (← c.self.view_is) at c.requires.app) in
    record {
      inside = rw (← c.self.view_is, c.note_at.ensures, side-then c.self.inside.apps.items c.args.app _ _ here) refl;
      others = rw (← c.self.view_is, c.note_at.ensures) (others-then c.self.inside.nic c.self.inside.apps.items c.args.app _);
      layout = rw (← c.self.view_is) refl;
      sound = (invariant_of-self c).0;
    }
