use Rattle.std.proofs.Common.{◌∙◌, sym, refl}
use Rattle.run_check.proofs.Changing.{by_flag, put_changes, put_sound}
use Rattle.run_check.proofs.buffer.Buffer.place.Goals as goal

pub invariant_of-self-then-fits : goal.invariant_of-self-then-fits
invariant_of-self-then-fits c =
    put_sound c.self.inside c.args.self.now c.self.invariant c.self.view_is c.args.offset c.args.len c.insert.new.self (sym c.can_place-fits.ensures ∙ c.if-fits.true) c.in_ok-insert.ensures.entries

pub returns-in_ok-insert : goal.returns-in_ok-insert
returns-in_ok-insert c =
    by_flag _ _ _ c.if-fits.true
    (put_changes c.self.inside c.args.self.now c.self.invariant c.self.view_is c.args.offset c.args.len c.insert.new.self (sym c.can_place-fits.ensures ∙ c.if-fits.true) c.in_ok-insert.ensures.entries)

pub returns-else-fits : goal.returns-else-fits
returns-else-fits c = rw (sym c.can_place-fits.ensures ∙ c.if-fits.false, c.if-fits.false) refl
