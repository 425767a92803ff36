use Rattle.std.proofs.Common.{sym, ◌∙◌}
use Rattle.run_check.proofs.Placing.{last_begun, none_begun}
use Rattle.run_check.proofs.places.are_apart.Goals as goal

pub returns-in-Some : goal.returns-in-Some
returns-in-Some c =
    rw (c.from.ensures, c.from-in-Some.ensures, c.from-in-Some-2.ensures)
    (sym (last_begun 0 c.args.offset c.args.len c.args.places.now.entries c.next_back.new.self (c.in-Some.begin.now, c.in-Some.place.now) c.requires.apart
    (sym (c.range.ensures.between tt) ∙ c.in-Some.ensures.steps)))

pub returns-in-None : goal.returns-in-None
returns-in-None c = sym (none_begun c.args.offset c.args.len c.args.places.now.entries (sym (c.range.ensures.between tt) ∙ c.in-None.ensures.steps.0))
