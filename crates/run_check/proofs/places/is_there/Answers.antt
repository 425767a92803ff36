use Rattle.std.{proofs.Common.{◌≡◌, Some, sym, ◌∙◌}, specs.{Map.{lookup}, BTreeMap.{is_at}, Ordering.{nat_cmp}}}
use Rattle.run_check.proofs.Placing.{none_there, one_there, place_is}
use Rattle.run_check.proofs.places.is_there.Goals as goal

pub returns-in-Some : goal.returns-in-Some
returns-in-Some c =
    let found : lookup (is_at (nat_cmp c.args.offset)) c.args.places.now.entries ≡ Some c.in-Some.found.now = sym c.in-Some.ensures.value in
    c.is_same_place.ensures ∙ place_is c.args.offset c.in-Some.found.now c.args.place
    ∙ sym (one_there 0 c.args.offset c.args.place.len c.args.place.hand c.args.places.now.entries c.in-Some.found.now c.requires found)

pub returns-in-None : goal.returns-in-None
returns-in-None c = sym (none_there c.args.offset c.args.place.len c.args.place.hand c.args.places.now.entries (sym c.in-None.ensures.value))
