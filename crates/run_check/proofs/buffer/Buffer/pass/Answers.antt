use Rattle.std.{proofs.Common.{◌≡◌, [], ◌∷◌, ◌∙◌, true, sym}, specs.List.{list_any}}
use Rattle.zr_kinds.specs.Holders.{is_same}
use Rattle.run_check.{specs.Places.{all_placed, held_by}, proofs.Changing.{by_flag, none_there_then, not_changed, passed}}
use Rattle.run_check.proofs.buffer.Buffer.pass.Goals as goal

pub invariant_of-self : goal.invariant_of-self
invariant_of-self c =
    let there : list_any (is_same (held_by c.args.old c.args.offset c.args.len)) (all_placed c.self.inside.places.entries) ≡ true = sym c.is_there-there.ensures ∙ c.if-there.true in
    (passed c.self.inside c.args.self.now c.self.invariant c.self.view_is c.args.old c.args.new c.args.offset c.args.len c.insert.new.self there c.in_ok-insert.ensures.entries c.requires.old c.requires.new).sound

pub returns-in_ok-insert : goal.returns-in_ok-insert
returns-in_ok-insert c =
    let there : list_any (is_same (held_by c.args.old c.args.offset c.args.len)) (all_placed c.self.inside.places.entries) ≡ true = sym c.is_there-there.ensures ∙ c.if-there.true in
    by_flag _ _ _ c.if-there.true
    (passed c.self.inside c.args.self.now c.self.invariant c.self.view_is c.args.old c.args.new c.args.offset c.args.len c.insert.new.self there c.in_ok-insert.ensures.entries c.requires.old c.requires.new).changes

pub returns-else-there : goal.returns-else-there
returns-else-there c =
    not_changed (held_by c.args.old c.args.offset c.args.len) (held_by c.args.new c.args.offset c.args.len ∷ []) c.args.self.now _ c.if-there.false
    (none_there_then c.self.inside c.args.self.now c.self.invariant c.self.view_is (c.args.old) c.args.offset c.args.len (sym c.is_there-there.ensures ∙ c.if-there.false))
