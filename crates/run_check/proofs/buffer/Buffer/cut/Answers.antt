use Rattle.std.{proofs.{Common.{◌≡◌, ◌∙◌, ◌+◌, ◌-◌, ◌<◌, [], ◌∷◌, true, sym, arith}, lemmas.Bool.{lt-ltb}}, specs.List.{list_any}}
use Rattle.zr_kinds.specs.declared.holding.Holding.TheVariants as holding
use Rattle.zr_kinds.specs.Holders.{is_same}
use Rattle.run_check.specs.declared.places.Hand.TheVariants as hand
use Rattle.run_check.{specs.Places.{all_placed}, proofs.Changing.{by_flag, none_there_then, not_changed, shortened, were_cut}}
use Rattle.run_check.proofs.buffer.Buffer.cut.Goals as goal

pub invariant_of-self-in_err-insert-2 : goal.invariant_of-self-in_err-insert-2
invariant_of-self-in_err-insert-2 c =
    let there : list_any (is_same (holding.Held c.args.app c.args.offset c.args.len)) (all_placed c.self.inside.places.entries) ≡ true = sym c.is_there-there.ensures ∙ c.if-there.true in
    shortened c.self.inside c.args.self.now c.self.invariant c.self.view_is c.args.app c.args.offset c.args.len c.args.at c.insert-then-there.new.self
    (omega arith) (omega arith) there (c.in_err-insert-2.ensures.err ∙ c.in_ok-insert.ensures.entries)

pub invariant_of-self-then-there : goal.invariant_of-self-then-there
invariant_of-self-then-there c =
    let there : list_any (is_same (holding.Held c.args.app c.args.offset c.args.len)) (all_placed c.self.inside.places.entries) ≡ true = sym c.is_there-there.ensures ∙ c.if-there.true in
    (were_cut c.self.inside c.args.self.now c.self.invariant c.self.view_is c.args.app c.args.offset c.args.len c.args.at c.insert.new.self (omega arith) (omega arith) there c.in_ok-insert.ensures.entries
    c.insert-then-there.new.self c.in_ok-insert-2.ensures.entries).sound

pub returns-in_ok-insert-2 : goal.returns-in_ok-insert-2
returns-in_ok-insert-2 c =
    let there : list_any (is_same (holding.Held c.args.app c.args.offset c.args.len)) (all_placed c.self.inside.places.entries) ≡ true = sym c.is_there-there.ensures ∙ c.if-there.true in
    let some : 0 < c.args.at = omega arith in
    let inside : c.args.at < c.args.len = omega arith in
    rw (lt-ltb 0 c.args.at some, lt-ltb c.args.at c.args.len inside)
    (by_flag _ _ _ c.if-there.true
    (were_cut c.self.inside c.args.self.now c.self.invariant c.self.view_is c.args.app c.args.offset c.args.len c.args.at c.insert.new.self some inside there c.in_ok-insert.ensures.entries c.insert-then-there.new.self c.in_ok-insert-2.ensures.entries).changes)

pub returns-else-there : goal.returns-else-there
returns-else-there c =
    let some : 0 < c.args.at = omega arith in
    let inside : c.args.at < c.args.len = omega arith in
    rw (lt-ltb 0 c.args.at some, lt-ltb c.args.at c.args.len inside)
    (not_changed (holding.Held c.args.app c.args.offset c.args.len)
    (holding.Held c.args.app c.args.offset c.args.at ∷ holding.Held c.args.app (c.args.offset + c.args.at) (c.args.len - c.args.at) ∷ []) c.args.self.now _ c.if-there.false
    (none_there_then c.self.inside c.args.self.now c.self.invariant c.self.view_is (hand.App c.args.app) c.args.offset c.args.len (sym c.is_there-there.ensures ∙ c.if-there.false)))
