use Rattle.std.{proofs.{Common.{◌≡◌, ◌∙◌, ◌<◌, [], ◌∷◌, true, sym, arith}, lemmas.Bool.{lt-ltb}}, specs.List.{list_any}}
use Rattle.zr_kinds.specs.declared.holding.Holding.TheVariants as holding
use Rattle.zr_kinds.specs.Holders.{is_same}
use Rattle.run_check.{specs.Buffer.{holders_of_keeper}, proofs.Changing.{by_flag, not_changed, own_lent, spare_there}}
use Rattle.run_check.proofs.buffer.Buffer.own.Goals as goal

pub invariant_of-self-then-is_spare : goal.invariant_of-self-then-is_spare
invariant_of-self-then-is_spare c =
    let there : list_any (is_same (holding.Spare c.args.app)) (holders_of_keeper c.self.inside.keeper) ≡ true =
    sym c.is_spare_of-is_spare.ensures ∙ c.if-is_spare.true in
    (own_lent c.self.inside c.args.self.now c.self.invariant c.self.view_is c.args.app c.args.len (omega (arith, c.requires, c.self.told.1)) c.insert.new.self (omega arith) there c.in_ok-insert.ensures.entries).sound

pub returns-in_ok-insert : goal.returns-in_ok-insert
returns-in_ok-insert c =
    let there : list_any (is_same (holding.Spare c.args.app)) (holders_of_keeper c.self.inside.keeper) ≡ true =
    sym c.is_spare_of-is_spare.ensures ∙ c.if-is_spare.true in
    let some : 0 < c.args.len = omega arith in
    let inside : c.args.len < 257 = omega arith in
    rw (lt-ltb 0 c.args.len some, lt-ltb c.args.len 257 inside)
    (by_flag _ _ _ c.if-is_spare.true
    (own_lent c.self.inside c.args.self.now c.self.invariant c.self.view_is c.args.app c.args.len (omega (arith, c.requires, c.self.told.1)) c.insert.new.self some there c.in_ok-insert.ensures.entries).changes)

pub returns-else-is_spare : goal.returns-else-is_spare
returns-else-is_spare c =
    let some : 0 < c.args.len = omega arith in
    let inside : c.args.len < 257 = omega arith in
    rw (lt-ltb 0 c.args.len some, lt-ltb c.args.len 257 inside)
    (not_changed (holding.Spare c.args.app) (holding.Loan c.args.app 0 c.args.len ∷ []) c.args.self.now _ c.if-is_spare.false
    (spare_there c.self.inside c.args.self.now c.self.invariant c.self.view_is c.args.app ∙ sym c.is_spare_of-is_spare.ensures ∙ c.if-is_spare.false))
