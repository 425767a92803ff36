use Rattle.std.{proofs.Common.{◌≡◌, [], ◌∙◌, true, sym}, specs.List.{list_any}}
use Rattle.zr_kinds.specs.declared.holding.Holding.TheVariants as holding
use Rattle.zr_kinds.specs.Holders.{is_same}
use Rattle.run_check.{specs.Buffer.{holders_of_keeper}, proofs.Changing.{by_flag, not_changed, own_there, shut_now}}
use Rattle.run_check.proofs.buffer.Buffer.shut.Goals as goal

pub returns-then-is_card : goal.returns-then-is_card
returns-then-is_card c =
    let there : list_any (is_same holding.Own) (holders_of_keeper c.self.inside.keeper) ≡ true = sym c.is_card-is_card.ensures ∙ c.if-is_card.true in
    by_flag _ _ _ c.if-is_card.true (shut_now c.self.inside c.args.self.now c.self.invariant c.self.view_is there)

pub returns-else-is_card : goal.returns-else-is_card
returns-else-is_card c =
    not_changed holding.Own [] c.args.self.now _ c.if-is_card.false
    (own_there c.self.inside c.args.self.now c.self.invariant c.self.view_is ∙ sym c.is_card-is_card.ensures ∙ c.if-is_card.false)
