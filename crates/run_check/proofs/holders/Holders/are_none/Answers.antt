use Rattle.std.proofs.{Common.{◌≡◌, length, rules}, lemmas.{Bool.Decides.{nat_tests}, Iterator.{YieldsList-from_slice, cases_from_all}}}
use Rattle.run_check.proofs.Events.{none_from_cases}
use Rattle.run_check.proofs.holders.Holders.are_none.Goals as goal

pub returns : goal.returns
returns c =
    none_from_cases c.all.result c.args.self.now.buffers.items
    (cases_from_all _ _ _ (λ held. length held ≡ 0) (λ held. length held ≡ 0 → ⊥) c.all.ensures.ran (YieldsList-from_slice c.args.self.now.buffers.items cc)
    (λ x q k. search (rules, nat_tests)) (λ x q k. search (rules, nat_tests)))
