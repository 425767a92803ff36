use Rattle.std.proofs.{Common.{rules}, lemmas.Iterator.{YieldsList-from_slice, cases_from_all}}
use Rattle.zr_kinds.specs.Setting.{IsRunArea}
use Rattle.run_check.proofs.Areas.{each_from_cases}
use Rattle.run_check.proofs.setting.are_each.Goals as goal

pub returns : goal.returns
returns c =
    each_from_cases c.all.result c.args.areas.now
    (cases_from_all _ _ _ IsRunArea (λ area. IsRunArea area → ⊥) c.all.ensures.ran (YieldsList-from_slice c.args.areas.now cc) (λ x q k. search rules)
    (λ x q k. search rules))
