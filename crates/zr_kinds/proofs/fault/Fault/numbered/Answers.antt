use Rattle.std.{proofs.{Common.{rules, ◌≡◌, option_map}, lemmas.Iterator.{YieldsList-from_slice, Search.{find_from_yields_List}}}, specs.Prelude.{◌==◌}}
use Rattle.zr_kinds.{specs.{Fault.{number_of}, declared.fault.TheConstants.Fault.{ALL}}, proofs.Numbers.{with_number, found_by_number}}
use Rattle.zr_kinds.proofs.fault.Fault.numbered.Goals as goal

pub returns : goal.returns
returns c =
    let found : option_map (λ x. x.now) c.find.result ≡ with_number c.args.number =
    find_from_yields_List (λ fault. number_of fault == c.args.number) _ _ c.find.result c.find.ensures.ran
    (YieldsList-from_slice ALL cc) (λ x b q k. search rules) in
    found_by_number c.args.number c.copied.result (cc)
