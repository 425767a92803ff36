use Rattle.std.proofs.Common.{◌≡◌, ◌++◌, ◌∷◌, [], length, map, true, Result, Ok, Err, is_ok, if◌then◌else◌, OnOk, sym, ap, ◌∙◌, arith, length-append}
use Rattle.std.proofs.lemmas.List.{length-map}
use Rattle.flow_table.{specs.Kept.{entry_shown}, proofs.Entries.{HasNewest-begun}}
use Rattle.flow_table.proofs.list.FlowList.begin.Goals as goal

on_ok : {T E P : Type 0} (r : Result T E) → is_ok r ≡ true → OnOk r P → P
on_ok (Ok t) ok holds = holds
on_ok (Err e) ok holds = cc

pub invariant_of-self-2 : goal.invariant_of-self-2
invariant_of-self-2 c =
    let entries = c.self.inside.entries.items in
    let entry = c.args.flow in
    let count : length (map entry_shown entries) ≡ length c.args.self.now = ap length c.self.view_is in
    let pushed : c.push.new.self.items ≡ entries ++ entry ∷ [] =
    c.push.ensures.items ∙ ap (λ r. if is_ok r then c.reserve.new.self.items ++ entry ∷ [] else c.reserve.new.self.items) c.unwrap.ensures
    ∙ ap (λ es. es ++ entry ∷ []) c.reserve.ensures.items in
    let inserted : is_ok c.insert.result ≡ true = sym c.map_err-2.ensures.variant ∙ ap is_ok c.in_ok-map_err-2.was in
    let updates = on_ok c.insert.result inserted c.insert.ensures.updates in (
      omega (arith, ap length pushed, length-append entries (entry ∷ []), length-map entries entry_shown),
      HasNewest-begun entries c.push.new.self.items c.self.inside.newest c.insert.new.self entry c.count-number.result
          (c.count-number.ensures.count ∙ sym count) pushed updates.0 c.self.invariant.1,
    )
