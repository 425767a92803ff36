use Rattle.std.proofs.{Common.{◌≤◌, ◌∙◌, sym, rules, count_ones}, lemmas.Bool.{eqb-true, eq-eqb}}
use Rattle.area_layout.proofs.Powers.{power_from_one, one_from_power}
use Rattle.area_layout.proofs.layout.is_buffer_size.Goals as goal

pub returns-then-contains : goal.returns-then-contains
returns-then-contains c =
    let size = c.args.size in
    let least : 1024 ≤ size = search rules in
    let most : size ≤ 65536 = search rules in (
      λ one. record { power = power_from_one size (eqb-true (count_ones size) 1 (sym c.is_power_of_two.ensures ∙ one)); least = least; most = most },
      λ fits. c.is_power_of_two.ensures ∙ eq-eqb (count_ones size) 1 (one_from_power size fits.power),
    )
