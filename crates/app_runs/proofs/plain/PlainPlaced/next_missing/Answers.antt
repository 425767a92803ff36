use Rattle.std.proofs.Common.{rules, ◌≡◌, length, ap, ◌∙◌}
use Rattle.app_runs.{specs.Plain.{placed_in}, proofs.Placing.{front-length}}
use Rattle.app_runs.proofs.plain.PlainPlaced.next_missing.Goals as goal

pub returns-clause-exact : goal.returns-clause-exact
returns-clause-exact c =
    let n : c.len.result ≡ length c.in_ok-front.field-0.items = search rules in
    n ∙ ap length c.in_ok-front.ensures.front ∙ front-length (placed_in c.args.self.now.marks.items c.args.self.now.top)
