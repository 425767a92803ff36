-- There is a line for each port.
use Rattle.std.proofs.{Common.{length, map, ap, ◌∙◌, arith}, lemmas.List.{length-map}}
use Rattle.run_account.proofs.AppLines.{many-lines}
use Rattle.run_account.proofs.ending.tell.Goals as goal

pub outcome-requires-clause-apps : goal.outcome-requires-clause-apps
outcome-requires-clause-apps g c =
    let end = g.E.Leaves.end in
    omega (
      arith,
      c.in_ok-apps.apps.ok,
      ap length c.in_ok-apps.ensures,
      many-lines c.args.ports.now (map end c.args.ends.now) (length-map c.args.ends.now end ∙ c.requires.many),
      ap length c.requires.ports,
    )
