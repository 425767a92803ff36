-- The application of a flow.
use Rattle.std.proofs.{Common.{◌==◌, Some, ap, ◌∙◌, arith, option_map}, lemmas.List.Quantifiers.{position-Some}}
use Rattle.flow_table.specs.Flows.{Flow}
use Rattle.card_feed.proofs.Lines.{told_of}
use Rattle.card_feed.proofs.feed.Feed.flow_app.Goals as goal

pub returns : goal.returns
returns c =
    let (flow, is, same) = told_of _ _ c.line.ensures in
    let place = position-Some (λ p. p == flow.key.dport) c.self.inside.intake.table.ports flow.app 0 (c.self.inside.intake.apps c.args.flow flow is) in
    rw (← c.self.view_is) (record {
      app = ap (option_map (λ (f : Flow). f.app)) is ∙ ap (λ info. Some info.app) same;
      port = omega (arith, place.0, ap (λ info. info.app) same);
    })
