-- What was scrubbed before is.
use Rattle.std.proofs.Common.{◌≡◌, true, false, ap, refl, sym, ◌∙◌}
use Rattle.board_face.specs.declared.views.app.AppView.{AppView}
use Rattle.flow_queues.proofs.leaving.scrub.Goals as goal

pub returns-then-scrubbed-clause-scrubs : goal.returns-then-scrubbed-clause-scrubs
returns-then-scrubbed-clause-scrubs g c =
    let v : AppView = g.F.AppFace.seen c.args.face.now in
    let is : v.scrubbed ≡ true = c.requires.may.known ∙ c.if-scrubbed.true in
    (c.if-scrubbed.true, record { view = ap (λ b. record v { scrubbed = b }) is; seen = λ not. absurd (let e : true ≡ false = sym is ∙ not in cc); same = λ _. refl })
