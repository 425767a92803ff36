-- The last turn left, at the same board.
use Rattle.std.proofs.{Common.{◌≡◌, ◌∙◌, ap}, lemmas.Result.{IfOk-weaker}}
use Rattle.app_runs.proofs.example.shelf.write_flows.Goals as goal

pub returns : goal.returns
returns g c =
    let face : c.new.result.face ≡ c.args.face = c.new.ensures.parts.0 ∙ ap (λ s. s.face) c.new-stream.ensures.stream in
    record {
      left = IfOk-weaker c.block_on.result _ _
          (λ came gave.
          let (beside, ends) = rw c.with_parts.ensures at gave in
          let last = ends _ _ c.new.ensures.stands in
          (last.left, last.same ∙ ap (λ f. (g.F.AppFace.seen f).app) face ∙ c.requires.new.app_is, beside ∙ ap g.F.AppFace.beside face))
          c.block_on.ensures;
    }
