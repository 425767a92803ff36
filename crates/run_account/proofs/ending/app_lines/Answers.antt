-- One line more.
use Rattle.std.proofs.{Common.{length, map, get_or, ap, sym, ◌∙◌, ◌∷◌, [], ◌++◌, refl, arith, take}, lemmas.Option.{slice_get-get_or, slice_get_read}}
use Rattle.run_account.{specs.Ran.{app_lines_of}, proofs.Telling.{end-at, lines-more}}
use Rattle.run_account.proofs.ending.app_lines.Goals as goal

pub loop-app-preserved : goal.loop-app-preserved
loop-app-preserved g c =
    let end = g.E.Leaves.end in
    let so_far = app_lines_of (take c.loop-app.app c.args.ports.now) (take c.loop-app.app (map end c.args.ends.now)) in
    c.in_ok-push.ensures.items ∙ ap (λ lines. lines ++ c.line.result ∷ []) c.loop-app.invariant
    ∙ ap (λ line. so_far ++ line ∷ []) c.line.ensures
    ∙ sym (lines-more c.args.ports.now (map end c.args.ends.now) c.loop-app.app (get_or c.args.ports.now c.loop-app.app 0)
    (end c.index-ends-app.result) (slice_get-get_or c.args.ports.now c.loop-app.app 0 c.loop-app-test.true)
    (end-at end c.args.ends.now c.loop-app.app c.index-ends-app.result
    (slice_get_read c.args.ends.now (length c.args.ends.now) c.loop-app.app c.index-ends-app.result refl
    (omega (arith, c.loop-app-test.true, c.requires)) c.index-ends-app.is)))
