-- The layout is the one that was asked for.
use Rattle.std.proofs.Common.{rules, ◌≡◌, Some, ap, ◌∙◌}
use Rattle.board_face.specs.declared.views.parts.Setting.{Setting}
use Rattle.app_runs.proofs.words.open.Goals as goal

pub returns-clause-setting : goal.returns-clause-setting
returns-clause-setting c =
    let made : c.new.result ≡ Some c.in_ok-layout.layout = search rules in
    ap (λ (s : Setting). s.layout) c.in_ok-open.ensures.setting ∙ rw made at c.new.ensures.value
