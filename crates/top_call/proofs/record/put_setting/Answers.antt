use Rattle.std.{proofs.Common.{[], ◌∷◌, ◌++◌, ap, map, ◌∙◌}, specs.{Fmt.{decimal}, List.{join_with_byte}}}
use Rattle.zr_kinds.specs.RunText.{area_text, run_line}
use Rattle.top_call.proofs.Gathering.{setting-text}
use Rattle.top_call.proofs.record.put_setting.Goals as goal

pub returns : goal.returns
unfolding run_line
returns c =
    let areas = join_with_byte 44 (map area_text c.args.areas.now) in
    let apps = decimal c.args.apps in
    c.push_str-3.ensures.bytes
    ∙ ap (λ l. l ++ 10 ∷ []) c.put_number.ensures.bytes
    ∙ ap (λ l. (l ++ apps) ++ 10 ∷ []) c.push_str-2.ensures.bytes
    ∙ ap (λ l. ((l ++ 32 ∷ []) ++ apps) ++ 10 ∷ []) c.put_areas.ensures.bytes
    ∙ ap (λ l. (((l ++ areas) ++ 32 ∷ []) ++ apps) ++ 10 ∷ []) c.push_str.ensures.bytes
    ∙ setting-text c.args.block.now.bytes areas apps
