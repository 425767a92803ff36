-- An item that is read, one that isn't, and the end.
use Rattle.std.proofs.Common.{sym, ◌∙◌}
use Rattle.run_check.{specs.Reading.{area_in_line}, proofs.AllOf.{all_read, item_missing, item_read}}
use Rattle.run_check.proofs.setting.all_areas.Goals as goal

pub loop-part-preserved : goal.loop-part-preserved
loop-part-preserved c =
    let pushed = c.in_ok-push-in-Some.ensures.items in
    rw pushed (item_read area_in_line c.args.parts.now c.loop-part.part-index _ c.loop-part.areas.items c.in-Some.area c.loop-part-test.true
    (sym c.in-Some.is ∙ c.in_ok-area.ensures) c.loop-part.invariant)

pub returns-in-None : goal.returns-in-None
returns-in-None c =
    item_missing area_in_line c.args.parts.now c.loop-part.part-index _ c.loop-part.areas.items c.loop-part-test.true (sym c.in-None.is ∙ c.in_ok-area.ensures)
    c.loop-part.invariant

pub returns : goal.returns
returns c = all_read area_in_line c.args.parts.now c.loop-part.part-index c.loop-part.areas.items c.loop-part-test.false c.loop-part.invariant
