-- What is read so far, and then what the items that are left are read as.
use Rattle.std.proofs.Common.{◌≡◌}
use Rattle.run_check.{specs.Reading.{all_of, area_in_line}, proofs.AllOf.{all_from, onto, texts}}
use Rattle.run_check.proofs.setting.all_areas.Given as goal

abbrev pub invariant-loop-part : goal.invariant-loop-part
invariant-loop-part l = all_of area_in_line (texts l.parts) ≡ onto l.areas.items (all_from area_in_line l.parts l.part-index)
