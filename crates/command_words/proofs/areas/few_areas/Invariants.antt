-- The areas so far, and then those of the parts that are left.
use Rattle.std.{proofs.Common.{◌≡◌, ◌++◌, length, option_map, IsUtf8}, specs.List.{slice_split}}
use Rattle.command_words.specs.Areas.{all_areas, is_comma}
use Rattle.command_words.proofs.areas.few_areas.Given as goal

abbrev pub invariant-loop : goal.invariant-loop
invariant-loop l = record {
  text : IsUtf8 l.rest;
  count : length l.areas.items ≡ l.counter;
  all : all_areas (slice_split is_comma l.text) ≡ option_map (λ others. l.areas.items ++ others) (all_areas (slice_split is_comma l.rest));
}
