use Rattle.std.proofs.{Common.{eqb, rules}, lemmas.Iterator.{Consumers.{map_from_collect}, Splits.{YieldsList-from_slice_split}}}
use Rattle.run_check.proofs.words.parts_of.Goals as goal

pub returns : goal.returns
returns c =
    map_from_collect _ c.collect.ensures.ran
    (YieldsList-from_slice_split _ (λ b. eqb b c.args.byte) c.args.text.now c.split.ensures.rest c.split.ensures.done c.split.ensures.closure
    (λ x b q k. search rules))
