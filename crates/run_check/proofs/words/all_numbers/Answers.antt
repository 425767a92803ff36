-- An item that is read, one that isn't, and the end.
use Rattle.run_check.{specs.Reading.{number_in_word}, proofs.AllOf.{all_read, item_missing, item_read}}
use Rattle.run_check.proofs.words.all_numbers.Goals as goal

pub loop-word-preserved : goal.loop-word-preserved
loop-word-preserved c =
    let pushed = c.in_ok-push-in-Some.ensures.items in
    rw pushed (item_read number_in_word c.args.words.now c.loop-word.word-index _ c.loop-word.numbers.items c.in-Some.number c.loop-word-test.true
    c.in-Some.ensures
    c.loop-word.invariant)

pub returns-in-None : goal.returns-in-None
returns-in-None c = item_missing number_in_word c.args.words.now c.loop-word.word-index _ c.loop-word.numbers.items c.loop-word-test.true c.in-None.ensures c.loop-word.invariant

pub returns : goal.returns
returns c = all_read number_in_word c.args.words.now c.loop-word.word-index c.loop-word.numbers.items c.loop-word-test.false c.loop-word.invariant
