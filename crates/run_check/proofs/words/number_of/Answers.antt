use Rattle.std.proofs.Common.{arith}
use Rattle.run_check.proofs.Numerals.{next_digit, next_fits}
use Rattle.run_check.proofs.words.number_of.Goals as goal

pub overflow_mul-value : goal.overflow_mul-value
overflow_mul-value c = omega (arith, next_fits c.args.word.now c.loop-byte.byte-index c.loop-byte.invariant.numeral c.loop-byte-test.true)

pub overflow_add-value : goal.overflow_add-value
overflow_add-value c = omega (arith, next_fits c.args.word.now c.loop-byte.byte-index c.loop-byte.invariant.numeral c.loop-byte-test.true)

pub loop-byte-preserved : goal.loop-byte-preserved
loop-byte-preserved c = record {
  numeral = c.loop-byte.invariant.numeral;
  value = omega (arith, next_digit c.args.word.now c.loop-byte.byte-index c.loop-byte.invariant.numeral c.loop-byte-test.true);
}
