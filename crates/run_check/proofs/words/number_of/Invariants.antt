use Rattle.std.{proofs.Common.{◌≡◌, take, true}, specs.Str.Parse.{digits_value}}
use Rattle.run_check.specs.Reading.{is_numeral}
use Rattle.run_check.proofs.words.number_of.Given as goal

abbrev pub invariant-loop-byte : goal.invariant-loop-byte
invariant-loop-byte l = record {
  numeral : is_numeral l.word ≡ true;
  value : l.value ≡ digits_value 10 (take l.byte-index l.word);
}
