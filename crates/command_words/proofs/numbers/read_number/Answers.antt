-- A number's word is parsed to its value, and the test says that it is one.
use Rattle.std.proofs.Common.{◌≡◌, true, sym, ◌∙◌, refl}
use Rattle.command_words.{proofs.Digits.{read}, specs.Numbers.{is_number}}
use Rattle.command_words.proofs.numbers.read_number.Goals as goal

pub returns-then-is_number : goal.returns-then-is_number
returns-then-is_number c =
    let holds : is_number c.args.word.now ≡ true = sym c.is_number.ensures ∙ c.if-is_number.true in
    let value = read c.args.word.now c.parse.result c.parse.ensures.value.0 holds in
    rw (c.ok.ensures.value, value, holds) refl
