-- The next line is at the head; it gets its part of the text and goes behind the others.
use Rattle.std.proofs.Common.{◌≡◌, ◌+◌, ◌-◌, ap, ◌∙◌, refl, arith, take, drop}
use Rattle.word_board.proofs.LinesOut.{unwritten, next-to-write, written-on, written-all}
use Rattle.word_board.proofs.lines.write_lines.Goals as goal

pub loop-done-init : goal.loop-done-init
loop-done-init c = record {
  table = c.requires.table;
  number = refl;
  so_far = unwritten c.args.first _ c.args.bytes.now refl c.args.seat.now.me c.requires.has;
}

pub overflow_add-first : goal.overflow_add-first
overflow_add-first c = omega (arith, c.requires.few, c.loop-done-test.true)

pub slot_mut-line-requires : goal.slot_mut-line-requires
slot_mut-line-requires c = (
  c.loop-done.invariant.table,
  next-to-write c.args.first _ c.args.bytes.now refl _ c.loop-done.done c.loop-done.seat.me c.loop-done.invariant.so_far c.loop-done-test.true,
)

pub loop-done-preserved : goal.loop-done-preserved
loop-done-preserved c =
    let more : c.loop-done.done + c.min-more.result - c.loop-done.done ≡ c.min-more.result = omega arith in record {
      table = c.turn.ensures.0 ∙ c.loop-done.invariant.table;
      number = c.turn.ensures.1 ∙ c.loop-done.invariant.number;
      so_far = written-on c.args.first _ c.args.bytes.now refl _ c.loop-done.done c.min-more.result c.loop-done.seat.me c.turn.new.self.me
          c.slot_mut-line.result.now _ c.write_line.new.line c.loop-done.invariant.so_far c.loop-done-test.true c.min-more.ensures
          (ap (λ n. take n (drop c.loop-done.done c.args.bytes.now)) more) c.write_line.ensures c.slot_mut-line.ensures.value c.turn.ensures.2;
    }

pub returns-clause-has : goal.returns-clause-has
returns-clause-has c =
    (written-all c.args.first _ c.args.bytes.now refl _ c.loop-done.done c.loop-done.seat.me c.loop-done.invariant.so_far c.loop-done-test.false).0

pub returns-clause-text : goal.returns-clause-text
returns-clause-text c =
    (written-all c.args.first _ c.args.bytes.now refl _ c.loop-done.done c.loop-done.seat.me c.loop-done.invariant.so_far c.loop-done-test.false).1
