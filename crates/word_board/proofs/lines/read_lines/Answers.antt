-- The next line is at the head; what is wanted of it is read, and it goes behind the others as it is.
use Rattle.std.proofs.{Common.{◌≡◌, ◌+◌, ◌-◌, ap, sym, ◌∙◌, refl, arith, ◌<◌, ◌≤◌, length, min, take, drop}, lemmas.List.{length-drop, length-take-le}}
use borrow.Rule.Slice.PartMut.{put_mid}
use Rattle.word_board.{specs.Lines.{held}, proofs.LinesOut.{unread, next-to-read, read-on, read-all}}
use Rattle.word_board.proofs.lines.read_lines.Goals as goal

pub loop-done-init : goal.loop-done-init
loop-done-init c = record {
  table = c.requires.table;
  number = refl;
  so_far = unread c.args.first _ c.args.skip _ _ c.requires.has.many c.requires.has.wide refl c.args.seat.now.me c.args.into.now c.requires.has.slots c.requires.skip;
}

pub slot_mut-bytes-requires : goal.slot_mut-bytes-requires
slot_mut-bytes-requires c = (
  c.loop-done.invariant.table,
  next-to-read c.args.first _ c.args.skip _ _ c.requires.has.many c.requires.has.wide refl _ _ _ _ _ _ c.loop-done.invariant.so_far (omega (arith, c.loop-done-test.true, c.loop-done.auto.into)),
)

pub loop-done-preserved : goal.loop-done-preserved
loop-done-preserved c =
    let done = c.loop-done.done in
    let more : done + c.min-more.result - done ≡ c.min-more.result = omega arith in
    let into = c.loop-done.into in
    let less : done < length c.args.into.now = omega (arith, c.loop-done-test.true, c.loop-done.auto.into) in
    let size : length (take (done + c.min-more.result - done) (drop done into)) ≡ c.min-more.result =
    ap (λ n. length (take n (drop done into))) more
    ∙ length-take-le c.min-more.result (drop done into) (omega (arith, length-drop done into, c.min-more.ensures)) in record {
      table = c.turn.ensures.0 ∙ c.loop-done.invariant.table;
      number = c.turn.ensures.1 ∙ c.loop-done.invariant.number;
      so_far = read-on c.args.first _ c.args.skip _ (held c.args.seat.now.me) c.requires.has.many c.requires.has.wide refl _ _ _ _ _ _
          c.loop-done.invariant.so_far c.min-more.result c.turn.new.self.me c.slot_mut-bytes.result.now c.read_line.new.into _ less c.loop-done.auto.into
          (c.min-more.ensures ∙ ap (λ n. min (64 - c.loop-done.from) (n - done)) c.loop-done.auto.into)
          (c.read_line.ensures ∙ ap (λ n. take n (drop c.loop-done.from c.slot_mut-bytes.result.now)) size)
          (ap (λ n. put_mid done n into c.read_line.new.into) more) c.slot_mut-bytes.ensures.value c.turn.ensures.2;
    }

pub returns : goal.returns
returns c =
    let so_far = c.loop-done.invariant.so_far in
    let full : length c.args.into.now ≤ c.loop-done.done = omega (arith, c.loop-done-test.false, c.loop-done.auto.into) in
    let all = read-all c.args.first _ c.args.skip _ (held c.args.seat.now.me) c.requires.has.many c.requires.has.wide refl _ _ _ _ _ _ so_far full
    c.loop-done.auto.into in record {
      same = record {
        table = c.loop-done.invariant.table ∙ sym c.requires.table;
        number = c.loop-done.invariant.number;
        me = λ i. (so_far.view_is i, (all.0 ∙ sym c.requires.has.slots) i);
      };
      bytes = all.1;
    }
