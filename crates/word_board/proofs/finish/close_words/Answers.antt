use Rattle.std.{proofs.Common.{subst, sym}, specs.Slots.{slots_items}}
use Rattle.atomic_table.specs.Table.{Final, Seen}
use Rattle.word_board.{specs.{Board.{IsBoard}, Desk.{AllAreBack, HaveNoCounts}}, proofs.WordsClosed.{closed-uncounted}}
use Rattle.word_board.proofs.finish.close_words.Goals as goal

pub returns-clause-counts : goal.returns-clause-counts
returns-clause-counts c =
    let words = c.args.words in
    let key = words.table.shared.key in
    let v = c.args.desk.me.0 in
    let all = subst (λ s. AllAreBack s v) words.keyed c.requires.all in
    let left = slots_items c.close_with-closed.result.words in
    let slots = slots_items c.close_with-closed.result.slots in
    let final = subst (λ n. Final (Seen (IsBoard key) n v) left slots) c.requires.first c.close_with-closed.ensures.values.2 in
    subst (λ s. HaveNoCounts s left) (sym words.keyed) (closed-uncounted c.what_is_over.ensures key v left slots c.requires.over all final)
