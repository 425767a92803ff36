use Rattle.std.proofs.Common.{ℕ, ◌-◌, ◌==◌, ap, ◌∙◌, arith, refl}
use Rattle.board_face.specs.{declared.views.nic.NicSide.{NicSide}, Steps.{side_both_lowered}}
use Rattle.ref_words.specs.{Words.{pool_at, with_pool, pool_word_of}, Rule.{BoardRule}, Runs.{lowers_pool}}
use Rattle.word_board.proofs.Stepping.{card-may, lowers, of-count}
use Rattle.word_board.proofs.kinds.card_counts.lower_returned.Goals as goal

pub step-requires-clause-may : goal.step-requires-clause-may
step-requires-clause-may c = card-may (λ n. refl) (λ ws apps rule small.
    let setting = c.args.card.now.board.setting in
    let mine = c.args.card.now.side in
    let next : ℕ → NicSide = λ n. side_both_lowered mine c.args.app c.args.entry c.args.buffer (n == 1) in
    let at = c.pool-word.ensures.value ∙ ap (λ s. pool_at s c.args.buffer) c.map.ensures in
    let law = c.card_keeps_the_rule.ensures setting ws mine apps (lowers_pool c.args.app c.args.entry c.args.buffer) rule c.requires.in_hand in (
      lowers setting ws c.args.buffer c.pool-word.result at c.requires.within rule 1 (omega arith) law.finds small
          (of-count setting ws c.args.buffer c.pool-word.result at c.requires.within rule (λ n. BoardRule setting (with_pool ws c.args.buffer
          (pool_word_of ws c.args.buffer - 1))
          (next n) apps) law.rule),
      tt,
    ))
