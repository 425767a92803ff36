use Rattle.std.proofs.Common.{arith, refl}
use Rattle.ref_words.specs.Runs.{takes}
use Rattle.word_board.proofs.Stepping.{card-may, raises}
use Rattle.word_board.proofs.kinds.card_counts.take_buffer.Goals as goal

pub step-requires-clause-may : goal.step-requires-clause-may
step-requires-clause-may c = card-may (λ n. refl) (λ ws apps rule small.
    let setting = c.args.card.now.board.setting in
    let mine = c.args.card.now.side in
    let law = c.card_keeps_the_rule.ensures setting ws mine apps (takes c.args.buffer) rule (c.requires.last, c.requires.running) in
    (raises setting ws c.args.buffer c.pool-word.result (cc) c.requires.within rule (omega (arith, law.finds.1)) law.rule, law.finds.0))
