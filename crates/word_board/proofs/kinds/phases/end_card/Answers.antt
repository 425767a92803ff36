use Rattle.std.proofs.Common.{arith, refl}
use Rattle.ref_words.specs.Runs.{ends}
use Rattle.word_board.proofs.{PhaseSteps.{stores-phase}, Stepping.{card-may}}
use Rattle.word_board.proofs.kinds.phases.end_card.Goals as goal

pub step-requires-clause-may : goal.step-requires-clause-may
step-requires-clause-may c = card-may (λ n. refl) (λ ws apps rule small.
    let setting = c.args.card.now.board.setting in
    let mine = c.args.card.now.side in
    let law = c.card_keeps_the_rule.ensures setting ws mine apps ends rule (c.requires.none, c.requires.idle) in
    (stores-phase setting ws 0 c.phase-word.result (cc) (omega arith) rule law.rule, tt))
