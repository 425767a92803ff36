use Rattle.std.proofs.Common.{refl}
use Rattle.ref_words.specs.Runs.{lowers_user}
use Rattle.word_board.proofs.Stepping.{card-may, lowers-user}
use Rattle.word_board.proofs.kinds.users.lower_user.Goals as goal

pub step-requires-clause-may : goal.step-requires-clause-may
step-requires-clause-may c = card-may (λ n. refl) (λ ws apps rule small.
    let setting = c.args.card.now.board.setting in
    let mine = c.args.card.now.side in
    let law = c.card_keeps_the_rule.ensures setting ws mine apps (lowers_user c.args.app c.args.entry c.args.buffer) rule c.requires.in_hand in
    (lowers-user setting ws c.args.app c.args.buffer c.user-word.result (cc) c.requires.app c.requires.within rule law.finds small law.rule, tt))
