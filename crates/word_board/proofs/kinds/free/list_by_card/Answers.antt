use Rattle.std.proofs.Common.{◌/◌, ◌<◌, arith, refl}
use Rattle.board_face.specs.{NicCalls.{free_words_of}, NicEvents.{word_bits}}
use Rattle.ref_words.specs.Runs.{lists}
use Rattle.word_board.proofs.{FreeWords.{lists-bit}, Stepping.{card-may}}
use Rattle.word_board.proofs.kinds.free.list_by_card.Goals as goal

pub step-requires-clause-may : goal.step-requires-clause-may
step-requires-clause-may c = card-may (λ n. refl) (λ ws apps rule small.
    let setting = c.args.card.now.board.setting in
    let mine = c.args.card.now.side in
    let b = c.args.buffer in
    let within : b / word_bits < free_words_of setting = (omega (arith, c.requires.of_pool)) in
    let law = c.card_keeps_the_rule.ensures setting ws mine apps (lists b) rule c.requires.in_hand in
    (lists-bit setting ws b c.free-word.result (cc) within rule law.rule, tt))
