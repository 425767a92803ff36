use Rattle.std.proofs.Common.{ℕ, ◌==◌, ap, ◌∙◌, refl}
use Rattle.board_face.specs.{declared.views.nic.NicSide.{NicSide}, Steps.{side_judged}}
use Rattle.ref_words.specs.{Words.{user_word_at}, Rule.{BoardRule}, Runs.{judges}}
use Rattle.word_board.proofs.Stepping.{card-may, looks, of-user}
use Rattle.word_board.proofs.kinds.users.look_user.Goals as goal

pub step-requires-clause-may : goal.step-requires-clause-may
step-requires-clause-may c = card-may (λ n. refl) (λ ws apps rule small.
    let setting = c.args.card.now.board.setting in
    let mine = c.args.card.now.side in
    let next : ℕ → NicSide = λ n. side_judged mine c.args.app c.args.entry c.args.buffer (n == 0) in
    let at = c.user-word.ensures.value ∙ ap (λ s. user_word_at s c.args.app c.args.buffer) c.map.ensures in
    let named = c.requires.names in
    let law = c.card_keeps_the_rule.ensures setting ws mine apps (judges c.args.app c.args.entry c.args.buffer) rule
    (c.requires.in_hand, named, c.requires.within) in (
      looks setting ws c.args.app c.args.buffer c.user-word.result at c.requires.app c.requires.within
          (of-user setting ws c.args.app c.args.buffer c.user-word.result at c.requires.app c.requires.within rule (λ n. BoardRule setting ws (next n) apps) law.rule),
      tt,
    ))
