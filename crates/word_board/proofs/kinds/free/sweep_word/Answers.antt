use Rattle.std.proofs.Common.{ℕ, refl, ap, ◌∙◌}
use Rattle.board_face.specs.declared.views.nic.NicSide.{NicSide}
use Rattle.ref_words.specs.{FreeSteps.{IsSwept, side_swept}, Words.{free_at, with_free}, Rule.{BoardRule}, Runs.{sweeps}}
use Rattle.word_board.proofs.{FreeWords.{makes-free, of-word}, Stepping.{card-may}}
use Rattle.word_board.proofs.kinds.free.sweep_word.Goals as goal

pub step-requires-clause-may : goal.step-requires-clause-may
step-requires-clause-may c = card-may (λ n. refl) (λ ws apps rule small.
    let setting = c.args.card.now.board.setting in
    let mine = c.args.card.now.side in
    let j = c.args.word in
    let next : ℕ → NicSide = λ n. side_swept mine j n in
    let at = c.free-index.ensures.value ∙ ap (λ s. free_at s j) c.map.ensures in
    let law = c.card_keeps_the_rule.ensures setting ws mine apps (sweeps j) rule (c.requires.within, c.requires.room) in (
      makes-free setting ws j c.free-index.result at c.requires.within rule 0 0 refl
          (of-word setting ws j c.free-index.result at c.requires.within rule (λ n. BoardRule setting (with_free ws j 0) (next n) apps) law.rule),
      of-word setting ws j c.free-index.result at c.requires.within rule (λ n. IsSwept mine j n) law.finds,
    ))
