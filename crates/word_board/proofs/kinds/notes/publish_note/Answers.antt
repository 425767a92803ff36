use Rattle.std.proofs.Common.{ℕ, ◌<◌, subst, arith, refl}
use Rattle.board_face.specs.{SlotSteps.{side_sent}, declared.views.nic.NicSide.{NicSide}}
use Rattle.ref_words.specs.{Rings.{writes_note_at}, Runs.{sends}}
use Rattle.word_board.proofs.Stepping.{card-may, stores-note}
use Rattle.word_board.proofs.kinds.notes.publish_note.Goals as goal

pub step-requires-clause-may : goal.step-requires-clause-may
step-requires-clause-may c = card-may (λ n. refl) (λ ws apps rule small.
    let setting = c.args.card.now.board.setting in
    let mine = c.args.card.now.side in
    let a = c.args.app in
    let s = writes_note_at setting mine a in
    let i : ℕ = 0 in
    let within : s < setting.places = subst (λ k. k < setting.places) c.requires.note.at.next c.requires.note.at.within in
    let words_are = c.requires.note.words in
    let next : ℕ → NicSide = λ n. side_sent mine a c.args.note in
    let law = c.card_keeps_the_rule.ensures setting ws mine apps (sends a c.args.note) rule
    (c.requires.note.at.here, c.requires.out, c.requires.fields, c.requires.note.seen, words_are, c.requires.note.fits) in
    (stores-note setting ws a s i c.note-word.result (cc) c.requires.note.at.here within (omega arith) rule 1 law.rule, tt))
