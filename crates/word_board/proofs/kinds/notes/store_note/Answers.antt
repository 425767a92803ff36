use Rattle.std.proofs.Common.{ℕ, ◌<◌, subst, refl}
use Rattle.board_face.specs.{SlotSteps.{side_note_stored}, declared.views.nic.NicSide.{NicSide}}
use Rattle.word_rings.specs.Slots.{note_width}
use Rattle.ref_words.specs.{Rings.{writes_note_at, note_words_at}, Runs.{stores_note}}
use Rattle.word_board.proofs.Stepping.{card-may, stores-note}
use Rattle.word_board.proofs.kinds.notes.store_note.Goals as goal

pub step-requires-clause-may : goal.step-requires-clause-may
step-requires-clause-may c = card-may (λ n. refl) (λ ws apps rule small.
    let setting = c.args.card.now.board.setting in
    let mine = c.args.card.now.side in
    let a = c.args.app in
    let s = writes_note_at setting mine a in
    let i : ℕ = note_words_at mine a in
    let within : s < setting.places = subst (λ k. k < setting.places) c.requires.slot.next c.requires.slot.within in
    let more = subst (λ k. k < note_width) c.requires.so_far c.requires.more in
    let next : ℕ → NicSide = λ n. side_note_stored mine a c.args.n in
    let law = c.card_keeps_the_rule.ensures setting ws mine apps (stores_note a c.args.n) rule (c.requires.slot.here, c.requires.seen, more) in
    (stores-note setting ws a s i c.note-word.result (cc) c.requires.slot.here within more rule c.args.n law.rule, tt))
