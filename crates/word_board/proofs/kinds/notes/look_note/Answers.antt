use Rattle.std.{proofs.Common.{◌≡◌, ℕ, ◌<◌, sym, subst, arith}, specs.Prelude.{◌==◌, false, All}}
use Rattle.area_layout.specs.Layout.{pool_buffers}
use Rattle.board_face.specs.{declared.views.{nic.{PlacedText.{PlacedText}, NicSide.{NicSide}}, parts.Setting.{Setting}}, SlotSteps.{side_note_looked}}
use Rattle.ref_words.specs.{Words.{note_at}, Rings.{writes_note_at}, Rule.{BoardRule}, Runs.{looks_note}}
use Rattle.word_board.proofs.{Telling.{tells-card}, Stepping.{card-may, loads, found-note}}
use Rattle.word_board.proofs.kinds.notes.look_note.Goals as goal

pub step-requires-clause-may : goal.step-requires-clause-may
step-requires-clause-may c = card-may (λ n. grind arith) (λ ws apps rule small.
    let setting = c.args.card.now.board.setting in
    let mine = c.args.card.now.side in
    let a = c.args.app in
    let s = writes_note_at setting mine a in
    let i : ℕ = 0 in
    let at : c.note-word.result ≡ note_at setting a s i = cc in
    let within : s < setting.places = subst (λ k. k < setting.places) c.requires.slot.next c.requires.slot.within in
    let next : ℕ → NicSide = λ n. side_note_looked mine a (n == 0) in
    let law = c.card_keeps_the_rule.ensures setting ws mine apps (looks_note a) rule (c.requires.slot.here, c.requires.unstored) in (
      loads setting ws c.note-word.result
          (subst (λ n. BoardRule setting ws (next n) apps) (sym (found-note setting ws a s i c.note-word.result at c.requires.slot.here within (omega arith) rule)) law.rule),
      (
        rule.refs.sides.slots.notes,
        subst (λ (s : Setting). All (λ (p : PlacedText). p.place.buffer < pool_buffers s.layout) mine.view.pieces) rule.refs.sides.set.card
            rule.phases.lies.pieces,
        λ no. tells-card setting ws mine apps rule _ (subst (λ n. (n == 0) ≡ false)
            (found-note setting ws a s i c.note-word.result at c.requires.slot.here within (omega arith) rule) no),
      ),
    ))
