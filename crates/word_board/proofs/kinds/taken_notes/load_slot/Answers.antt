use Rattle.std.proofs.Common.{ℕ, ◌+◌, ◌<◌, length, set, refl, sym, subst}
use Rattle.board_face.specs.{SlotSteps.{side_slot_loaded}, declared.views.app.AppSide.{AppSide}}
use Rattle.word_rings.specs.Slots.{note_width}
use Rattle.ref_words.specs.{Rings.{takes_note_at}, Rule.{BoardRule}, Runs.{loads_slot}}
use Rattle.word_board.proofs.Stepping.{app-may, loads, found-note}
use Rattle.word_board.proofs.kinds.taken_notes.load_slot.Goals as goal

pub step-requires-clause-may : goal.step-requires-clause-may
step-requires-clause-may c = app-may (
    let setting = c.args.app.now.board.setting in
    let mine = c.args.app.now.side in
    let a = mine.view.app in
    let s = takes_note_at setting mine in
    let i : ℕ = 1 + length mine.inside.note_slot.words in
    let within : s < setting.places = subst (λ k. k < setting.places) c.requires.slot.next c.requires.slot.within in
    let more = subst (λ k. k < note_width) c.requires.so_far c.requires.more in
    let next : ℕ → AppSide = λ n. side_slot_loaded mine n in
    record {
      number = λ n. refl;
      making = λ n. refl;
      step = λ ws nic apps rule here small.
          let law = c.app_keeps_the_rule.ensures setting ws nic apps mine loads_slot rule here (c.requires.seen, more) in (
            loads setting ws c.note-word.result
                (subst (λ n. BoardRule setting ws nic (set apps a (next n)))
                (sym (found-note setting ws a s i c.note-word.result (cc) c.number.ensures.here within more rule)) law.rule),
            tt,
          );
    })
