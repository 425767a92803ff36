use Rattle.std.proofs.Common.{ℕ, ◌<◌, refl, subst, arith}
use Rattle.board_face.specs.{SlotSteps.{side_took_linear}, declared.views.app.AppSide.{AppSide}}
use Rattle.ref_words.specs.{Rings.{takes_note_at, loaded_note, loaded_bytes}, Runs.{takes_linear}}
use Rattle.word_board.proofs.Stepping.{app-may, stores-note}
use Rattle.word_board.proofs.kinds.taken_notes.free_linear.Goals as goal

pub step-requires-clause-may : goal.step-requires-clause-may
step-requires-clause-may c = app-may (
    let setting = c.args.app.now.board.setting in
    let mine = c.args.app.now.side in
    let a = mine.view.app in
    let s = takes_note_at setting mine in
    let i : ℕ = 0 in
    let within : s < setting.places = subst (λ k. k < setting.places) c.requires.slot.next c.requires.slot.within in
    let next : ℕ → AppSide = λ n. side_took_linear mine (loaded_note mine) (loaded_bytes mine) in
    record {
      number = λ n. refl;
      making = λ n. refl;
      step = λ ws nic apps rule here small.
          let law = c.app_keeps_the_rule.ensures setting ws nic apps mine takes_linear rule here
          (c.requires.seen, c.requires.enough, c.requires.split) in
          (stores-note setting ws a s i c.note-word.result (cc) c.number.ensures.here within (omega arith) rule 0 law.rule, law.finds);
    })
