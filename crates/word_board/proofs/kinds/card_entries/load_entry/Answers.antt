use Rattle.std.proofs.Common.{ℕ, ◌<◌, sym, subst, refl}
use Rattle.board_face.specs.{SlotSteps.{side_entry_loaded}, declared.views.nic.NicSide.{NicSide}}
use Rattle.word_rings.specs.Slots.{refill_width}
use Rattle.ref_words.specs.{Rings.{takes_entry_at, refill_words_at}, Rule.{BoardRule}, Runs.{loads_entry}}
use Rattle.word_board.proofs.Stepping.{card-may, loads, found-refill}
use Rattle.word_board.proofs.kinds.card_entries.load_entry.Goals as goal

pub step-requires-clause-may : goal.step-requires-clause-may
step-requires-clause-may c = card-may (λ n. refl) (λ ws apps rule small.
    let setting = c.args.card.now.board.setting in
    let mine = c.args.card.now.side in
    let a = c.args.app in
    let s = takes_entry_at setting mine a in
    let i : ℕ = refill_words_at mine a in
    let within : s < setting.places = subst (λ k. k < setting.places) c.requires.slot.next c.requires.slot.within in
    let more = subst (λ k. k < refill_width) c.requires.so_far c.requires.more in
    let next : ℕ → NicSide = λ n. side_entry_loaded mine a n in
    let law = c.card_keeps_the_rule.ensures setting ws mine apps (loads_entry a) rule (c.requires.slot.here, c.requires.seen, more) in (
      loads setting ws c.refill-word.result
          (subst (λ n. BoardRule setting ws (next n) apps) (sym (found-refill setting ws a s i c.refill-word.result (cc) c.requires.slot.here within more rule)) law.rule),
      tt,
    ))
