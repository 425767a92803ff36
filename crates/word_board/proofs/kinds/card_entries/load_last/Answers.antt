use Rattle.std.proofs.Common.{◌≡◌, ℕ, ◌+◌, ◌<◌, ◌++◌, ◌∷◌, [], subst, arith, refl}
use Rattle.board_face.specs.{SlotSteps.{next_slot, side_in_hand}, declared.views.nic.NicSide.{NicSide}}
use Rattle.word_rings.specs.Slots.{refill_width, entry_of_words}
use Rattle.ref_words.specs.{Rings.{takes_entry_at, refill_words_at}, Runs.{loads_last}}
use Rattle.word_board.proofs.Stepping.{card-may, loads, found-refill}
use Rattle.word_board.proofs.kinds.card_entries.load_last.Goals as goal

pub step-requires-clause-may : goal.step-requires-clause-may
step-requires-clause-may c = card-may (λ n. refl) (λ ws apps rule small.
    let setting = c.args.card.now.board.setting in
    let mine = c.args.card.now.side in
    let a = c.args.app in
    let s = takes_entry_at setting mine a in
    let i : ℕ = refill_words_at mine a in
    let within : s < setting.places = subst (λ k. k < setting.places) c.requires.slot.next c.requires.slot.within in
    let last : i + 1 ≡ refill_width = subst (λ k. k + 1 ≡ refill_width) c.requires.so_far c.requires.last in
    let more : i < refill_width = omega (arith, last) in
    let next : ℕ → NicSide = λ n. side_in_hand mine a n (entry_of_words (1 ∷ (next_slot mine.inside.refill_slots a).words ++ n ∷ [])) in
    let law = c.card_keeps_the_rule.ensures setting ws mine apps (loads_last a _) rule (
      c.requires.slot.here,
      c.requires.seen,
      last,
      c.requires.idle,
      (found-refill setting ws a s i c.refill-word.result (cc) c.requires.slot.here within more
          rule),
    ) in (
      loads setting ws c.refill-word.result law.rule,
      tt,
    ))
