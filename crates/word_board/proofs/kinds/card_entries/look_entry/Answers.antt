use Rattle.std.{proofs.Common.{◌≡◌, ℕ, ◌<◌, sym, subst, arith}, specs.Prelude.{◌==◌, false}}
use Rattle.board_face.specs.{SlotSteps.{side_entry_looked}, declared.views.nic.NicSide.{NicSide}}
use Rattle.ref_words.specs.{Words.{refill_at}, Rings.{takes_entry_at}, Rule.{BoardRule}, Runs.{looks_entry}}
use Rattle.word_board.proofs.{Telling.{tells-card}, Stepping.{card-may, loads, found-refill}}
use Rattle.word_board.proofs.kinds.card_entries.look_entry.Goals as goal

pub step-requires-clause-may : goal.step-requires-clause-may
step-requires-clause-may c = card-may (λ n. grind arith) (λ ws apps rule small.
    let setting = c.args.card.now.board.setting in
    let mine = c.args.card.now.side in
    let a = c.args.app in
    let s = takes_entry_at setting mine a in
    let i : ℕ = 0 in
    let at : c.refill-word.result ≡ refill_at setting a s i = cc in
    let within : s < setting.places = subst (λ k. k < setting.places) c.requires.slot.next c.requires.slot.within in
    let next : ℕ → NicSide = λ n. side_entry_looked mine a (n == 1) in
    let law = c.card_keeps_the_rule.ensures setting ws mine apps (looks_entry a) rule c.requires.slot.here in (
      loads setting ws c.refill-word.result
          (subst (λ n. BoardRule setting ws (next n) apps) (sym (found-refill setting ws a s i c.refill-word.result at c.requires.slot.here within (omega arith) rule)) law.rule),
      (
        rule.refs.sides.slots.refills,
        λ no. tells-card setting ws mine apps rule _ (subst (λ n. (n == 1) ≡ false)
            (found-refill setting ws a s i c.refill-word.result at c.requires.slot.here within (omega arith) rule) no),
      ),
    ))
