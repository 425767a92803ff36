use Rattle.std.proofs.Common.{◌+◌, ◌<◌, length, refl, subst}
use Rattle.word_rings.specs.Slots.{refill_width}
use Rattle.ref_words.specs.{Rings.{writes_entry_at}, Runs.{stores_entry}}
use Rattle.word_board.proofs.Stepping.{app-may, stores-refill}
use Rattle.word_board.proofs.kinds.entries.store_refill.Goals as goal

pub step-requires-clause-may : goal.step-requires-clause-may
step-requires-clause-may c = app-may (
    let setting = c.args.app.now.board.setting in
    let mine = c.args.app.now.side in
    let a = mine.view.app in
    let s = writes_entry_at setting mine in
    let i = 1 + length mine.inside.refill_slot.words in
    let within : s < setting.places = subst (λ k. k < setting.places) c.requires.slot.next c.requires.slot.within in
    let more = subst (λ k. k < refill_width) c.requires.so_far c.requires.more in
    record {
      number = λ n. refl;
      making = λ n. refl;
      step = λ ws nic apps rule here small.
          let law = c.app_keeps_the_rule.ensures setting ws nic apps mine (stores_entry c.args.n) rule here (c.requires.seen, more) in (
            stores-refill setting ws a s i c.refill-word.result (cc) c.number.ensures.here within more rule c.args.n law.rule,
            tt,
          );
    })
