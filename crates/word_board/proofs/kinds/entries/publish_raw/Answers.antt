use Rattle.std.proofs.Common.{◌<◌, refl, subst, arith}
use Rattle.ref_words.specs.{Rings.{writes_entry_at}, Runs.{pushes}}
use Rattle.word_board.proofs.Stepping.{app-may, stores-refill}
use Rattle.word_board.proofs.kinds.entries.publish_raw.Goals as goal

pub step-requires-clause-may : goal.step-requires-clause-may
step-requires-clause-may c = app-may (
    let setting = c.args.app.now.board.setting in
    let mine = c.args.app.now.side in
    let a = mine.view.app in
    let s = writes_entry_at setting mine in
    let within : s < setting.places = subst (λ k. k < setting.places) c.requires.entry.at.next c.requires.entry.at.within in
    record {
      number = λ n. refl;
      making = λ n. refl;
      step = λ ws nic apps rule here small.
          let law = c.app_keeps_the_rule.ensures setting ws nic apps mine (pushes c.args.entry) rule here
          (c.requires.may.idle, c.requires.may.counted, c.requires.may.unbegun, c.requires.entry.seen, c.requires.entry.words, c.requires.entry.fits) in (
            stores-refill setting ws a s 0 c.refill-word.result (cc) c.number.ensures.here within (omega arith) rule 1 law.rule,
            tt,
          );
    })
