use Rattle.std.proofs.Common.{ℕ, ◌<◌, subst, arith, refl}
use Rattle.board_face.specs.{SlotSteps.{side_dealt}, declared.views.nic.{Fate.TheVariants.{Stray}, NicSide.{NicSide}}}
use Rattle.ref_words.specs.{Rings.{takes_entry_at}, Runs.{frees_stray}}
use Rattle.word_board.proofs.Stepping.{card-may, stores-refill}
use Rattle.word_board.proofs.kinds.card_entries.free_stray.Goals as goal

pub step-requires-clause-may : goal.step-requires-clause-may
step-requires-clause-may c = card-may (λ n. refl) (λ ws apps rule small.
    let setting = c.args.card.now.board.setting in
    let mine = c.args.card.now.side in
    let a = c.args.app in
    let s = takes_entry_at setting mine a in
    let i : ℕ = 0 in
    let within : s < setting.places = subst (λ k. k < setting.places) c.requires.entry.at.next c.requires.entry.at.within in
    let next : ℕ → NicSide = λ n. side_dealt mine a c.args.entry Stray in
    let law = c.card_keeps_the_rule.ensures setting ws mine apps (frees_stray a c.args.entry) rule
    (c.requires.entry.at.here, c.requires.entry.seen, c.requires.entry.in_hand) in
    (stores-refill setting ws a s i c.refill-word.result (cc) c.requires.entry.at.here within (omega arith) rule 0 law.rule, tt))
