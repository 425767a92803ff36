use Rattle.std.proofs.Common.{ℕ, ◌<◌, length, Some, ap, sym, ◌∙◌, subst, refl}
use Rattle.board_face.specs.SlotSteps.{side_entry_loaded}
use Rattle.word_board.{specs.Board.{TheNic, side_entry_taken}, proofs.{EntryTaken.{with_last, takes}, AtHandKept.{still-takes-entry}}}
use Rattle.word_board.proofs.kinds.card_entries.take_entry.Goals as goal

pub returns-clause-event : goal.returns-clause-event
returns-clause-event c =
    let card = c.args.card.now.side in
    let a : ℕ = c.args.app in
    let off : ℕ = c.load_entry-off.result in
    let rest : ℕ = c.load_last-rest.result in
    let there : a < length card.inside.refill_slots = subst (λ n. a < n) (sym c.if-not-look_entry.ensures.slots) c.requires.slot.here in
    c.load_last-rest.ensures
    ∙ (ap (λ (me : TheNic). (record me { side = with_last me.side a rest })) c.load_entry-off.ensures
    ∙ (ap (λ (me : TheNic). (record me { side = with_last (side_entry_loaded me.side a off) a rest })) c.if-not-look_entry.ensures.event
    ∙ (ap (λ side. (record c.args.card.now { side = side })) (takes card a off rest there)
    ∙ ap (λ entry. (record c.args.card.now { side = side_entry_taken card a (Some entry) })) (sym c.refill_read.ensures.entry))))

pub load_entry-off-requires-clause-slot : goal.load_entry-off-requires-clause-slot
load_entry-off-requires-clause-slot c = still-takes-entry c.requires.slot c.if-not-look_entry.ensures.event refl

pub load_last-rest-requires-clause-slot : goal.load_last-rest-requires-clause-slot
load_last-rest-requires-clause-slot c = still-takes-entry (still-takes-entry c.requires.slot c.if-not-look_entry.ensures.event refl) c.load_entry-off.ensures refl
