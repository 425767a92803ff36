use Rattle.std.proofs.Common.{ℕ, ◌+◌, ◌<◌, length, take, drop, get_or, ap, sym, ◌∙◌, subst, arith, length-drop, refl}
use Rattle.board_face.specs.SlotSteps.{seen_with, at_note, side_note_stored}
use Rattle.word_board.{specs.Board.{TheNic}, proofs.{NoteFilled.{one-word, stored}, AtHandKept.{still-writes-note}}}
use Rattle.word_board.proofs.kinds.notes.store_words.Goals as goal

pub loop-k-preserved : goal.loop-k-preserved
loop-k-preserved c =
    let card = c.args.card.now.side in
    let a : ℕ = c.args.app in
    let body = c.args.body.now in
    let k : ℕ = c.loop-k.k in
    let there : a < length card.inside.note_slots = subst (λ n. a < n) (sym c.requires.slots) c.requires.slot.here in
    let within : k < length (drop 1 body) = omega (arith, c.loop-k-test.true, c.loop-k.auto.k-end, length-drop 1 body, c.fits-body, c.type_inv.body) in
    c.store_note.ensures
    ∙ (ap (λ (me : TheNic). (record me { side = side_note_stored me.side a (get_or body (1 + k) 0) })) c.loop-k.invariant
    ∙ (ap (λ side. (record c.args.card.now { side = side })) (stored card a there (take k (drop 1 body)) (get_or body (1 + k) 0))
    ∙ ap (λ words. (record c.args.card.now { side = at_note card a (seen_with words) })) (sym (one-word body k within))))

pub store_note-requires-clause-slot : goal.store_note-requires-clause-slot
store_note-requires-clause-slot c = still-writes-note c.requires.slot c.loop-k.invariant refl
