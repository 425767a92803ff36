use Rattle.std.proofs.Common.{◌≡◌, ℕ, ◌+◌, ◌<◌, [], ◌∷◌, ◌++◌, length, take, append_assoc, ap, sym, ◌∙◌, arith}
use Rattle.std.proofs.{lemmas.List.{length-take-le, length-append, length-set, take_more_set}, Common.{refl}}
use Rattle.board_face.specs.SlotSteps.{seen_with, at_slot, side_slot_loaded}
use Rattle.word_rings.specs.Slots.{field_words}
use Rattle.word_board.{specs.Board.{TheApp}, proofs.AtHandKept.{still-takes-note}}
use Rattle.word_board.proofs.kinds.taken_notes.load_payload.Goals as goal

pub load_slot-requires-clause-so_far : goal.load_slot-requires-clause-so_far
load_slot-requires-clause-so_far c =
    let fields = c.args.app.now.side.inside.note_slot.words in
    let payload = c.loop-k.payload in
    let k : ℕ = c.loop-k.k in
    let so_far = length-take-le k payload (omega (arith, c.loop-k.auto.k-end, c.requires.many, c.loop-k.invariant.1)) in
    let many : length (fields ++ take k payload) ≡ field_words + k = omega (arith, length-append fields (take k payload), so_far, c.requires.fields) in
    omega (arith, many, ap (λ (me : TheApp). length me.side.inside.note_slot.words) c.loop-k.invariant.0)

pub loop-k-preserved : goal.loop-k-preserved
loop-k-preserved c =
    let app = c.args.app.now.side in
    let fields = app.inside.note_slot.words in
    let payload = c.loop-k.payload in
    let k : ℕ = c.loop-k.k in
    let n : ℕ = c.load_slot.result in
    let within : k < length payload = omega (arith, c.loop-k-test.true, c.requires.many, c.loop-k.invariant.1) in (
      c.load_slot.ensures
          ∙ (ap (λ (me : TheApp). (record me { side = side_slot_loaded me.side n })) c.loop-k.invariant.0
          ∙ ap (λ words. (record c.args.app.now { side = at_slot app (seen_with words) }))
          (append_assoc fields (take k payload) (n ∷ []) ∙ ap (λ ws. fields ++ ws) (sym (take_more_set payload k n within)))),
      length-set payload k n ∙ c.loop-k.invariant.1,
    )

pub load_slot-requires-clause-slot : goal.load_slot-requires-clause-slot
load_slot-requires-clause-slot c = still-takes-note c.requires.slot c.loop-k.invariant.0 refl
