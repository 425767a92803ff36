use Rattle.std.proofs.{Common.{◌≡◌, ℕ, ◌+◌, ◌<◌, length, take, drop, ap, sym, ◌∙◌, arith, refl}, lemmas.List.{length-take-le, take_all}}
use Rattle.board_face.specs.SlotSteps.{seen_with, at_slot, side_slot_loaded}
use Rattle.word_board.{specs.Board.{TheApp}, proofs.{NoteLoaded.{still-full, still-long, one-loaded}, AtHandKept.{still-takes-note}}}
use Rattle.word_board.proofs.kinds.taken_notes.load_fields.Goals as goal

pub load_slot-requires-clause-so_far : goal.load_slot-requires-clause-so_far
load_slot-requires-clause-so_far c =
    let rest = drop 1 c.loop-k.body in
    let k : ℕ = c.loop-k.k in
    let so_far : length (take k rest) ≡ k = length-take-le k rest (omega (arith, c.loop-k.auto.k-end, c.loop-k.invariant.2)) in
    ap (λ n. 1 + n) (sym so_far) ∙ sym (ap (λ (me : TheApp). 1 + length me.side.inside.note_slot.words) c.loop-k.invariant.0)

pub loop-k-preserved : goal.loop-k-preserved
loop-k-preserved c =
    let app = c.args.app.now.side in
    let body = c.loop-k.body in
    let k : ℕ = c.loop-k.k in
    let n : ℕ = c.load_slot.result in
    let full = c.loop-k.invariant.1 in
    let within : k < length (drop 1 body) = omega (arith, c.loop-k-test.true, c.loop-k.invariant.2) in (
      c.load_slot.ensures
          ∙ (ap (λ (me : TheApp). (record me { side = side_slot_loaded me.side n })) c.loop-k.invariant.0
          ∙ ap (λ words. (record c.args.app.now { side = at_slot app (seen_with words) })) (one-loaded body k n full within)),
      still-full body k n full,
      still-long body k n full ∙ c.loop-k.invariant.2,
    )

pub returns-clause-event : goal.returns-clause-event
returns-clause-event c =
    let rest = drop 1 c.loop-k.body in
    c.loop-k.invariant.0
    ∙ ap (λ words. (record c.args.app.now { side = at_slot c.args.app.now.side (seen_with words) }))
    (take_all c.loop-k.k rest (omega (arith, c.loop-k-test.false, c.loop-k.invariant.2)))

pub load_slot-requires-clause-slot : goal.load_slot-requires-clause-slot
load_slot-requires-clause-slot c = still-takes-note c.requires.slot c.loop-k.invariant.0 refl
