use Rattle.std.{proofs.Common.{◌≡◌, ◌-◌, ◌∷◌, refl, ap, ◌∙◌, arith, subst}, specs.Prelude.{Contains}}
use Rattle.word_board.{specs.Board.{TheApp, TheBoard}, proofs.Quieting.{AreSeenFree-more, sees-more}}
use Rattle.word_board.proofs.kinds.refill_looks.fall_quiet.Goals as goal

pub loop-slot-init : goal.loop-slot-init
loop-slot-init c = (refl, record { event = refl; seen = λ s small. absurd (omega (arith, small)) })

pub loop-slot-preserved : goal.loop-slot-preserved
loop-slot-preserved c =
    let is = ap (λ (x : TheApp). x.side) c.if-not-look_any.ensures.event in (
      ap (λ (x : TheApp). x.board) c.if-not-look_any.ensures.event ∙ c.loop-slot.invariant.0,
      AreSeenFree-more _ _ _ c.loop-slot.slot c.loop-slot.invariant.1 is,
    )

pub look_at_last-requires-clause-others : goal.look_at_last-requires-clause-others
look_at_last-requires-clause-others c = λ k small.
    let slots = c.loop-slot.app.side.inside.free_slots in
    let last : c.loop-slot.slot ≡ c.args.places - 1 = omega (arith, c.loop-slot-test.false, c.loop-slot.auto.slot-end) in
    subst (λ x. Contains (x ∷ slots) k) last
    (sees-more slots c.loop-slot.slot c.loop-slot.invariant.1.seen k (omega (arith, small, last, c.requires.all, c.requires.some, ap (λ (b : TheBoard). b.setting.places) c.loop-slot.invariant.0)))
