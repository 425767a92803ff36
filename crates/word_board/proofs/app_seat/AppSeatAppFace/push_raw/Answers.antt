use Rattle.std.proofs.Common.{◌<◌, ◌∙◌, sym, ap, arith, refl, subst}
use Rattle.board_face.specs.{AppCalls.{NamesNoLoan}, declared.views.{app.AppLook.TheVariants.{RefillInUse}, parts.Setting.{Setting}}, NotNow.{HasWrittenRingful}}
use Rattle.word_board.{specs.Board.{TheApp}, proofs.{AppKept.{entry-within, kept-saw, kept-pushed}, Implied.{full-written}}}
use Rattle.word_board.proofs.app_seat.AppSeatAppFace.push_raw.Goals as goal

pub invariant_of-self : goal.invariant_of-self
invariant_of-self c =
    let mine = c.self.inside.app.side in
    let hand = c.self.inside.hand in
    let setting = c.self.inside.app.board.setting in
    let keeps = kept-saw setting mine hand.note hand.entry hand.raw hand.loans.items hand.filled.items c.self.invariant RefillInUse in
    rw c.if-not-push_raw.ensures.event keeps

pub invariant_of-self-2 : goal.invariant_of-self-2
invariant_of-self-2 c =
    let mine = c.self.inside.app.side in
    let hand = c.self.inside.hand in
    let setting = c.self.inside.app.board.setting in
    let places = c.places-places.ensures.value ∙ ap (λ (s : Setting). s.places) c.map.ensures in
    let some : 0 < setting.places = omega (arith, places, c.places-places.ensures.some) in
    let keeps = kept-pushed setting mine hand.note hand.entry hand.raw hand.loans.items hand.filled.items c.self.invariant c.args.entry
    (entry-within setting mine hand.note hand.entry hand.raw c.self.invariant.slots some) in
    rw c.if-not-push_raw.ensures.event (rw (c.slot_after-self-inside.ensures, places) keeps)

pub returns-then-not-push_raw-clause-full : goal.returns-then-not-push_raw-clause-full
returns-then-not-push_raw-clause-full c =
    subst (λ (s : TheApp). HasWrittenRingful s.side.view) c.self.view_is
    (full-written _ c.self.inside.app.side.view (c.if-not-push_raw.ensures.told refl))

pub push_raw-requires-clause-slot : goal.push_raw-requires-clause-slot
push_raw-requires-clause-slot c =
    let hand = c.self.inside.hand in
    let setting = c.self.inside.app.board.setting in
    let places = c.places-places.ensures.value ∙ ap (λ (s : Setting). s.places) c.map.ensures in
    let some : 0 < setting.places = omega (arith, places, c.places-places.ensures.some) in
    record {
      within = entry-within setting c.self.inside.app.side hand.note hand.entry hand.raw c.self.invariant.slots some;
      next = c.self.invariant.slots.next_entry;
    }

pub push_raw-requires-clause-may : goal.push_raw-requires-clause-may
push_raw-requires-clause-may c =
    let counted = ap (λ (s : TheApp). s.side.view.scrubbed) c.self.view_is ∙ c.requires.counted in
    record {
      idle = subst (λ (s : TheApp). NamesNoLoan s.side.view c.args.entry) (sym c.self.view_is) c.requires.idle;
      counted = counted;
      unbegun = c.self.invariant.rests.unbegun counted;
    }
