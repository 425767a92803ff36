use Rattle.std.proofs.Common.{◌<◌, arith, sym, ◌∙◌, ap, subst, refl}
use Rattle.board_face.specs.{AppCalls.{HasLoan}, declared.views.{app.AppLook.TheVariants.{RefillInUse}, parts.Setting.{Setting}}, NotNow.{HasWrittenRingful}}
use Rattle.word_board.{specs.Board.{TheApp}, proofs.{AppKept.{entry-within, loan-lies, loan-some, kept-saw, kept-gave}, Implied.{full-written}}}
use Rattle.word_board.proofs.app_seat.AppSeatAppFace.give.Goals as goal

pub off_of-requires : goal.off_of-requires
off_of-requires c =
    let setting = c.map.ensures in
    let out = subst (λ s. HasLoan s.side.view c.args.loan) (sym c.self.view_is) c.requires.out in
    rw (c.layout.ensures.value, setting, c.place-place.ensures)
    (loan-lies c.self.inside.app.board.setting c.self.inside.app.side c.args.loan c.self.invariant.lies out)

pub lower-requires-clause-there : goal.lower-requires-clause-there
lower-requires-clause-there c =
    let out = subst (λ s. HasLoan s.side.view c.args.loan) (sym c.self.view_is) c.requires.out in
    rw (c.place-place.ensures, c.self.invariant.tokens.many.0)
    (loan-lies c.self.inside.app.board.setting c.self.inside.app.side c.args.loan c.self.invariant.lies out).buffer

pub lower-requires-clause-some : goal.lower-requires-clause-some
lower-requires-clause-some c =
    let mine = c.self.inside.app.side in
    let place = c.place-place.result in
    let out : HasLoan mine.view place =
    rw c.place-place.ensures (subst (λ s. HasLoan s.side.view c.args.loan) (sym c.self.view_is) c.requires.out) in
    let lies = loan-lies c.self.inside.app.board.setting mine place c.self.invariant.lies out in
    rw (c.self.invariant.tokens.out place.buffer lies.buffer) (loan-some mine place out)

pub invariant_of-self : goal.invariant_of-self
invariant_of-self c =
    let mine = c.self.inside.app.side in
    let hand = c.self.inside.hand in
    let setting = c.self.inside.app.board.setting in
    let keeps = kept-saw setting mine hand.note hand.entry hand.raw hand.loans.items hand.filled.items c.self.invariant RefillInUse in
    rw c.if-not-give_entry.ensures.event keeps

pub invariant_of-self-2 : goal.invariant_of-self-2
invariant_of-self-2 c =
    let mine = c.self.inside.app.side in
    let hand = c.self.inside.hand in
    let setting = c.self.inside.app.board.setting in
    let place = c.place-place.ensures in
    let out = subst (λ s. HasLoan s.side.view c.args.loan) (sym c.self.view_is) c.requires.out in
    let places = c.places-places.ensures.value ∙ ap (λ (s : Setting). s.places) c.map-2.ensures in
    let keeps = kept-gave setting mine hand.note hand.entry hand.raw hand.loans.items hand.filled.items c.self.invariant
    c.place-place.result (rw place out) in
    rw c.if-not-give_entry.ensures.event (rw (c.lower.ensures.counts, c.slot_after-self-inside.ensures, places) keeps)

pub returns-then-not-give_entry-clause-full : goal.returns-then-not-give_entry-clause-full
returns-then-not-give_entry-clause-full c =
    subst (λ (s : TheApp). HasWrittenRingful s.side.view) c.self.view_is
    (full-written _ c.self.inside.app.side.view (c.if-not-give_entry.ensures.told refl))

pub give_entry-requires-clause-slot : goal.give_entry-requires-clause-slot
give_entry-requires-clause-slot c =
    let hand = c.self.inside.hand in
    let setting = c.self.inside.app.board.setting in
    let places = c.places-places.ensures.value ∙ ap (λ (s : Setting). s.places) c.map-2.ensures in
    let some : 0 < setting.places = omega (arith, places, c.places-places.ensures.some) in
    record {
      within = entry-within setting c.self.inside.app.side hand.note hand.entry hand.raw c.self.invariant.slots some;
      next = c.self.invariant.slots.next_entry;
    }
