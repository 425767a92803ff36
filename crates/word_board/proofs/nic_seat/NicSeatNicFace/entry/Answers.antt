-- Behind an entry the next slot is the one after it.
use Rattle.std.{proofs.Common.{rules, ◌+◌, ◌%◌, get_or, ap, sym, ◌∙◌, subst}, specs.Prelude.{◌≢◌}}
use Rattle.board_face.specs.declared.{answers.Entry.TheVariants.{Empty}, views.parts.Setting.{Setting}}
use Rattle.word_board.{specs.{Board.{TheBoard}, Hands.{KnowsLeft}}, proofs.CardKeeps.{NicKeeps-dealt, is-dealt, entry-within, few-apps, own-app}}
use Rattle.word_board.proofs.nic_seat.NicSeatNicFace.entry.Goals as goal

pub bounds-self-inside-app : goal.bounds-self-inside-app
bounds-self-inside-app c = few-apps _ _ c.self.invariant.0 (own-app _ _ _ c.args.app c.self.invariant.1.set c.self.view_is c.requires.app)

pub next_entry-entry-requires-clause-slot : goal.next_entry-entry-requires-clause-slot
next_entry-entry-requires-clause-slot c =
    let me = c.self.inside in
    let here = own-app _ _ _ c.args.app c.self.invariant.1.set c.self.view_is c.requires.app in
    record {
      here = here;
      within = entry-within me.card.board.setting me.card.side me.hand.cache.items me.hand.notes me.hand.entries c.self.invariant.1 c.args.app
          c.self.invariant.0 here;
      next = c.self.invariant.1.next_entries c.args.app here;
    }

pub next_entry-entry-requires-clause-bare : goal.next_entry-entry-requires-clause-bare
next_entry-entry-requires-clause-bare c = record { set = c.self.invariant.1.set; hands = c.self.invariant.1.rests.hands }

pub invariant_of-self : goal.invariant_of-self
invariant_of-self c =
    let me = c.self.inside in
    let nic = me.card.side in
    let setting = me.card.board.setting in
    let app = c.args.app in
    let here = own-app _ _ _ app c.self.invariant.1.set c.self.view_is c.requires.app in
    let did = c.next_entry-entry.ensures.dealt in
    let now = c.next_entry-entry.new.card.side in
    let inside = did.inside
    ∙ ap (λ e. record nic.inside { entry = e; refill_slots = now.inside.refill_slots }) (sym c.self.invariant.1.rests.entry) in
    let some : c.next_entry-entry.result ≢ Empty = search rules in
    let dealt = is-dealt nic.view now.view app c.next_entry-entry.result some did.view in
    let slot = c.slot_after.ensures ∙ ap (λ p. (get_or me.hand.entries app 0 + 1) % p)
    (c.places.ensures.value ∙ ap (λ (s : Setting). s.places) (c.map-then-not-matches.ensures ∙ ap (λ (b : TheBoard). b.setting) did.board)) in
    rw did.board (
      c.self.invariant.0,
      NicKeeps-dealt setting nic now me.hand.cache.items me.hand.notes me.hand.entries c.next_entry-entry.new.cache.items app
          c.slot_after.result now.inside.refill_slots c.self.invariant.1 c.self.invariant.0 here
          dealt inside did.cache slot,
      subst (λ slots. KnowsLeft setting now.view.sent slots me.hand.filled.counts) (sym (ap (λ i. i.note_slots) did.inside))
          (subst (λ ss. KnowsLeft setting ss nic.inside.note_slots me.hand.filled.counts) (sym dealt.sents) c.self.invariant.2),
    )
