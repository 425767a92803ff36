-- Behind the note the next slot is the one after it.
use Rattle.std.{proofs.Common.{◌≡◌, ◌≤◌, ◌+◌, ◌*◌, ◌%◌, [], length, get_or, set as set_at, refl, ap, sym, ◌∙◌, subst, arith}, specs.Prelude.{if◌then◌else◌, false}}
use Rattle.board_face.specs.{NicEvents.{sent, text_at}, NotNow.{HasSentRingful}, SlotSteps.{side_sent, side_note_looked}, declared.views.nic.SentNote.{SentNote}}
use Rattle.board_face.specs.declared.views.parts.Setting.{Setting}
use Rattle.word_board.{specs.Board.{TheNic}, proofs.{CardKeeps.{NicKeeps-sent, note-within, few-apps, own-app}, Implied.{full-sent}, LeftKept.{KnowsLeft-sent, next-left}}}
use Rattle.word_board.proofs.nic_seat.NicSeatNicFace.send.Goals as goal

pub bounds-self-inside-app : goal.bounds-self-inside-app
bounds-self-inside-app c = few-apps _ _ c.self.invariant.0 (own-app _ _ _ c.args.app c.self.invariant.1.set c.self.view_is c.requires.app)

pub send_note-requires-clause-slot : goal.send_note-requires-clause-slot
send_note-requires-clause-slot c =
    let me = c.self.inside in
    let here = own-app _ _ _ c.args.app c.self.invariant.1.set c.self.view_is c.requires.app in
    record {
      here = here;
      within = note-within me.card.board.setting me.card.side me.hand.cache.items me.hand.notes me.hand.entries c.self.invariant.1 c.args.app
          c.self.invariant.0 here;
      next = c.self.invariant.1.next_notes c.args.app here;
    }

pub send_note-requires-clause-left : goal.send_note-requires-clause-left
send_note-requires-clause-left c =
    let me = c.self.inside in
    let here = own-app _ _ _ c.args.app c.self.invariant.1.set c.self.view_is c.requires.app in
    let left = next-left me.card.board.setting me.card.side me.hand.filled.counts c.self.invariant.2 c.args.app here c.self.invariant.0.places in
    let is = c.of-left.ensures ∙ ap (λ n. get_or me.hand.filled.counts (256 * c.args.app + n) 0) (c.self.invariant.1.next_notes c.args.app here) in
    record { unstored = c.self.invariant.2.unstored c.args.app; few = rw is left.0; blank = rw is left.1 }

pub bounds-self-inside-app-2 : goal.bounds-self-inside-app-2
bounds-self-inside-app-2 c = few-apps _ _ c.self.invariant.0 (own-app _ _ _ c.args.app c.self.invariant.1.set c.self.view_is c.requires.app)

pub invariant_of-self-2 : goal.invariant_of-self-2
invariant_of-self-2 c =
    let me = c.self.inside in
    let nic = me.card.side in
    let setting = me.card.board.setting in
    let app = c.args.app in
    let filled = me.hand.filled.counts in
    let note : SentNote = record { app = app; note = c.args.note; bytes = text_at nic.view c.args.note.place } in
    let here = own-app _ _ _ app c.self.invariant.1.set c.self.view_is c.requires.app in
    let places = c.places-places.ensures.value ∙ ap (λ (s : Setting). s.places) c.map.ensures in
    let few : setting.places ≤ 256 = subst (λ n. n ≤ 256) places c.places-places.ensures.few in
    let did : c.send_note.new.card ≡ record me.card { side = side_sent nic app c.args.note } = c.send_note.ensures.event
    ∙ ap (λ went. record me.card { side = if went then side_sent nic app c.args.note else side_note_looked nic app false }) c.if-not-send_note.false in
    let slot = c.slot_after.ensures ∙ ap (λ p. (get_or me.hand.notes app 0 + 1) % p) places in
    let counts = c.note.ensures ∙ ap (λ n. set_at filled (256 * app + n) 0) (c.self.invariant.1.next_notes app here) in
    rw (did, counts) (
      c.self.invariant.0,
      NicKeeps-sent setting nic me.hand.cache.items me.hand.notes me.hand.entries c.self.invariant.1 (sent nic.view app c.args.note) _
          note c.slot_after.result c.self.invariant.0 here refl refl refl refl refl slot,
      KnowsLeft-sent setting nic.view.sent nic.inside.note_slots filled c.self.invariant.2 note 0
          (few-apps setting app c.self.invariant.0 here, c.self.invariant.0.places, few) (omega arith)
          (subst (λ split. length (if split then [] else text_at nic.view c.args.note.place) ≤ 8 * 0) (sym c.requires.fields.split) (omega arith)),
    )

pub returns-then-not-send_note-clause-full : goal.returns-then-not-send_note-clause-full
returns-then-not-send_note-clause-full c =
    let me = c.self.inside in
    let here = own-app _ _ _ c.args.app c.self.invariant.1.set c.self.view_is c.requires.app in
    subst (λ (s : TheNic). HasSentRingful s.side.view c.args.app) c.self.view_is
    (full-sent me.card.board.setting me.card.side.view c.args.app here (c.if-not-send_note.ensures.told refl))
