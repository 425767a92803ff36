use Rattle.std.proofs.Common.{rules, true, ap, sym, ◌∙◌, refl, subst}
use Rattle.board_face.specs.AppEvents.{entry_of}
use Rattle.word_rings.specs.Slots.{entry_body}
use Rattle.ref_words.specs.Rings.{EntryFits}
use Rattle.word_board.{specs.Board.{TheApp}, proofs.AtHandKept.{still-writes-entry}}
use Rattle.word_board.proofs.kinds.entries.give_entry.Goals as goal

pub publish_loan-requires-clause-entry : goal.publish_loan-requires-clause-entry
publish_loan-requires-clause-entry c =
    let is = c.if-not-fill_refill.ensures.event in
    let at = still-writes-entry c.requires.slot is refl in
    let same = c.requires.entry ∙ sym (ap (λ (me : TheApp). entry_of me.side.view.setting.layout c.args.place) is) in
    record {
      at = record { within = at.within; next = at.next };
      fits = subst (λ e. EntryFits (record { entry = e; of_loan = true })) same
          (record { off = search rules; len = search rules; pad = search rules });
      seen = ap (λ (me : TheApp). me.side.inside.refill_slot.seen) is;
      words = ap (λ (me : TheApp). me.side.inside.refill_slot.words) is ∙ ap entry_body same;
    }
