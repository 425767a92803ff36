use Rattle.std.proofs.Common.{rules, ap, sym, refl, subst}
use Rattle.word_board.{specs.{AtHand.{MayPush}, Board.{TheApp}}, proofs.AtHandKept.{still-writes-entry}}
use Rattle.word_board.proofs.kinds.entries.push_raw.Goals as goal

pub publish_raw-requires-clause-entry : goal.publish_raw-requires-clause-entry
publish_raw-requires-clause-entry c =
    let is = c.if-not-fill_refill.ensures.event in
    let at = still-writes-entry c.requires.slot is refl in
    record {
      at = record { within = at.within; next = at.next };
      fits = record { off = search rules; len = search rules; pad = search rules };
      seen = ap (λ (me : TheApp). me.side.inside.refill_slot.seen) is;
      words = ap (λ (me : TheApp). me.side.inside.refill_slot.words) is;
    }

pub publish_raw-requires-clause-may : goal.publish_raw-requires-clause-may
publish_raw-requires-clause-may c =
    let may = c.requires.may in
    subst (λ (me : TheApp). MayPush me c.args.entry) (sym c.if-not-fill_refill.ensures.event)
    (record { idle = may.idle; counted = may.counted; unbegun = may.unbegun })
