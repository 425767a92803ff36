-- What was sent to an application, at any time of a run: whole frames, of its own flows.
use Rattle.std.proofs.Common.{◌≡◌, ℕ, suc, ◌<◌, List, [], ◌∷◌, ◌++◌, length, map, filter, ◌==◌, Option, Some, None, sym, subst, ◌∙◌, append-nil, All}
use Rattle.std.proofs.lemmas.List.{map-append, Elements.{All-nil, All-cons, All-head, All-tail, All-filter, filter-append}}
use Rattle.board_face.specs.{Holders.{sent_to}, Relay.{as_taken, IsProper}, declared.views.nic.{SentNote.{SentNote}, NicSide.{NicSide}}}
use Rattle.flow_table.specs.Flows.{Flow, flows_of}
use Rattle.card_feed.specs.{Ending.{steered_in}, Offered.{offered_after, offers_of, has_payload, offers_without, Awaits, AreSettled}, Account.{offered_to}}
use Rattle.page_pool.specs.{Frames.{Offered, ShowFrames}, Pool.{PoolState, short_note, piece_notes, all_notes}}
use Rattle.app_worker.specs.Marks.{numbered_notes}
use Rattle.card_feed.specs.Sent.{IsOfOwnFlow, ShownNotesAreWhole, FeedsSendWhole, ShownNotesAreOwn, FeedsSendOwn, OffersHaveApps}
use Rattle.card_feed.proofs.{OffersRise.{RiseFrom, rise-filter, offers-rise}, NotesShown.{Ascend, HaveBytes}, OfFlow.{are-steered, no_apps}}
use Rattle.card_feed.proofs.{Bridge.{ascends, HaveBytes-filter, payloads}, Sharing.{shown-to}, WholeNotes.{LinkTogether, shown-linked, first-linked, proper-whole}}
use Rattle.card_feed.proofs.OwnFlows.{HaveFlows, have-flows, HaveFlows-filter, HaveOwn, own-filter, shown-own, steered-within}

-- ---- the first of the frames

rise-first : (n : ℕ) (os more : List Offered) → RiseFrom n (os ++ more) → RiseFrom n os
rise-first n [] more rise = tt
rise-first n (o ∷ os) more rise = (rise.0, rise-first (suc o.frame) os more rise.1)

bytes-first : (os more : List Offered) → HaveBytes (os ++ more) → HaveBytes os
bytes-first [] more have = tt
bytes-first (o ∷ os) more have = (have.0, bytes-first os more have.1)

flows-first : (flows : List Flow) (os more : List Offered) → HaveFlows flows (os ++ more) → HaveFlows flows os
flows-first flows [] more have = tt
flows-first flows (o ∷ os) more have = (have.0, flows-first flows os more have.1)

-- those that are settled come first
settled-first : (hand : Option Offered) (offers settled : List Offered) → Awaits hand offers settled
    → (more : List Offered) × (offers ≡ settled ++ more)
settled-first None offers settled awaits = ([], sym awaits ∙ sym (append-nil settled))
settled-first (Some o) offers settled awaits = (o ∷ [], sym awaits)

-- ---- frames whose notes are sent in order

module _ (ports : List ℕ) (frames : List (List ℕ)) (a : ℕ) where
  -- frames of the application, in order
  record AreGood (os : List Offered) : Type 0 where
    ascend : Ascend os
    bytes : HaveBytes os
    own : HaveOwn (flows_of (steered_in ports frames)) a os

  are-good : (left_out : List ℕ) (first more : List Offered) → offers_of (steered_in ports frames) ≡ first ++ more
      → AreGood (filter (λ o. o.app == a) (offers_without left_out first))
  are-good left_out first more is =
      let flows : List Flow = flows_of (steered_in ports frames) in
      let rest : List Offered = offers_without left_out first in
      let mine : List Offered = filter (λ (o : Offered). o.app == a) rest in
      let rises : RiseFrom 1 mine = rise-filter _ 1 rest (rise-filter _ 1 first (rise-first 1 first more (subst (RiseFrom 1) is (offers-rise ports frames)))) in
      let some : HaveBytes mine = HaveBytes-filter _ rest (HaveBytes-filter _ first (bytes-first first more
      (subst HaveBytes is (payloads (offered_after [] (steered_in ports frames)))))) in
      let known : HaveFlows flows (offers_of (steered_in ports frames)) = HaveFlows-filter flows has_payload _
      (have-flows ports [] (steered_in ports frames) (no_apps ports) (are-steered ports frames)) in
      record {
        ascend = ascends 1 mine rises;
        bytes = some;
        own = own-filter flows a rest (HaveFlows-filter flows _ first (flows-first flows first more (subst (HaveFlows flows) is known)));
      }

  all-good : (left_out : List ℕ) → AreGood (offered_to a left_out (steered_in ports frames))
  all-good left_out = are-good left_out (offers_of (steered_in ports frames)) [] (sym (append-nil (offers_of (steered_in ports frames))))

  -- at any time: what was sent, before what is pending
  record HasSent (split : ℕ) (sent : List SentNote) : Type 0 where
    os : List Offered
    good : AreGood os
    pending : List SentNote
    shown : ShowFrames split os (sent ++ pending)

  has-sent : (split : ℕ) (refused : List ℕ) (hand : Option Offered) (pool : PoolState) (nic : NicSide)
      → AreSettled split (offers_of (steered_in ports frames)) refused hand (all_notes pool nic.view) → HasSent split (sent_to a nic)
  has-sent split refused hand pool nic settled =
      let first = settled-first hand (offers_of (steered_in ports frames)) settled.settled settled.awaits in
      let pending : List SentNote = short_note pool.short ++ piece_notes pool.pieces nic.view.pieces in
      record {
        os = filter (λ o. o.app == a) (offers_without refused settled.settled);
        good = are-good refused settled.settled first.0 first.1;
        pending = filter (λ s. s.app == a) pending;
        shown = subst (ShowFrames split (filter (λ o. o.app == a) (offers_without refused settled.settled)))
            (filter-append (λ (s : SentNote). s.app == a) nic.view.sent pending)
            (shown-to split a (offers_without refused settled.settled) (all_notes pool nic.view) settled.shown);
      }

  sent-linked : (split : ℕ) (sent : List SentNote) → HasSent split sent → LinkTogether (numbered_notes 0 (map as_taken sent))
  sent-linked split sent has = first-linked (map as_taken sent) (map as_taken has.pending)
      (subst (λ ns. LinkTogether (numbered_notes 0 ns)) (map-append as_taken sent has.pending)
      (shown-linked split has.os (sent ++ has.pending) has.shown has.good.ascend has.good.bytes))

-- ---- the laws

pub notes-whole : ShownNotesAreWhole
notes-whole split ports frames left_out a notes shows proper =
    let good = all-good ports frames a left_out in
    proper-whole notes proper (shown-linked split (offered_to a left_out (steered_in ports frames)) notes shows good.ascend good.bytes)

pub notes-own : ShownNotesAreOwn
notes-own split ports frames left_out a notes shows =
    shown-own (flows_of (steered_in ports frames)) a split (offered_to a left_out (steered_in ports frames)) notes
    (all-good ports frames a left_out).own shows

pub feeds-whole : {S : Type 0} (left : S → Option (List ℕ)) (faults : S → ℕ) → FeedsSendWhole left faults
feeds-whole left faults first source ports split frames feed nic stands proper a =
    let mine : All IsProper (sent_to a nic) = All-filter (λ (s : SentNote). s.app == a) IsProper nic.view.sent proper in
    proper-whole (sent_to a nic) mine
    (sent-linked ports frames a split (sent_to a nic) (has-sent ports frames a split feed.refused feed.at_hand feed.pool nic stands.knows.settled))

own-first : (flows : List Flow) (a : ℕ) (sent later : List SentNote) → All (IsOfOwnFlow flows a) (sent ++ later) → All (IsOfOwnFlow flows a) sent
own-first flows a [] later own = All-nil (IsOfOwnFlow flows a)
own-first flows a (s ∷ sent) later own = All-cons (IsOfOwnFlow flows a) s sent (All-head (IsOfOwnFlow flows a) s (sent ++ later) own)
    (own-first flows a sent later (All-tail (IsOfOwnFlow flows a) s (sent ++ later) own))

pub feeds-own : {S : Type 0} (left : S → Option (List ℕ)) (faults : S → ℕ) → FeedsSendOwn left faults
feeds-own left faults first source ports split frames feed nic stands a =
    let flows : List Flow = flows_of (steered_in ports frames) in
    let has = has-sent ports frames a split feed.refused feed.at_hand feed.pool nic stands.knows.settled in
    subst (λ known. All (IsOfOwnFlow known a) (sent_to a nic)) (sym stands.knows.flows_are)
    (own-first flows a (sent_to a nic) has.pending (shown-own flows a split has.os (sent_to a nic ++ has.pending) has.good.own has.shown))

pub offers-apps : OffersHaveApps
offers-apps ports frames = All-filter has_payload (λ (o : Offered). o.app < length ports) (offered_after [] (steered_in ports frames))
    (steered-within ports [] (steered_in ports frames) (are-steered ports frames))
