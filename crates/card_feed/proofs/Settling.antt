-- What becomes of the frame at hand: all notes show what was offered and not refused.
use Rattle.std.proofs.Common.{◌≡◌, ◌≢◌, ℕ, ◌<◌, List, [], ◌∷◌, ◌++◌, length, true, false, not, ◌||◌, nat_le}
use Rattle.std.proofs.Common.{if◌then◌else◌, ◌==◌, Option, Some, None, option_to_list, ⊎_elim, refl, sym, ap, subst, ◌∙◌, append-nil, arith, All}
use Rattle.std.{specs.List.{list_any}, proofs.lemmas.Bool.{cases_Bool, eq-eqb, ne_eqb, leb-false}}
use Rattle.std.proofs.lemmas.List.Elements.{All-push, All-head, All-tail, All-weaker, All-contains, All-get_or, filter-append, Contains-append_left, Contains-push}
use Rattle.std.proofs.lemmas.List.Quantifiers.{all_pairs_push}
use Rattle.board_face.specs.declared.views.nic.{SentNote.{SentNote}, NicView.{NicView}}
use Rattle.page_pool.specs.{declared.offer.{Offer.{Offer}, Verdict.TheVariants.{Accepted}}, Frames.{Offered, offered, ShowFrames}, Pool.{PoolState, all_notes}}
use Rattle.page_pool.{specs.Offer.{payload_of, Accepts, Refuses}, proofs.OffersShown.{offer_shown}}
use Rattle.card_feed.{specs.Offered.{offers_without, IsLongIn, AreRefused, AreSettled}, proofs.OffersRise.{RiseFrom, below-last}}

-- ---- numbers that are left out

any-none : (k : ℕ) (left_out : List ℕ) → All (λ m. m < k) left_out → list_any (λ m. m == k) left_out ≡ false
any-none k [] below = refl
any-none k (m ∷ left_out) below =
    let less : m < k = All-head (λ m. m < k) m left_out below in
    let test : (m == k) ≡ false = ne_eqb m k (λ e. absurd (omega (arith, less, e))) in
    rw test (any-none k left_out (All-tail (λ m. m < k) m left_out below))

any-last : (k : ℕ) (left_out : List ℕ) → list_any (λ m. m == k) (left_out ++ k ∷ []) ≡ true
any-last k [] = let test : (k == k) ≡ true = eq-eqb k k refl in rw test refl
any-last k (m ∷ left_out) = ⊎_elim
    (λ (is : (m == k) ≡ true). rw is refl)
    (λ (other : (m == k) ≡ false). rw other (any-last k left_out))
    (cases_Bool (m == k))

any-other : (n k : ℕ) (left_out : List ℕ) → k ≢ n → list_any (λ m. m == n) (left_out ++ k ∷ []) ≡ list_any (λ m. m == n) left_out
any-other n k [] other = let test : (k == n) ≡ false = ne_eqb k n other in rw test refl
any-other n k (m ∷ left_out) other = ap (λ b. (m == n) || b) (any-other n k left_out other)

-- a frame above all that are left out stays
pub without-last : (left_out : List ℕ) (settled : List Offered) (o : Offered) → All (λ m. m < o.frame) left_out
    → offers_without left_out (settled ++ o ∷ []) ≡ offers_without left_out settled ++ o ∷ []
without-last left_out settled o below =
    let stays : list_any (λ m. m == o.frame) left_out ≡ false = any-none o.frame left_out below in
    filter-append (λ (p : Offered). not (list_any (λ m. m == p.frame) left_out)) settled (o ∷ [])
    ∙ ap (λ more. offers_without left_out settled ++ more) (rw stays refl)

without-longer : (left_out : List ℕ) (settled : List Offered) (k : ℕ) → All (λ (p : Offered). p.frame < k) settled
    → offers_without (left_out ++ k ∷ []) settled ≡ offers_without left_out settled
without-longer left_out [] k below = refl
without-longer left_out (p ∷ settled) k below =
    let less : p.frame < k = All-head (λ (q : Offered). q.frame < k) p settled below in
    let same = any-other p.frame k left_out (λ e. absurd (omega (arith, less, e))) in
    let rest = without-longer left_out settled k (All-tail (λ (q : Offered). q.frame < k) p settled below) in
    rw same (ap (λ (others : List Offered). if not (list_any (λ m. m == p.frame) left_out) then p ∷ others else others) rest)

-- one that is left out goes
pub without-refused : (left_out : List ℕ) (settled : List Offered) (o : Offered) → All (λ (p : Offered). p.frame < o.frame) settled
    → offers_without (left_out ++ o.frame ∷ []) (settled ++ o ∷ []) ≡ offers_without left_out settled
without-refused left_out settled o below =
    let goes : list_any (λ m. m == o.frame) (left_out ++ o.frame ∷ []) ≡ true = any-last o.frame left_out in
    filter-append (λ (p : Offered). not (list_any (λ m. m == p.frame) (left_out ++ o.frame ∷ []))) settled (o ∷ [])
    ∙ ap (λ more. offers_without (left_out ++ o.frame ∷ []) settled ++ more) (rw goes refl)
    ∙ append-nil (offers_without (left_out ++ o.frame ∷ []) settled)
    ∙ without-longer left_out settled o.frame below

-- ---- the frames that were refused

long-more : (split : ℕ) (settled : List Offered) (o : Offered) (number : ℕ) → IsLongIn split settled number → IsLongIn split
    (settled ++ o ∷ []) number
long-more split settled o number (p, there, is, long) = (p, Contains-append_left settled (o ∷ []) p there, is, long)

refused-below : (split : ℕ) (settled : List Offered) (refused : List ℕ) (k : ℕ) → All (λ (p : Offered). p.frame < k) settled
    → All (IsLongIn split settled) refused → All (λ m. m < k) refused
refused-below split settled refused k below each =
    All-weaker (IsLongIn split settled) (λ m. m < k) (λ number (p, there, is, long).
    let less = All-contains (λ (q : Offered). q.frame < k) settled p below there in omega (arith, less, is)) refused each

AreRefused-more : (split : ℕ) (settled : List Offered) (refused : List ℕ) (o : Offered) → AreRefused split settled refused → AreRefused split
    (settled ++ o ∷ []) refused
AreRefused-more split settled refused o are = record {
  rise = are.rise;
  each = All-weaker (IsLongIn split settled) (IsLongIn split (settled ++ o ∷ [])) (λ number long. long-more split settled o number long) refused are.each;
}

AreRefused-one : (split : ℕ) (settled : List Offered) (refused : List ℕ) (o : Offered) → All (λ (p : Offered). p.frame < o.frame) settled
    → split < length o.payload
    → AreRefused split settled refused → AreRefused split (settled ++ o ∷ []) (refused ++ o.frame ∷ [])
AreRefused-one split settled refused o below long are =
    let less = refused-below split settled refused o.frame below are.each in
    let more = AreRefused-more split settled refused o are in
    record {
      rise = all_pairs_push (λ m n. m < n) refused o.frame are.rise (λ k d within. All-get_or (λ m. m < o.frame) refused k d within less);
      each = All-push (IsLongIn split (settled ++ o ∷ [])) refused o.frame more.each
          (o, Contains-push settled o, refl, long);
    }

-- ---- the frame at hand

-- the frame at hand stands behind all that are settled, and its number above those that were refused
pub hand-last : (split : ℕ) (offers : List Offered) (refused : List ℕ) (o : Offered) (notes : List SentNote) → RiseFrom 1 offers
    → (settled : AreSettled split offers refused (Some o) notes)
    → All (λ (p : Offered). p.frame < o.frame) settled.settled × All (λ m. m < o.frame) refused
hand-last split offers refused o notes rises settled =
    let below : All (λ (p : Offered). p.frame < o.frame) settled.settled = below-last 1 settled.settled o (rw (sym settled.awaits) at rises) in
    (below, refused-below split settled.settled refused o.frame below settled.refused_are.each)

-- and so does one more
pub next-last : (split : ℕ) (offers : List Offered) (refused : List ℕ) (o : Offered) (notes : List SentNote) → RiseFrom 1 (offers ++ o ∷ [])
    → AreSettled split offers refused None notes → All (λ m. m < o.frame) refused
next-last split offers refused o notes rises settled =
    refused-below split offers refused o.frame (below-last 1 offers o rises)
    (subst (λ os. All (IsLongIn split os) refused) settled.awaits settled.refused_are.each)

module _ (split : ℕ) (offers : List Offered) (refused : List ℕ) where
  -- one more frame was read
  pub settled-read : (next : Option Offered) (notes : List SentNote) → AreSettled split offers refused None notes
      → AreSettled split (offers ++ option_to_list next) refused next notes
  settled-read None notes settled = record {
    settled = settled.settled;
    awaits = settled.awaits ∙ sym (append-nil offers);
    refused_are = settled.refused_are;
    shown = settled.shown;
  }
  settled-read (Some o) notes settled = record {
    settled = settled.settled;
    awaits = ap (λ os. os ++ o ∷ []) settled.awaits;
    refused_are = settled.refused_are;
    shown = settled.shown;
  }

  module _ (was now : PoolState) (old new : NicView) (o : Offer) (split_is : was.split ≡ split) (rises : RiseFrom 1 offers)
      (settled : AreSettled split offers refused (Some (offered o)) (all_notes was old)) where
    below : All (λ (p : Offered). p.frame < o.frame) settled.settled
    below = below-last 1 settled.settled (offered o) (rw (sym settled.awaits) at rises)

    -- it was accepted
    pub settled-accepted : Accepts was now old new o → AreSettled split offers refused None (all_notes now new)
    unfolding below
    settled-accepted accepts = record {
      settled = settled.settled ++ offered o ∷ [];
      awaits = settled.awaits;
      refused_are = AreRefused-more split settled.settled refused (offered o) settled.refused_are;
      shown = subst (λ os. ShowFrames split os (all_notes now new))
          (sym (without-last refused settled.settled (offered o) (refused-below split settled.settled refused o.frame below settled.refused_are.each)))
          (subst (λ s. ShowFrames s (offers_without refused settled.settled ++ offered o ∷ []) (all_notes now new)) (accepts.split ∙ split_is)
          (offer_shown (offers_without refused settled.settled) was now old new o Accepted accepts
          (subst (λ s. ShowFrames s (offers_without refused settled.settled) (all_notes was old)) (sym split_is) settled.shown)));
    }

    too_long : (cached need : ℕ) → Refuses was now old new o cached need → split < length (payload_of o)
    too_long cached need refuses = ⊎_elim
        (λ (few : nat_le (length (payload_of o)) was.split ≡ true).
        let none : 0 ≡ need = rw few at refuses.need_is in absurd (omega (arith, none, refuses.too_few)))
        (λ (many : nat_le (length (payload_of o)) was.split ≡ false). omega (arith, leb-false _ _ many, split_is))
        (cases_Bool (nat_le (length (payload_of o)) was.split))

    -- it was refused
    pub settled-refused : (cached need : ℕ) → Refuses was now old new o cached need
        → AreSettled split offers (refused ++ o.frame ∷ []) None (all_notes now new)
    unfolding below
    settled-refused cached need refuses = record {
      settled = settled.settled ++ offered o ∷ [];
      awaits = settled.awaits;
      refused_are = AreRefused-one split settled.settled refused (offered o) below (too_long cached need refuses) settled.refused_are;
      shown = rw (without-refused refused settled.settled (offered o) below, refuses.notes) settled.shown;
    }
