-- What frames use is within their need, and a frame is refused only where the need with it is above the number of buffers.
use Rattle.std.proofs.Common.{◌≡◌, ℕ, ◌+◌, ◌<◌, ◌≤◌, nat_le, nat_lt, List, [], ◌∷◌, ◌++◌, length, map, filter, Bool, true, false, ◌==◌}
use Rattle.std.{proofs.Common.{Option, Some, None, option_to_list, ⊎_elim, refl, sym, ap, subst, ◌∙◌, length-append, append-nil, arith, All}, specs.List.{list_any}}
use Rattle.std.proofs.lemmas.Bool.{cases_Bool, eq-eqb, eqb-true, lt-ltb, le-ltb, leb-true, leb-false}
use Rattle.std.proofs.lemmas.List.{Elements.{All-nil, All-push, All-head, All-tail, All-cons, All-filter, filter-append}, Sums.{sum_by-append, sum_by-cons}, map-append}
use Rattle.board_face.specs.{Texts.{unsplit_bytes}, declared.views.{parts.{Filling.{Filling}, Setting.{Setting}}, nic.{SentNote.{SentNote}, NicView.{NicView}}}}
use Rattle.area_layout.specs.Layout.{Shape, pool_buffers, least_size}
use Rattle.zr_kinds.specs.declared.place.Place.{Place}
use Rattle.page_pool.specs.{declared.offer.{Offer.{Offer}, Verdict.{Verdict, TheVariants.{NoRoom}}}, Frames.{Offered, offered}, Dealing.{DrainsRings}}
use Rattle.page_pool.specs.{Packing.{Current, buffers_for, fits, needed}, Pool.{PoolState, all_notes, OnlySends, Closes}}
use Rattle.page_pool.{specs.Offer.{payload_of, frame_notes, split_notes, packed, needed_for, places_for, Accepts, Refuses, Offers}, proofs.Accepting.{Offers-keep}}
use Rattle.card_feed.specs.{Offered.{offers_without}, declared.plan.Plan.{Plan}, Need.{need_for, need_of, need_with, bytes_in_notes, AreNeeded, RefusesByNeed}}
use Rattle.card_feed.{specs.Plan.{layout_of}, proofs.Settling.{without-last, without-refused}}

-- ---- what nothing was used by

-- no buffer was taken, on the same board
pub record AreUnused (old new : NicView) : Type 0 where
  pub used : new.used ≡ old.used
  pub setting : new.setting ≡ old.setting

pub unused-trans : (u v w : NicView) → AreUnused u v → AreUnused v w → AreUnused u w
unused-trans u v w first second = record { used = second.used ∙ first.used; setting = second.setting ∙ first.setting }

pub sends-unused : (was now : PoolState) (old new : NicView) → OnlySends was now old new → AreUnused old new
sends-unused was now old new sends = record { used = ap (λ (v : NicView). v.used) sends.view; setting = ap (λ (v : NicView). v.setting) sends.view }

pub drains-unused : (was now : PoolState) (old new : NicView) (count : ℕ) → DrainsRings was.stats now.stats old new count → AreUnused old new
drains-unused was now old new count drains =
    record { used = ap (λ (v : NicView). v.used) drains.deals.view; setting = ap (λ (v : NicView). v.setting) drains.deals.view }

pub closes-unused : (current : Option Filling) (old new : NicView) → Closes current old new → AreUnused old new
closes-unused None old new closes = record { used = ap (λ (v : NicView). v.used) closes; setting = ap (λ (v : NicView). v.setting) closes }
closes-unused (Some own) old new (closed, shuts, ended) = record {
  used = ap (λ (v : NicView). v.used) ended ∙ ap (λ (v : NicView). v.used) shuts.event;
  setting = ap (λ (v : NicView). v.setting) ended ∙ ap (λ (v : NicView). v.setting) shuts.event;
}

-- an offer is made at the same board
pub keeps-setting : (was now : PoolState) (old new : NicView) (o : Offer) (verdict : Verdict) → Offers was now old new o verdict
    → new.setting ≡ old.setting
keeps-setting was now old new o verdict offers = ap (λ (v : NicView). v.setting) (Offers-keep was now old new o verdict offers).view

-- ---- bytes that travel in notes

bytes-append : (xs ys : List SentNote) → bytes_in_notes (xs ++ ys) ≡ bytes_in_notes xs + bytes_in_notes ys
bytes-append xs ys = ap unsplit_bytes (map-append (λ (s : SentNote). s.note) xs ys) ∙ sum_by-append _ (map (λ (s : SentNote). s.note) xs) (map (λ (s : SentNote). s.note) ys)

split-bytes : (o : Offer) (at : ℕ) (places : List Place) → bytes_in_notes (split_notes o at places) ≡ 0
split-bytes o at [] = refl
split-bytes o at (p ∷ ps) = split-bytes o (at + p.len) ps

needed-most : (least : ℕ) (current : Option Current) (len : ℕ) → needed least current len ≤ buffers_for least len
needed-most least current len = ⊎_elim
    (λ (is : fits current len ≡ true). rw is (omega arith))
    (λ (not_so : fits current len ≡ false). rw not_so (omega arith))
    (cases_Bool (fits current len))

-- what a frame takes and may have copied is within its need
pub used-most : (was : PoolState) (old : NicView) (o : Offer) (places : List Place)
    → needed_for was old o + bytes_in_notes (frame_notes was.split o places) ≤ need_for (least_size old.setting.layout) was.split (offered o)
used-most was old o places = ⊎_elim
    (λ (short : nat_le (length (payload_of o)) was.split ≡ true).
    let not_long : nat_lt was.split (length (payload_of o)) ≡ false = le-ltb _ _ (leb-true _ _ short) in
    rw (short, not_long) (omega arith))
    (λ (long : nat_le (length (payload_of o)) was.split ≡ false).
    let is : nat_lt was.split (length (payload_of o)) ≡ true = lt-ltb _ _ (leb-false _ _ long) in
    let most = needed-most (least_size old.setting.layout) (packed was.current) (length (payload_of o)) in
    rw (long, is) (omega (arith, most, split-bytes o 0 places)))
    (cases_Bool (nat_le (length (payload_of o)) was.split))

-- ---- sums of needs

module _ (least split : ℕ) where
  need-cons : (o : Offered) (os : List Offered) → need_of least split (o ∷ os) ≡ need_for least split o + need_of least split os
  need-cons o os = sum_by-cons (need_for least split) o os

  need-append : (xs ys : List Offered) → need_of least split (xs ++ ys) ≡ need_of least split xs + need_of least split ys
  need-append xs ys = sum_by-append (need_for least split) xs ys

  need-filter : (p : Offered → Bool) (xs ys : List Offered)
      → need_of least split (filter p (xs ++ ys)) ≡ need_of least split (filter p xs) + need_of least split (filter p ys)
  need-filter p xs ys = ap (need_of least split) (filter-append p xs ys) ∙ need-append (filter p xs) (filter p ys)

  -- all of these frames stand before one
  need-before : (k : ℕ) (xs : List Offered) → All (λ (p : Offered). p.frame < k) xs
      → need_of least split (filter (λ (p : Offered). nat_lt p.frame k) xs) ≡ need_of least split xs
  need-before k [] below = refl
  need-before k (p ∷ ps) below =
      let is : nat_lt p.frame k ≡ true = lt-ltb p.frame k (All-head (λ (q : Offered). q.frame < k) p ps below) in
      let rest = need-before k ps (All-tail (λ (q : Offered). q.frame < k) p ps below) in
      rw is (need-cons p (filter (λ (q : Offered). nat_lt q.frame k) ps) ∙ ap (λ n. need_for least split p + n) rest ∙ sym (need-cons p ps))

  -- one that stands behind
  need-behind : (n : ℕ) (o : Offered) → n < o.frame → need_of least split (filter (λ (p : Offered). nat_lt p.frame n) (o ∷ [])) ≡ 0
  need-behind n o less = let not_so : nat_lt o.frame n ≡ false = le-ltb o.frame n (omega (arith, less)) in rw not_so refl

  need-own : (o : Offered) → need_of least split (filter (λ (p : Offered). p.frame == o.frame) (o ∷ [])) ≡ need_for least split o
  need-own o = let is : (o.frame == o.frame) ≡ true = eq-eqb o.frame o.frame refl in rw is (omega arith)

both : {A : Type 0} (P Q R : A → Type 0) → ((x : A) → P x → Q x → R x) → (xs : List A) → All P xs → All Q xs → All R xs
both P Q R gives [] p q = All-nil R
both P Q R gives (x ∷ xs) p q = All-cons R x xs (gives x (All-head P x xs p) (All-head Q x xs q))
    (both P Q R gives xs (All-tail P x xs p) (All-tail Q x xs q))

-- ---- the frame at hand

module _ (layout : Shape) (split : ℕ) (offers : List Offered) (refused : List ℕ) where
  -- one more frame was read
  pub needed-read : (next : Option Offered) (notes : List SentNote) (used : List ℕ)
      → ((o : Offered) → next ≡ Some o → All (λ m. m < o.frame) refused)
      → AreNeeded layout split offers refused None notes used
      → AreNeeded layout split (offers ++ option_to_list next) refused next notes used
  needed-read None notes used below are = rw append-nil are
  needed-read (Some o) notes used below are =
      let stays = without-last refused offers o (below o refl) in
      record {
        spent = omega (
          arith,
          are.spent,
          ap (need_of (least_size layout) split) stays,
          need-append (least_size layout) split (offers_without refused offers) (o ∷ []),
        );
        lacked = both (λ n. pool_buffers layout < need_with (least_size layout) split offers refused n) (λ m. m < o.frame)
            (λ n. pool_buffers layout < need_with (least_size layout) split (offers ++ o ∷ []) refused n)
            (λ n lacks less. omega (
              arith,
              lacks,
              ap (λ (os : List Offered). need_of (least_size layout) split (filter (λ (p : Offered). nat_lt p.frame n) os)) stays,
              need-filter (least_size layout) split (λ (p : Offered). nat_lt p.frame n) (offers_without refused offers) (o ∷ []),
              need-filter (least_size layout) split (λ (p : Offered). p.frame == n) offers (o ∷ []),
            ))
            refused are.lacked (below o refl);
      }

  module _ (was now : PoolState) (old new : NicView) (o : Offer) (split_is : was.split ≡ split) (layout_is : old.setting.layout ≡ layout)
      (are : AreNeeded layout split offers refused (Some (offered o)) (all_notes was old) old.used) where
    own-most : (places : List Place) → needed_for was old o + bytes_in_notes (frame_notes was.split o places) ≤ need_for (least_size layout) split (offered o)
    own-most places = subst (λ s. needed_for was old o + bytes_in_notes (frame_notes was.split o places) ≤ need_for (least_size layout) s (offered o)) split_is
        (subst (λ l. needed_for was old o + bytes_in_notes (frame_notes was.split o places) ≤ need_for (least_size l) was.split (offered o)) layout_is
        (used-most was old o places))

    -- it was accepted
    pub needed-accepted : Accepts was now old new o → AreNeeded layout split offers refused None (all_notes now new) new.used
    needed-accepted accepts =
        let places : List Place = places_for was old accepts.buffers o in
        record {
          spent = omega (
            arith,
            are.spent,
            own-most places,
            ap length accepts.used,
            length-append old.used accepts.buffers,
            accepts.few,
            ap bytes_in_notes accepts.notes,
            bytes-append (all_notes was old) (frame_notes was.split o places),
          );
          lacked = are.lacked;
        }

    -- it was refused, behind these frames
    pub needed-refused : (cached need : ℕ) (settled : List Offered) → settled ++ offered o ∷ [] ≡ offers
        → All (λ (p : Offered). p.frame < o.frame) settled → All (λ m. m < o.frame) refused → Refuses was now old new o cached need
        → AreNeeded layout split offers (refused ++ o.frame ∷ []) None (all_notes now new) new.used
    needed-refused cached need settled offers_are below below_refused refuses =
        let least : ℕ = least_size layout in
        let gone : offers_without (refused ++ o.frame ∷ []) offers ≡ offers_without refused settled =
        subst (λ os. offers_without (refused ++ o.frame ∷ []) os ≡ offers_without refused settled) offers_are
        (without-refused refused settled (offered o) below) in
        let stays : offers_without refused offers ≡ offers_without refused settled ++ offered o ∷ [] =
        subst (λ os. offers_without refused os ≡ offers_without refused settled ++ offered o ∷ []) offers_are
        (without-last refused settled (offered o) below_refused) in
        let before : need_of least split (offers_without refused offers)
        ≡ need_of least split (offers_without refused settled) + need_for least split (offered o) =
        omega (arith, ap (need_of least split) stays, need-append least split (offers_without refused settled) (offered o ∷ [])) in
        let used : new.used ≡ old.used = refuses.used in
        let notes : all_notes now new ≡ all_notes was old = refuses.notes in
        let layout_now : new.setting.layout ≡ layout =
        ap (λ (s : Setting). s.layout) (keeps-setting was now old new o (NoRoom cached need) refuses) ∙ layout_is in
        let sent : all_notes now new ≡ new.sent = rw refuses.pool (append-nil new.sent) in
        let within : pool_buffers layout ≤ cached + length old.used + bytes_in_notes (all_notes was old) =
        omega (arith, refuses.within, ap pool_buffers layout_now, ap length used, ap bytes_in_notes sent, ap bytes_in_notes notes) in
        let spent_before : length old.used + bytes_in_notes (all_notes was old) ≤ need_of least split (offers_without refused settled) =
        omega (arith, are.spent, before) in
        let own : need ≤ need_for least split (offered o) = omega (arith, own-most [], refuses.need_is) in
        record {
          spent = omega (arith, spent_before, ap length used, ap bytes_in_notes notes, ap (need_of least split) gone);
          lacked = All-push (λ n. pool_buffers layout < need_with least split offers (refused ++ o.frame ∷ []) n) refused o.frame
              (both (λ n. pool_buffers layout < need_with least split offers refused n) (λ m. m < o.frame)
              (λ n. pool_buffers layout < need_with least split offers (refused ++ o.frame ∷ []) n)
              (λ n lacks less. omega (
                arith,
                lacks,
                ap (λ (os : List Offered). need_of least split (filter (λ (p : Offered). nat_lt p.frame n) os)) gone,
                ap (λ (os : List Offered). need_of least split (filter (λ (p : Offered). nat_lt p.frame n) os)) stays,
                need-filter least split (λ (p : Offered). nat_lt p.frame n) (offers_without refused settled) (offered o ∷ []),
                need-behind least split n (offered o) less,
              ))
              refused are.lacked below_refused)
              (omega (
                arith,
                within,
                spent_before,
                own,
                refuses.too_few,
                ap (λ (os : List Offered). need_of least split (filter (λ (p : Offered). nat_lt p.frame o.frame) os)) gone,
                need-before least split o.frame (offers_without refused settled) (All-filter _ (λ (p : Offered). p.frame < o.frame) settled below),
                ap (λ (os : List Offered). need_of least split (filter (λ (p : Offered). p.frame == o.frame) os)) (sym offers_are),
                need-filter least split (λ (p : Offered). p.frame == o.frame) settled (offered o ∷ []),
                need-own least split (offered o),
              ));
        }

-- ---- nothing used

pub needed-same : (split : ℕ) (offers : List Offered) (refused : List ℕ) (hand : Option Offered) (was now : PoolState) (old new : NicView)
    → all_notes now new ≡ all_notes was old → AreUnused old new
    → AreNeeded old.setting.layout split offers refused hand (all_notes was old) old.used
    → AreNeeded new.setting.layout split offers refused hand (all_notes now new) new.used
needed-same split offers refused hand was now old new notes unused are = rw (notes, unused.used, unused.setting) are

-- ---- enough area

-- the need with one frame is within that of all
need-with-most : (least split : ℕ) (refused : List ℕ) (n : ℕ) (offers : List Offered)
    → need_with least split offers refused n ≤ need_of least split offers
need-with-most least split refused n [] = omega arith
need-with-most least split refused n (o ∷ os) =
    let rest = need-with-most least split refused n os in
    let all = need-cons least split o os in
    let earlier : List Offered = filter (λ (p : Offered). nat_lt p.frame n) (offers_without refused os) in
    let own : List Offered = filter (λ (p : Offered). p.frame == n) os in
    ⊎_elim
    (λ (gone : list_any (λ m. m == o.frame) refused ≡ true). rw gone (⊎_elim
    (λ (is : (o.frame == n) ≡ true). rw is (omega (arith, rest, all, need-cons least split o own)))
    (λ (other : (o.frame == n) ≡ false). rw other (omega (arith, rest, all)))
    (cases_Bool (o.frame == n))))
    (λ (stays : list_any (λ m. m == o.frame) refused ≡ false). rw stays (⊎_elim
    (λ (is : (o.frame == n) ≡ true).
    let behind : nat_lt o.frame n ≡ false = le-ltb o.frame n (omega (arith, eqb-true o.frame n is)) in
    rw (is, behind) (omega (arith, rest, all, need-cons least split o own)))
    (λ (other : (o.frame == n) ≡ false). rw other (⊎_elim
    (λ (before : nat_lt o.frame n ≡ true). rw before (omega (arith, rest, all, need-cons least split o earlier)))
    (λ (behind : nat_lt o.frame n ≡ false). rw behind (omega (arith, rest, all)))
    (cases_Bool (nat_lt o.frame n))))
    (cases_Bool (o.frame == n))))
    (cases_Bool (list_any (λ m. m == o.frame) refused))

-- with as many buffers as all frames need no frame is refused
none-lacked : (buffers least split : ℕ) (offers : List Offered) (refused : List ℕ) → need_of least split offers ≤ buffers
    → All (λ number. buffers < need_with least split offers refused number) refused → refused ≡ []
none-lacked buffers least split offers refused enough lacked = none refused refl
  where
    none : (left_out : List ℕ) → refused ≡ left_out → left_out ≡ []
    none [] same = refl
    none (n ∷ ns) same =
        let first : buffers < need_with least split offers refused n =
        All-head (λ number. buffers < need_with least split offers refused number) n ns
        (subst (λ numbers. All (λ number. buffers < need_with least split offers refused number) numbers) same lacked) in
        absurd (omega (arith, first, need-with-most least split refused n offers, enough))

-- so it is of the plan whose board it is, once no frame is at hand
pub refuses-by-need : (plan : Plan) (setting : Setting) (offers : List Offered) (refused : List ℕ) (notes : List SentNote) (used : List ℕ)
    → setting ≡ record { layout = layout_of plan; places = plan.options.ring }
    → AreNeeded setting.layout plan.options.split offers refused None notes used → RefusesByNeed plan offers refused
refuses-by-need plan setting offers refused notes used is are =
    let lacked = subst (λ (s : Setting). All (λ n. pool_buffers s.layout < need_with (least_size s.layout) plan.options.split offers refused n) refused) is
    are.lacked in
    record { lacked = lacked; enough = λ fits. none-lacked _ _ plan.options.split offers refused fits lacked }
