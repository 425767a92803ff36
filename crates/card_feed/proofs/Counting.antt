-- What the pool's counts say after a turn.
use Rattle.std.proofs.Common.{◌≡◌, ◌≢◌, inl, ℕ, ◌+◌, ◌-◌, ◌^◌, ◌<◌, ◌≤◌, nat_le, cond, true, false}
use Rattle.std.proofs.Common.{List, [], ◌∷◌, ◌++◌, length, Option, Some, None, option_to_list, ⊎_elim, refl, sym, ap, subst, ◌∙◌, append-nil, length-append, arith}
use Rattle.std.proofs.lemmas.{Bool.{cases_Bool, leb-false, lt-ltb}, List.Sums.{sum_by-append}}
use Rattle.zr_kinds.specs.declared.outcome.PoolStats.{PoolStats}
use Rattle.board_face.specs.declared.views.{parts.Filling.{Filling}, nic.{Dealt.{Dealt}, NicView.{NicView}}}
use Rattle.page_pool.specs.{declared.offer.Offer.{Offer}, Frames.{Offered, offered}, Dealing.{IsRaised, is_stray, strays_in, DrainsRings}}
use Rattle.page_pool.specs.{Searching.{CountsEnd, LooksAhead, joint_end}, Pool.{PoolState, Closes}}
use Rattle.page_pool.specs.declared.search_end.SearchEnd.{SearchEnd, TheVariants.{Fast, Refill, Slow, Empty}}
use Rattle.page_pool.specs.Offer.{payload_of, needed_for, LooksFor, not_needed, searched, Accepts, Refuses}
use Rattle.card_feed.{specs.Counts.{AreInType, capped, is_long, long_in, searches_in, AreOffersCounted}, proofs.PlayLemmas.{closed-dealt}}

-- ---- one count

raised-capped : (n was more now : ℕ) → was ≡ capped n → IsRaised was more now → now ≤ 2 ^ 64 - 1 → now ≡ capped (n + more)
raised-capped n was more now same raised fits = ⊎_elim
    (λ (exact : now ≡ was + more). omega (arith, same, exact, fits))
    (λ (full : (2 ^ 64 - 1 ≤ now) × (2 ^ 64 - 1 ≤ was + more)). omega (arith, same, full.0, full.1, fits))
    raised

pub raised-most : (was more now : ℕ) → IsRaised was more now → now ≤ 2 ^ 64 - 1 → now ≤ was + more
raised-most was more now raised fits = ⊎_elim
    (λ (exact : now ≡ was + more). omega (arith, exact))
    (λ (full : (2 ^ 64 - 1 ≤ now) × (2 ^ 64 - 1 ≤ was + more)). omega (arith, full.1, fits))
    raised

strays-append : (xs ys : List Dealt) → strays_in (xs ++ ys) ≡ strays_in xs + strays_in ys
strays-append xs ys = sum_by-append (λ (d : Dealt). cond (is_stray d.fate) 1 0) xs ys

long-append : (split : ℕ) (xs ys : List Offered) → long_in split (xs ++ ys) ≡ long_in split xs + long_in split ys
long-append split xs ys = sum_by-append (λ (o : Offered). cond (is_long split o) 1 0) xs ys

strays-more : (was now : PoolStats) (before after more : List Dealt) → was.strays ≡ capped (strays_in before) → after ≡ before ++ more
    → IsRaised was.strays (strays_in more) now.strays → now.strays ≤ 2 ^ 64 - 1 → now.strays ≡ capped (strays_in after)
strays-more was now before after more same dealt raised fits =
    raised-capped (strays_in before) was.strays (strays_in more) now.strays same raised fits
    ∙ ap capped (sym (strays-append before more) ∙ ap strays_in (sym dealt))

-- ---- a search, or none

-- a search that found enough is counted as one that did, whatever was searched ahead
pub joint-found : (before later : SearchEnd) → later ≢ Empty → joint_end before later ≢ Empty
joint-found before Empty found e = found refl
joint-found Fast Fast found e = absurd (cc)
joint-found Fast Refill found e = absurd (cc)
joint-found Fast Slow found e = absurd (cc)
joint-found Refill Fast found e = absurd (cc)
joint-found Refill Refill found e = absurd (cc)
joint-found Refill Slow found e = absurd (cc)
joint-found Slow Fast found e = absurd (cc)
joint-found Slow Refill found e = absurd (cc)
joint-found Slow Slow found e = absurd (cc)
joint-found Empty Fast found e = absurd (cc)
joint-found Empty Refill found e = absurd (cc)
joint-found Empty Slow found e = absurd (cc)

end-strays : (how : SearchEnd) (was now : PoolStats) → CountsEnd how was now → now.strays ≡ was.strays
end-strays Fast was now counts = ap (λ (s : PoolStats). s.strays) counts.1
end-strays Refill was now counts = ap (λ (s : PoolStats). s.strays) counts.1
end-strays Slow was now counts = ap (λ (s : PoolStats). s.strays) counts.1
end-strays Empty was now counts = ap (λ (s : PoolStats). s.strays) counts.1

end-searches : (how : SearchEnd) (was now : PoolStats) → AreInType now → CountsEnd how was now → searches_in now ≤ searches_in was + 1
end-searches Fast was now fits counts =
    let one = raised-most was.fast 1 now.fast counts.0 fits.fast in
    let others : searches_in now ≡ now.fast + was.refill + was.slow + was.empty = ap searches_in counts.1 in
    omega (arith, one, others)
end-searches Refill was now fits counts =
    let one = raised-most was.refill 1 now.refill counts.0 fits.refill in
    let others : searches_in now ≡ was.fast + now.refill + was.slow + was.empty = ap searches_in counts.1 in
    omega (arith, one, others)
end-searches Slow was now fits counts =
    let one = raised-most was.slow 1 now.slow counts.0 fits.slow in
    let others : searches_in now ≡ was.fast + was.refill + now.slow + was.empty = ap searches_in counts.1 in
    omega (arith, one, others)
end-searches Empty was now fits counts =
    let one = raised-most was.empty 1 now.empty counts.0 fits.empty in
    let others : searches_in now ≡ was.fast + was.refill + was.slow + now.empty = ap searches_in counts.1 in
    omega (arith, one, others)

end-found : (how : SearchEnd) (was now : PoolStats) → how ≢ Empty → CountsEnd how was now → now.empty ≡ was.empty
end-found Fast was now found counts = ap (λ (s : PoolStats). s.empty) counts.1
end-found Refill was now found counts = ap (λ (s : PoolStats). s.empty) counts.1
end-found Slow was now found counts = ap (λ (s : PoolStats). s.empty) counts.1
end-found Empty was now found counts = absurd (found refl)

-- what it counted, where it is one of at most so many
record CountedLooks (most : ℕ) (was now : PoolStats) (old new : NicView) : Type 0 where
  more : List Dealt
  dealt : new.dealt ≡ old.dealt ++ more
  strays : IsRaised was.strays (strays_in more) now.strays
  searches : searches_in now ≤ searches_in was + most

looked : (need most : ℕ) → (0 < need → 1 ≤ most) → (current : Option Filling) (ahead : SearchEnd) (was now : PoolStats) (old new : NicView)
    (how : Option SearchEnd) → AreInType now → LooksFor need current ahead was now old new how → CountedLooks most was now old new
looked need most some current ahead was now old new _ fits (not_needed none stats same) = record {
  more = [];
  dealt = ap (λ (v : NicView). v.dealt) same ∙ sym (append-nil old.dealt);
  strays = inl (ap (λ (s : PoolStats). s.strays) stats ∙ omega arith);
  searches = omega (arith, ap searches_in stats);
}
looked need most some current ahead was now old new _ fits (searched begin met how wanted closes searches counts) = record {
  more = searches.more;
  dealt = ap (λ (v : NicView). v.dealt) searches.view ∙ ap (λ ds. ds ++ searches.more) (closed-dealt current old begin closes);
  strays = subst (IsRaised was.strays (strays_in searches.more)) (sym (end-strays (joint_end ahead how) met now counts)) searches.strays.strays;
  searches = omega (arith, end-searches (joint_end ahead how) met now fits counts, ap searches_in searches.strays.others, some wanted);
}

looked-found : (need : ℕ) (current : Option Filling) (ahead : SearchEnd) (was now : PoolStats) (old new : NicView) (how : Option SearchEnd)
    → how ≢ Some Empty → LooksFor need current ahead was now old new how → now.empty ≡ was.empty
looked-found need current ahead was now old new _ found (not_needed none stats same) = ap (λ (s : PoolStats). s.empty) stats
looked-found need current ahead was now old new _ found (searched begin met how wanted closes searches counts) =
    end-found (joint_end ahead how) met now (joint-found ahead how (λ same. found (ap Some same))) counts
    ∙ ap (λ (s : PoolStats). s.empty) searches.strays.others

looked-empty : (need : ℕ) (current : Option Filling) (ahead : SearchEnd) (was now : PoolStats) (old new : NicView) (how : Option SearchEnd)
    → how ≡ Some Empty → LooksFor need current ahead was now old new how → IsRaised was.empty 1 now.empty
looked-empty need current ahead was now old new _ is (not_needed none stats same) = absurd (cc)
looked-empty need current ahead was now old new _ is (searched begin met how wanted closes searches counts) =
    let same : how ≡ Empty = cc in
    let counted : CountsEnd Empty met now = subst (λ end. CountsEnd (joint_end ahead end) met now) same counts in
    subst (λ n. IsRaised n 1 now.empty) (ap (λ (s : PoolStats). s.empty) searches.strays.others) counted.0

-- it is made for a long payload alone
needs-long : (split : ℕ) (was : PoolState) (old : NicView) (o : Offer) → was.split ≡ split → 0 < needed_for was old o
    → 1 ≤ long_in split (offered o ∷ [])
needs-long split was old o split_is some = ⊎_elim
    (λ (few : nat_le (length (payload_of o)) was.split ≡ true). let none = rw few at some in absurd (omega (arith, none)))
    (λ (many : nat_le (length (payload_of o)) was.split ≡ false).
    let long = lt-ltb split (length (payload_of o)) (omega (arith, leb-false _ _ many, split_is)) in rw long (omega arith))
    (cases_Bool (nat_le (length (payload_of o)) was.split))

-- ---- the counts, after each part of a turn

module _ (split : ℕ) (offers : List Offered) (refused : List ℕ) where
  pub counted-read : (next : Option Offered) (dealt : List Dealt) (stats : PoolStats) → AreOffersCounted split offers refused None dealt stats
      → AreOffersCounted split (offers ++ option_to_list next) refused next dealt stats
  counted-read next dealt stats counted = record {
    searches = omega (arith, counted.searches, long-append split offers (option_to_list next));
    empty = counted.empty;
    strays = counted.strays;
  }

  pub counted-same : (hand : Option Offered) (was now : PoolStats) (before after : List Dealt) → now ≡ was → after ≡ before
      → AreOffersCounted split offers refused hand before was → AreOffersCounted split offers refused hand after now
  counted-same hand was now before after same dealt counted = rw (same, dealt) counted

  pub counted-drained : (hand : Option Offered) (was now : PoolStats) (old new : NicView) (count : ℕ) → AreInType now
      → DrainsRings was now old new count → AreOffersCounted split offers refused hand old.dealt was → AreOffersCounted split offers refused hand new.dealt now
  counted-drained hand was now old new count fits drains counted =
      let others = drains.strays.others in
      record {
        searches = omega (arith, counted.searches, ap searches_in others);
        empty = ap (λ (s : PoolStats). s.empty) others ∙ counted.empty;
        strays = strays-more was now old.dealt new.dealt drains.more counted.strays (ap (λ (v : NicView). v.dealt) drains.deals.view)
            drains.strays.strays fits.strays;
      }

  -- of a search ahead, which isn't counted yet
  pub counted-looked : (hand : Option Offered) (need : ℕ) (was now : PoolState) (old new : NicView) → AreInType now.stats
      → LooksAhead need was now old new → AreOffersCounted split offers refused hand old.dealt was.stats
      → AreOffersCounted split offers refused hand new.dealt now.stats
  counted-looked hand need was now old new fits looks counted =
      let others = looks.searches.strays.others in
      record {
        searches = omega (arith, counted.searches, ap searches_in others);
        empty = ap (λ (s : PoolStats). s.empty) others ∙ counted.empty;
        strays = strays-more was.stats now.stats old.dealt new.dealt looks.searches.more counted.strays
            (ap (λ (v : NicView). v.dealt) looks.searches.view) looks.searches.strays.strays fits.strays;
      }

  module _ (was now : PoolState) (old new : NicView) (o : Offer) (split_is : was.split ≡ split) (fits : AreInType now.stats)
      (counted : AreOffersCounted split offers refused (Some (offered o)) old.dealt was.stats) where
    pub counted-accepted : Accepts was now old new o → AreOffersCounted split offers refused None new.dealt now.stats
    counted-accepted accepts =
        let look = looked (needed_for was old o) (long_in split (offered o ∷ [])) (needs-long split was old o split_is) was.current was.ahead
        was.stats now.stats accepts.flushed accepts.found accepts.how fits accepts.search in
        let before : accepts.flushed.dealt ≡ old.dealt = ap (λ (v : NicView). v.dealt) accepts.flush.view in
        let after : new.dealt ≡ accepts.found.dealt = ap (λ (v : NicView). v.dealt) accepts.placing in
        record {
          searches = omega (arith, counted.searches, look.searches);
          empty = looked-found _ was.current was.ahead was.stats now.stats accepts.flushed accepts.found accepts.how accepts.enough accepts.search ∙ counted.empty;
          strays = strays-more was.stats now.stats old.dealt new.dealt look.more counted.strays
              (after ∙ look.dealt ∙ ap (λ ds. ds ++ look.more) before) look.strays fits.strays;
        }

    pub counted-refused : (cached need : ℕ) → Refuses was now old new o cached need
        → AreOffersCounted split offers (refused ++ o.frame ∷ []) None new.dealt now.stats
    counted-refused cached need refuses =
        let wants : 0 < need → 1 ≤ long_in split (offered o ∷ []) = λ some. needs-long split was old o split_is (omega (arith, some, refuses.need_is)) in
        let look = looked need (long_in split (offered o ∷ [])) wants was.current was.ahead was.stats now.stats refuses.flushed new
        (Some Empty) fits refuses.search in
        let before : refuses.flushed.dealt ≡ old.dealt = ap (λ (v : NicView). v.dealt) refuses.flush.view in
        let more : length refused + 1 ≡ length (refused ++ o.frame ∷ []) = sym (length-append refused (o.frame ∷ [])) in
        record {
          searches = omega (arith, counted.searches, look.searches);
          empty = raised-capped (length refused) was.stats.empty 1 now.stats.empty counted.empty
              (looked-empty need was.current was.ahead was.stats now.stats refuses.flushed new (Some Empty) refl refuses.search) fits.empty
              ∙ ap capped more;
          strays = strays-more was.stats now.stats old.dealt new.dealt look.more counted.strays
              (look.dealt ∙ ap (λ ds. ds ++ look.more) before) look.strays fits.strays;
        }

-- the card was closed
pub closes-dealt : (current : Option Filling) (old new : NicView) → Closes current old new → new.dealt ≡ old.dealt
closes-dealt None old new closes = ap (λ (v : NicView). v.dealt) closes
closes-dealt (Some own) old new (closed, shuts, ended) = ap (λ (v : NicView). v.dealt) ended ∙ ap (λ (v : NicView). v.dealt) shuts.event
