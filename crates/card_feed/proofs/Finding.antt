-- Each search that found enough shows in the notes of its frame, which begin in a fresh buffer.
use Rattle.std.proofs.Common.{◌≡◌, ◌≢◌, ◌⊎◌, inl, inr, ℕ, zero, suc, ◌+◌, ◌-◌, ◌^◌, ◌<◌, ◌≤◌, ◌==◌, nat_le, min, cond, true, false}
use Rattle.std.{proofs.Common.{List, [], ◌∷◌, ◌++◌, length, map, Option, Some, None, ⊎_elim, refl, ap, subst, ◌∙◌, arith}, specs.Prelude.{count_by, IfSome}}
use Rattle.std.proofs.lemmas.{Bool.{cases_Bool, leb-false, ne_eqb}, List.Sums.{sum_by-append, sum_by-cons}}
use Rattle.zr_kinds.specs.declared.{outcome.PoolStats.{PoolStats}, place.Place.{Place}}
use Rattle.area_layout.specs.Layout.{size_of}
use Rattle.board_face.specs.{Tokens.{next_start, filled_by}, declared.views.{parts.{Setting.{Setting}, Filling.{Filling}}, nic.SentNote.{SentNote}}}
use Rattle.board_face.specs.declared.views.nic.NicView.{NicView}
use Rattle.page_pool.specs.{declared.offer.Offer.{Offer}, Frames.{offered, ShowRest}, Packing.{fits, fresh_parts, fresh as in_fresh}}
use Rattle.page_pool.specs.{Searching.{CountsEnd, joint_end}, Pool.{PoolState, all_notes}}
use Rattle.page_pool.specs.declared.search_end.SearchEnd.{SearchEnd, TheVariants.{Fast, Refill, Slow, Empty}}
use Rattle.page_pool.specs.Offer.{payload_of, frame_notes, split_notes, packed, place_of, places_for, needed_for, last_of}
use Rattle.page_pool.{specs.Offer.{LooksFor, not_needed, searched, Accepts, Refuses}, proofs.{Offering.{packed_into-fresh}, PlacedParts.{next_note}}}
use Rattle.card_feed.{specs.Counts.{found_in, begins_fresh, AreFound}, proofs.Counting.{joint-found}}

-- ---- the notes of a frame

begin-append : (xs ys : List SentNote) → count_by begins_fresh (xs ++ ys) ≡ count_by begins_fresh xs + count_by begins_fresh ys
begin-append xs ys = sum_by-append (λ (s : SentNote). cond (begins_fresh s) 1 0) xs ys

begin-cons : (s : SentNote) (ss : List SentNote) → count_by begins_fresh (s ∷ ss) ≡ cond (begins_fresh s) 1 0 + count_by begins_fresh ss
begin-cons s ss = sum_by-cons (λ (t : SentNote). cond (begins_fresh t) 1 0) s ss

-- none begins behind the first byte
begins-behind : (o : Offer) (at : ℕ) (places : List Place) → 0 < at → count_by begins_fresh (split_notes o at places) ≡ 0
begins-behind o at [] some = refl
begins-behind o at (p ∷ ps) some =
    let later : (at == 0) ≡ false = ne_eqb at 0 (λ e. absurd (omega (arith, e, some))) in
    begin-cons (next_note o at p) (split_notes o (at + p.len) ps) ∙ rw later (omega (arith, begins-behind o (at + p.len) ps (omega (arith, some))))

-- one begins in a fresh buffer
record BeginsFresh (notes : List SentNote) (parts : ℕ) : Type 0 where
  one : count_by begins_fresh notes ≡ 1
  some : 0 < parts

begins-fresh : (o : Offer) (own : Option Filling) (buffers sizes : List ℕ) (len : ℕ)
    → ShowRest (offered o) 0 (split_notes o 0 (map (place_of own buffers) (fresh_parts 0 sizes len))) → 0 < length (payload_of o)
    → BeginsFresh (split_notes o 0 (map (place_of own buffers) (fresh_parts 0 sizes len))) (length (fresh_parts 0 sizes len))
begins-fresh o own buffers [] len shows some = absurd (omega (arith, shows, some))
begins-fresh o own buffers (size ∷ sizes) zero shows some = absurd (omega (arith, shows, some))
begins-fresh o own buffers (size ∷ sizes) (suc rest) shows some =
    let first : Place = place_of own buffers (record { target = in_fresh 0; offset = 0; len = min size (suc rest) }) in
    let others : List Place = map (place_of own buffers) (fresh_parts 1 sizes (suc rest - size)) in
    record {
      one = begin-cons (next_note o 0 first) (split_notes o (0 + first.len) others)
          ∙ omega (arith, begins-behind o (0 + first.len) others (omega (arith, shows.0.some)));
      some = omega arith;
    }

-- none begins in a buffer that is begun
begins-later : (o : Offer) (p : Place) → 0 < p.offset → count_by begins_fresh (split_notes o 0 (p ∷ [])) ≡ 0
begins-later o p some =
    let behind : (p.offset == 0) ≡ false = ne_eqb p.offset 0 (λ e. absurd (omega (arith, e, some))) in rw behind refl

-- ---- the current buffer

abbrev IsBegun : Option Filling → Type 0
IsBegun own = IfSome own (λ f. 0 < f.start)

next-some : (n : ℕ) → 0 < n → 0 < next_start n
next-some n some = omega (arith, some)

-- some bytes of the last fresh buffer are used, as of each of them
last-begun : (setting : Setting) (buffers : List ℕ) (number len : ℕ)
    → length (fresh_parts number (map (size_of setting.layout) buffers) len) ≡ length buffers → IsBegun (last_of setting buffers len)
last-begun setting [] number len all = tt
last-begun setting (b ∷ []) number zero all = absurd (omega (arith, all))
last-begun setting (b ∷ []) number (suc rest) all = next-some (0 + suc rest) (omega arith)
last-begun setting (b ∷ c ∷ more) number zero all = absurd (omega (arith, all))
last-begun setting (b ∷ c ∷ more) number (suc rest) all =
    last-begun setting (c ∷ more) (suc number) (suc rest - size_of setting.layout b) (omega (arith, all))

-- ---- a search

-- a count more, or one that stays
abbrev Found : ℕ → PoolStats → Type 0
Found n stats = (found_in stats ≡ n) ⊎ (2 ^ 64 - 1 ≤ found_in stats)

more-found : (was now : PoolStats) (n more : ℕ) → Found n was → Found (found_in was + more) now → Found (n + more) now
more-found was now n more (inl same) (inl then) = inl (omega (arith, same, then))
more-found was now n more (inr full) (inl then) = inr (omega (arith, full, then))
more-found was now n more before (inr full) = inr full

end-found : (how : SearchEnd) (was now : PoolStats) → how ≢ Empty → CountsEnd how was now → Found (found_in was + 1) now
end-found Fast was now found counts = ⊎_elim
    (λ (one : now.fast ≡ was.fast + 1). inl (omega (arith, one, ap found_in counts.1)))
    (λ (full : (2 ^ 64 - 1 ≤ now.fast) × (2 ^ 64 - 1 ≤ was.fast + 1)). inr (omega (arith, full.0)))
    counts.0
end-found Refill was now found counts = ⊎_elim
    (λ (one : now.refill ≡ was.refill + 1). inl (omega (arith, one, ap found_in counts.1)))
    (λ (full : (2 ^ 64 - 1 ≤ now.refill) × (2 ^ 64 - 1 ≤ was.refill + 1)). inr (omega (arith, full.0)))
    counts.0
end-found Slow was now found counts = ⊎_elim
    (λ (one : now.slow ≡ was.slow + 1). inl (omega (arith, one, ap found_in counts.1)))
    (λ (full : (2 ^ 64 - 1 ≤ now.slow) × (2 ^ 64 - 1 ≤ was.slow + 1)). inr (omega (arith, full.0)))
    counts.0
end-found Empty was now found counts = absurd (found refl)

-- where none was needed
looked-none : (need : ℕ) (current : Option Filling) (ahead : SearchEnd) (was now : PoolStats) (old new : NicView) (how : Option SearchEnd)
    → need ≡ 0 → LooksFor need current ahead was now old new how → found_in now ≡ found_in was
looked-none need current ahead was now old new _ none (not_needed is stats same) = ap found_in stats
looked-none need current ahead was now old new _ none (searched begin met how some closes searches counts) = absurd (omega (arith, none, some))

-- where some were, and were found
looked-one : (need : ℕ) (current : Option Filling) (ahead : SearchEnd) (was now : PoolStats) (old new : NicView) (how : Option SearchEnd)
    → 0 < need → how ≢ Some Empty → LooksFor need current ahead was now old new how → Found (found_in was + 1) now
looked-one need current ahead was now old new _ some found (not_needed is stats same) = absurd (omega (arith, is, some))
looked-one need current ahead was now old new _ some found (searched begin met how wanted closes searches counts) =
    subst (λ n. Found (n + 1) now) (ap found_in searches.strays.others)
    (end-found (joint_end ahead how) met now (joint-found ahead how (λ same. found (ap Some same))) counts)

-- where too few were
looked-few : (need : ℕ) (current : Option Filling) (ahead : SearchEnd) (was now : PoolStats) (old new : NicView) (how : Option SearchEnd)
    → how ≡ Some Empty → LooksFor need current ahead was now old new how → found_in now ≡ found_in was
looked-few need current ahead was now old new _ is (not_needed none stats same) = absurd (cc)
looked-few need current ahead was now old new _ is (searched begin met how wanted closes searches counts) =
    let same : how ≡ Empty = cc in
    let counted : CountsEnd Empty met now = subst (λ end. CountsEnd (joint_end ahead end) met now) same counts in
    ap found_in counted.1 ∙ ap found_in searches.strays.others

-- ---- what was found, after each part of a turn

pub found-same : (was now : PoolState) (old new : NicView) → now.current ≡ was.current → found_in now.stats ≡ found_in was.stats
    → all_notes now new ≡ all_notes was old → AreFound (all_notes was old) was → AreFound (all_notes now new) now
found-same was now old new current stats notes are = record {
  found = rw (stats, notes) are.found;
  used = rw current are.used;
}

-- the current buffer was closed
pub found-closed : (was now : PoolState) (old new : NicView) → now.current ≡ None → found_in now.stats ≡ found_in was.stats
    → all_notes now new ≡ all_notes was old → AreFound (all_notes was old) was → AreFound (all_notes now new) now
found-closed was now old new none stats notes are = record { found = rw (stats, notes) are.found; used = rw none tt }

-- so many more notes begin in fresh buffers, and as many searches found enough
record FindsMore (was now : PoolState) (notes : List SentNote) : Type 0 where
  searches : Found (found_in was.stats + count_by begins_fresh notes) now.stats
  used : IsBegun now.current

found-more : (was now : PoolState) (old new : NicView) (notes : List SentNote) → all_notes now new ≡ all_notes was old ++ notes
    → AreFound (all_notes was old) was → FindsMore was now notes → AreFound (all_notes now new) now
found-more was now old new notes all are finds = record {
  found = rw (all, begin-append (all_notes was old) notes)
      (more-found was.stats now.stats (count_by begins_fresh (all_notes was old)) (count_by begins_fresh notes) are.found finds.searches);
  used = finds.used;
}

module _ (was now : PoolState) (old new : NicView) (o : Offer) where
  -- in its note
  finds-short : nat_le (length (payload_of o)) was.split ≡ true → IsBegun was.current → (accepts : Accepts was now old new o)
      → FindsMore was now (frame_notes was.split o (places_for was old accepts.buffers o))
  finds-short few begun accepts =
      let same = looked-none (needed_for was old o) was.current was.ahead was.stats now.stats accepts.flushed accepts.found accepts.how (rw few refl) accepts.search in
      rw few (record { searches = inl (omega (arith, same)); used = rw (rw few at accepts.current) begun })

  -- in the current buffer
  finds-current : nat_le (length (payload_of o)) was.split ≡ false → (own : Filling) → was.current ≡ Some own
      → fits (packed (Some own)) (length (payload_of o)) ≡ true → 0 < own.start → (accepts : Accepts was now old new o)
      → FindsMore was now (frame_notes was.split o (places_for was old accepts.buffers o))
  finds-current long own is there begun accepts =
      let same = looked-none (needed_for was old o) was.current was.ahead was.stats now.stats accepts.flushed accepts.found accepts.how
      (rw (long, is, there) refl) accepts.search in
      let current : now.current ≡ Some (filled_by own (length (payload_of o))) = rw (long, is, there) at accepts.current in
      rw (long, is, there) (record {
        searches = inl (omega (
          arith,
          same,
          begins-later o (record {
            buffer = own.buffer;
            offset = next_start own.start;
            len = length (payload_of o);
          }) (next-some own.start begun),
        ));
        used = rw current (next-some (own.start + length (payload_of o)) (omega (arith, begun)));
      })

  -- in fresh buffers
  finds-fresh : nat_le (length (payload_of o)) was.split ≡ false → fits (packed was.current) (length (payload_of o)) ≡ false
      → (accepts : Accepts was now old new o) → FindsMore was now (frame_notes was.split o (places_for was old accepts.buffers o))
  finds-fresh long too_long accepts =
      let some : 0 < length (payload_of o) = omega (arith, leb-false _ _ long) in
      let sizes : List ℕ = map (size_of old.setting.layout) accepts.buffers in
      let shows = rw (long, too_long) at accepts.shows.long (omega (arith, leb-false _ _ long)) in
      let begins = begins-fresh o was.current accepts.buffers sizes (length (payload_of o)) shows some in
      let many : length (fresh_parts 0 sizes (length (payload_of o))) ≡ length accepts.buffers = rw (long, too_long) at accepts.many in
      let needed : 0 < needed_for was old o = omega (arith, accepts.few, many, begins.some) in
      let current : now.current ≡ last_of old.setting accepts.buffers (length (payload_of o)) =
      rw long at accepts.current ∙ packed_into-fresh old.setting was.current accepts.buffers (length (payload_of o)) too_long in
      let found = looked-one (needed_for was old o) was.current was.ahead was.stats now.stats accepts.flushed accepts.found accepts.how needed accepts.enough
      accepts.search in
      rw (long, too_long) (record {
        searches = rw begins.one found;
        used = rw current (last-begun old.setting accepts.buffers 0 (length (payload_of o)) many);
      })

  finds : (own : Option Filling) → was.current ≡ own → IsBegun own → nat_le (length (payload_of o)) was.split ≡ false
      → (accepts : Accepts was now old new o) → FindsMore was now (frame_notes was.split o (places_for was old accepts.buffers o))
  finds None is begun long accepts = finds-fresh long (rw is refl) accepts
  finds (Some own) is begun long accepts = ⊎_elim
      (λ (there : fits (packed (Some own)) (length (payload_of o)) ≡ true). finds-current long own is there begun accepts)
      (λ (too_long : fits (packed (Some own)) (length (payload_of o)) ≡ false). finds-fresh long (rw is too_long) accepts)
      (cases_Bool (fits (packed (Some own)) (length (payload_of o))))

  pub found-accepted : AreFound (all_notes was old) was → Accepts was now old new o → AreFound (all_notes now new) now
  found-accepted are accepts =
      let notes : List SentNote = frame_notes was.split o (places_for was old accepts.buffers o) in
      found-more was now old new notes accepts.notes are (⊎_elim
      (λ (few : nat_le (length (payload_of o)) was.split ≡ true). finds-short few are.used accepts)
      (λ (long : nat_le (length (payload_of o)) was.split ≡ false). finds was.current refl are.used long accepts)
      (cases_Bool (nat_le (length (payload_of o)) was.split)))

  pub found-refused : (cached need : ℕ) → AreFound (all_notes was old) was → Refuses was now old new o cached need → AreFound (all_notes now new) now
  found-refused cached need are refuses = found-closed was now old new (ap (λ (p : PoolState). p.current) refuses.pool)
      (looked-few need was.current was.ahead was.stats now.stats refuses.flushed new (Some Empty) refl refuses.search) refuses.notes are
