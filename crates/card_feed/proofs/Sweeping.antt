-- How often the free list was swept, and how many searches are counted that did.
use Rattle.std.proofs.Common.{◌≡◌, ◌⊎◌, inl, inr, ℕ, zero, suc, ◌+◌, ◌-◌, ◌^◌, ◌<◌, ◌≤◌, cond, false, List, ◌∷◌, Option, Some, None}
use Rattle.std.proofs.{Common.{⊎_elim, refl, sym, ap, subst, ◌∙◌, arith}, lemmas.{Bool.{ne_eqb}, List.Sums.{sum_by-append, sum_by-cons}}}
use Rattle.std.specs.{Prelude.{count_by}, List.{range_with_len}}
use Rattle.zr_kinds.specs.declared.outcome.PoolStats.{PoolStats}
use Rattle.board_face.specs.declared.views.{parts.Filling.{Filling}, nic.NicView.{NicView}}
use Rattle.page_pool.specs.{declared.offer.{Offer.{Offer}, Verdict.{Verdict, TheVariants.{Accepted, NoRoom, Busy}}}, Dealing.{DrainsRings}}
use Rattle.page_pool.specs.{declared.search_end.SearchEnd.{SearchEnd, TheVariants.{Fast, Refill, Slow, Empty}}, Pool.{PoolState, OnlySends, Closes}}
use Rattle.page_pool.specs.{Searching.{CountsEnd, LooksAhead, Searches, joint_end}, Offer.{needed_for, ClosesCurrent, LooksFor, not_needed, searched, Accepts, Refuses}}
use Rattle.card_feed.specs.{Feed.{FeedState}, Turns.{FeedPlays, drains, offers, finishes, rests, KeepsUp, Settles}}
use Rattle.card_feed.{specs.Counts.{AreAllSwept, AreInType, HaveSwept, is_first_word, sweeping_in, sweeps_in, sweeps_of}, proofs.Counting.{raised-most}}

-- ---- the words that a search swept

first-cons : (w : ℕ) (ws : List ℕ) → count_by is_first_word (w ∷ ws) ≡ cond (is_first_word w) 1 0 + count_by is_first_word ws
first-cons w ws = sum_by-cons (λ (u : ℕ). cond (is_first_word u) 1 0) w ws

-- none of these is the first
later-words : (a n : ℕ) → 0 < a → count_by is_first_word (range_with_len a n) ≡ 0
later-words a zero some = refl
later-words a (suc n) some =
    let later : is_first_word a ≡ false = ne_eqb a 0 (λ e. absurd (omega (arith, e, some))) in
    first-cons a (range_with_len (a + 1) n) ∙ rw later (omega (arith, later-words (a + 1) n (omega arith)))

no-words : (n : ℕ) → n ≡ 0 → count_by is_first_word (range_with_len 0 n) ≡ 0
no-words zero none = refl
no-words (suc n) none = absurd (omega (arith, none))

some-words : (n : ℕ) → 0 < n → count_by is_first_word (range_with_len 0 n) ≡ 1
some-words zero some = absurd (omega (arith, some))
some-words (suc n) some = first-cons 0 (range_with_len (0 + 1) n) ∙ rw (later-words (0 + 1) n (omega arith)) refl

module _ (need : ℕ) (was now : PoolStats) (old new : NicView) where
  words-swept : (how : SearchEnd) → (searches : Searches need was now old new how)
      → sweeps_in new ≡ sweeps_in old + count_by is_first_word (range_with_len 0 searches.words)
  words-swept how searches = ap sweeps_in searches.view
      ∙ sum_by-append (λ (u : ℕ). cond (is_first_word u) 1 0) old.swept (range_with_len 0 searches.words)

  -- the free list was swept where the search ended there or behind it
  pub search-sweeps : (how : SearchEnd) → Searches need was now old new how → sweeps_in new ≡ sweeps_in old + sweeps_of how
  search-sweeps Fast searches = omega (arith, ap sweeps_in searches.ends.1)
  search-sweeps Refill searches = omega (arith, words-swept Refill searches, no-words searches.words searches.ends.2)
  search-sweeps Slow searches = omega (arith, words-swept Slow searches, some-words searches.words searches.ends.2)
  search-sweeps Empty searches = omega (arith, words-swept Empty searches, some-words searches.words searches.ends.1)

-- ---- what was counted

pub joint-sweeps : (before later : SearchEnd) → sweeps_of (joint_end before later) ≤ sweeps_of before + sweeps_of later
joint-sweeps before Empty = omega arith
joint-sweeps Fast Fast = omega arith
joint-sweeps Fast Refill = omega arith
joint-sweeps Fast Slow = omega arith
joint-sweeps Refill Fast = omega arith
joint-sweeps Refill Refill = omega arith
joint-sweeps Refill Slow = omega arith
joint-sweeps Slow Fast = omega arith
joint-sweeps Slow Refill = omega arith
joint-sweeps Slow Slow = omega arith
joint-sweeps Empty Fast = omega arith
joint-sweeps Empty Refill = omega arith
joint-sweeps Empty Slow = omega arith

counted-most : (end : SearchEnd) (was now : PoolStats) → AreInType now → CountsEnd end was now → sweeping_in now ≤ sweeping_in was + sweeps_of end
counted-most Fast was now fits counts = omega (arith, ap sweeping_in counts.1)
counted-most Refill was now fits counts = omega (arith, ap sweeping_in counts.1)
counted-most Slow was now fits counts =
    let others : sweeping_in now ≡ now.slow + was.empty = ap sweeping_in counts.1 in
    omega (arith, others, raised-most was.slow 1 now.slow counts.0 fits.slow)
counted-most Empty was now fits counts =
    let others : sweeping_in now ≡ was.slow + now.empty = ap sweeping_in counts.1 in
    omega (arith, others, raised-most was.empty 1 now.empty counts.0 fits.empty)

-- as many, or a count stays
abbrev Swept : ℕ → PoolStats → Type 0
Swept n stats = (sweeping_in stats ≡ n) ⊎ (2 ^ 64 - 1 ≤ sweeping_in stats)

counted-all : (end : SearchEnd) (was now : PoolStats) → CountsEnd end was now → Swept (sweeping_in was + sweeps_of end) now
counted-all Fast was now counts = inl (omega (arith, ap sweeping_in counts.1))
counted-all Refill was now counts = inl (omega (arith, ap sweeping_in counts.1))
counted-all Slow was now counts = ⊎_elim
    (λ (one : now.slow ≡ was.slow + 1). inl (omega (arith, one, ap sweeping_in counts.1)))
    (λ (full : (2 ^ 64 - 1 ≤ now.slow) × (2 ^ 64 - 1 ≤ was.slow + 1)). inr (omega (arith, full.0)))
    counts.0
counted-all Empty was now counts = ⊎_elim
    (λ (one : now.empty ≡ was.empty + 1). inl (omega (arith, one, ap sweeping_in counts.1)))
    (λ (full : (2 ^ 64 - 1 ≤ now.empty) × (2 ^ 64 - 1 ≤ was.empty + 1)). inr (omega (arith, full.0)))
    counts.0

-- one more, behind those before
counted-later : (end : SearchEnd) (was now : PoolStats) (n : ℕ) → Swept n was → Swept (sweeping_in was + sweeps_of end) now → Swept (n + sweeps_of end) now
counted-later end was now n (inl same) (inl then) = inl (omega (arith, same, then))
counted-later end was now n (inr full) (inl then) = inr (omega (arith, full, then))
counted-later end was now n before (inr full) = inr full

-- ---- the search of an offer

closed-swept : (current : Option Filling) (old new : NicView) → ClosesCurrent current old new → sweeps_in new ≡ sweeps_in old
closed-swept None old new same = ap sweeps_in same
closed-swept (Some own) old new closed = ap sweeps_in closed.event

looked-swept : (need : ℕ) (current : Option Filling) (ahead : SearchEnd) (was now : PoolStats) (old new : NicView) (how : Option SearchEnd)
    → AreInType now → LooksFor need current ahead was now old new how → sweeping_in was + sweeps_of ahead ≤ sweeps_in old
    → sweeping_in now ≤ sweeps_in new
looked-swept need current ahead was now old new _ fits (not_needed none stats same) swept =
    omega (arith, ap sweeping_in stats, ap sweeps_in same, swept)
looked-swept need current ahead was now old new _ fits (searched begin met how wanted closes searches counts) swept = omega (
  arith,
  counted-most (joint_end ahead how) met now fits counts,
  joint-sweeps ahead how,
  ap sweeping_in searches.strays.others,
  search-sweeps need was met begin new how searches,
  closed-swept current old begin closes,
  swept,
)

-- where none was made ahead
looked-all : (need : ℕ) (current : Option Filling) (was now : PoolStats) (old new : NicView) (how : Option SearchEnd)
    → LooksFor need current Fast was now old new how → Swept (sweeps_in old) was → Swept (sweeps_in new) now
looked-all need current was now old new _ (not_needed none stats same) swept = rw (stats, same) swept
looked-all need current was now old new _ (searched begin met how wanted closes searches counts) swept =
    let own : joint_end Fast how ≡ how = first-end how in
    let stats : sweeping_in met ≡ sweeping_in was = ap sweeping_in searches.strays.others in
    let count : CountsEnd how met now = subst (λ end. CountsEnd end met now) own counts in
    let words : sweeps_in new ≡ sweeps_in old + sweeps_of how =
    search-sweeps need was met begin new how searches ∙ ap (λ n. n + sweeps_of how) (closed-swept current old begin closes) in
    subst (λ n. Swept n now) (sym words) (counted-later how met now (sweeps_in old)
    (⊎_elim (λ (exact : sweeping_in was ≡ sweeps_in old). inl (omega (arith, exact, stats)))
    (λ (full : 2 ^ 64 - 1 ≤ sweeping_in was). inr (omega (arith, full, stats))) swept)
    (counted-all how met now count))
  where
    first-end : (how : SearchEnd) → joint_end Fast how ≡ how
    first-end Fast = refl
    first-end Refill = refl
    first-end Slow = refl
    first-end Empty = refl

-- ---- after each part of a turn

-- nothing was swept or counted
pub record SweptAsBefore (was now : PoolState) (old new : NicView) : Type 0 where
  pub stats : sweeping_in now.stats ≡ sweeping_in was.stats
  pub ahead : now.ahead ≡ was.ahead
  pub sweeps : sweeps_in new ≡ sweeps_in old

pub as-before : (was now : PoolState) (old new : NicView) → SweptAsBefore was now old new → HaveSwept was old → HaveSwept now new
as-before was now old new same swept = omega (arith, same.stats, ap sweeps_of same.ahead, same.sweeps, swept)

pub all-before : (was now : PoolState) (old new : NicView) → SweptAsBefore was now old new → AreAllSwept was old → AreAllSwept now new
all-before was now old new same all = record {
  ahead = same.ahead ∙ all.ahead;
  sweeps = ⊎_elim (λ (exact : sweeping_in was.stats ≡ sweeps_in old). inl (omega (arith, exact, same.stats, same.sweeps)))
      (λ (full : 2 ^ 64 - 1 ≤ sweeping_in was.stats). inr (omega (arith, full, same.stats))) all.sweeps;
}

pub before-trans : (was pool now : PoolState) (old mid new : NicView) → SweptAsBefore was pool old mid → SweptAsBefore pool now mid new
    → SweptAsBefore was now old new
before-trans was pool now old mid new first then = record {
  stats = then.stats ∙ first.stats;
  ahead = then.ahead ∙ first.ahead;
  sweeps = then.sweeps ∙ first.sweeps;
}

pub sends-swept : (was now : PoolState) (old new : NicView) → OnlySends was now old new → SweptAsBefore was now old new
sends-swept was now old new sends = record {
  stats = ap (λ (p : PoolState). sweeping_in p.stats) sends.pool;
  ahead = ap (λ (p : PoolState). p.ahead) sends.pool;
  sweeps = ap sweeps_in sends.view;
}

pub drains-swept : (was now : PoolState) (old new : NicView) (count : ℕ) → DrainsRings was.stats now.stats old new count
    → now ≡ record was { stats = now.stats } → SweptAsBefore was now old new
drains-swept was now old new count drained now_is = record {
  stats = ap sweeping_in drained.strays.others;
  ahead = ap (λ (p : PoolState). p.ahead) now_is;
  sweeps = ap sweeps_in drained.deals.view;
}

pub closes-swept : (pool : PoolState) (old new : NicView) → Closes pool.current old new → SweptAsBefore pool (record pool { current = None }) old new
closes-swept pool old new closes = record { stats = refl; ahead = refl; sweeps = by_current pool.current closes }
  where
    by_current : (current : Option Filling) → Closes current old new → sweeps_in new ≡ sweeps_in old
    by_current None closes = ap sweeps_in closes
    by_current (Some own) (closed, shuts, ended) = ap sweeps_in ended ∙ ap sweeps_in shuts.event

-- a search ahead
pub prepared-swept : (need : ℕ) (was now : PoolState) (old new : NicView) → LooksAhead need was now old new → HaveSwept was old → HaveSwept now new
prepared-swept need was now old new looks swept = omega (
  arith,
  ap sweeps_of (ap (λ (p : PoolState). p.ahead) looks.pool),
  joint-sweeps was.ahead looks.result,
  ap sweeping_in looks.searches.strays.others,
  search-sweeps need was.stats now.stats old new looks.result looks.searches,
  swept,
)

-- what was searched ahead isn't wanted
pub dropped-swept : (was now : PoolState) (old new : NicView) → now ≡ record was { ahead = Fast } → new ≡ old → HaveSwept was old → HaveSwept now new
dropped-swept was now old new now_is same swept =
    omega (arith, ap (λ (p : PoolState). sweeping_in p.stats) now_is, ap sweeps_of (ap (λ (p : PoolState). p.ahead) now_is), ap sweeps_in same, swept)

pub dropped-all : (was now : PoolState) (old new : NicView) → now ≡ record was { ahead = Fast } → new ≡ old → AreAllSwept was old → AreAllSwept now new
dropped-all was now old new now_is same all = record {
  ahead = ap (λ (p : PoolState). p.ahead) now_is;
  sweeps = rw (ap (λ (p : PoolState). p.stats) now_is, same) all.sweeps;
}

module _ (was now : PoolState) (old new : NicView) (o : Offer) where
  pub accepted-swept : AreInType now.stats → Accepts was now old new o → HaveSwept was old → HaveSwept now new
  accepted-swept fits accepts swept =
      let before : sweeps_in accepts.flushed ≡ sweeps_in old = ap sweeps_in accepts.flush.view in
      let after : sweeps_in new ≡ sweeps_in accepts.found = ap sweeps_in accepts.placing in
      let found = looked-swept (needed_for was old o) was.current was.ahead was.stats now.stats accepts.flushed accepts.found accepts.how fits
      accepts.search (omega (arith, swept, before)) in
      omega (arith, ap sweeps_of accepts.ahead, found, after)

  pub refused-swept : (cached need : ℕ) → AreInType now.stats → Refuses was now old new o cached need → HaveSwept was old → HaveSwept now new
  refused-swept cached need fits refuses swept =
      let before : sweeps_in refuses.flushed ≡ sweeps_in old = ap sweeps_in refuses.flush.view in
      let found = looked-swept need was.current was.ahead was.stats now.stats refuses.flushed new (Some Empty) fits refuses.search
      (omega (arith, swept, before)) in
      omega (arith, ap sweeps_of (ap (λ (p : PoolState). p.ahead) refuses.pool), found)

  pub accepted-all : Accepts was now old new o → AreAllSwept was old → AreAllSwept now new
  accepted-all accepts all =
      let before : sweeps_in accepts.flushed ≡ sweeps_in old = ap sweeps_in accepts.flush.view in
      let after : sweeps_in new ≡ sweeps_in accepts.found = ap sweeps_in accepts.placing in
      record {
        ahead = accepts.ahead;
        sweeps = subst (λ n. Swept n now.stats) (sym after) (looked-all (needed_for was old o) was.current was.stats now.stats accepts.flushed accepts.found
            accepts.how
            (subst (λ ahead. LooksFor (needed_for was old o) was.current ahead was.stats now.stats accepts.flushed accepts.found accepts.how) all.ahead
            accepts.search) (subst (λ n. Swept n was.stats) (sym before) all.sweeps));
      }

  pub refused-all : (cached need : ℕ) → Refuses was now old new o cached need → AreAllSwept was old → AreAllSwept now new
  refused-all cached need refuses all =
      let before : sweeps_in refuses.flushed ≡ sweeps_in old = ap sweeps_in refuses.flush.view in
      record {
        ahead = ap (λ (p : PoolState). p.ahead) refuses.pool;
        sweeps = looked-all need was.current was.stats now.stats refuses.flushed new (Some Empty)
            (subst (λ ahead. LooksFor need was.current ahead was.stats now.stats refuses.flushed new (Some Empty)) all.ahead refuses.search)
            (subst (λ n. Swept n was.stats) (sym before) all.sweeps);
      }

-- ---- a turn

module _ (was now : FeedState) (old new : NicView) where
  -- notes were sent and the rings drained
  drained-before : (pool : PoolState) (mid : NicView) (count : ℕ) → OnlySends was.pool pool old mid
      → DrainsRings pool.stats now.pool.stats mid new count → now ≡ record was { pool = record pool { stats = now.pool.stats } }
      → SweptAsBefore was.pool now.pool old new
  drained-before pool mid count sends drained same = before-trans was.pool pool now.pool old mid new (sends-swept was.pool pool old mid sends)
      (drains-swept pool now.pool mid new count drained (ap (λ (f : FeedState). f.pool) same))

  -- and the card closed
  closed-before : (pool : PoolState) (mid : NicView) → OnlySends was.pool pool old mid → Closes pool.current mid new
      → now.pool ≡ record pool { current = None } → SweptAsBefore was.pool now.pool old new
  closed-before pool mid sends closes pool_is = before-trans was.pool pool now.pool old mid new (sends-swept was.pool pool old mid sends)
      (subst (λ p. SweptAsBefore pool p mid new) (sym pool_is) (closes-swept pool mid new closes))

  settles-swept : (o : Offer) (verdict : Verdict) → AreInType now.pool.stats → Settles was now old new o verdict → HaveSwept was.pool old
      → HaveSwept now.pool new
  settles-swept o Accepted fits (accepts, same) swept = accepted-swept was.pool now.pool old new o fits accepts swept
  settles-swept o (NoRoom cached need) fits (refuses, same) swept = refused-swept was.pool now.pool old new o cached need fits refuses swept
  settles-swept o Busy fits (pool, mid, count, puts_off, drained, same) swept =
      as-before was.pool now.pool old new (drained-before pool mid count puts_off.sends drained same) swept

  settles-all : (o : Offer) (verdict : Verdict) → Settles was now old new o verdict → AreAllSwept was.pool old → AreAllSwept now.pool new
  settles-all o Accepted (accepts, same) all = accepted-all was.pool now.pool old new o accepts all
  settles-all o (NoRoom cached need) (refuses, same) all = refused-all was.pool now.pool old new o cached need refuses all
  settles-all o Busy (pool, mid, count, puts_off, drained, same) all =
      all-before was.pool now.pool old new (drained-before pool mid count puts_off.sends drained same) all

  pub plays-swept : AreInType now.pool.stats → FeedPlays was now old new → HaveSwept was.pool old → HaveSwept now.pool new
  plays-swept fits (drains closed count drained same) swept =
      as-before was.pool now.pool old new (drains-swept was.pool now.pool old new count drained (ap (λ (f : FeedState). f.pool) same)) swept
  plays-swept fits (offers on o here by) swept = settles-swept by.offer by.verdict fits by.settles swept
  plays-swept fits (finishes on none over (pool, mid, sends, inl (sent, closes, same))) swept =
      as-before was.pool now.pool old new (closed-before pool mid sends closes (ap (λ (f : FeedState). f.pool) same)) swept
  plays-swept fits (finishes on none over (pool, mid, sends, inr (waits, (count, drained, same)))) swept =
      as-before was.pool now.pool old new (drained-before pool mid count sends drained same) swept
  plays-swept fits (rests on none goes same still) swept =
      dropped-swept was.pool now.pool old new (ap (λ (f : FeedState). f.pool) same) still swept

  pub plays-all : FeedPlays was now old new → AreAllSwept was.pool old → AreAllSwept now.pool new
  plays-all (drains closed count drained same) all =
      all-before was.pool now.pool old new (drains-swept was.pool now.pool old new count drained (ap (λ (f : FeedState). f.pool) same)) all
  plays-all (offers on o here by) all = settles-all by.offer by.verdict by.settles all
  plays-all (finishes on none over (pool, mid, sends, inl (sent, closes, same))) all =
      all-before was.pool now.pool old new (closed-before pool mid sends closes (ap (λ (f : FeedState). f.pool) same)) all
  plays-all (finishes on none over (pool, mid, sends, inr (waits, (count, drained, same)))) all =
      all-before was.pool now.pool old new (drained-before pool mid count sends drained same) all
  plays-all (rests on none goes same still) all =
      dropped-all was.pool now.pool old new (ap (λ (f : FeedState). f.pool) same) still all

  pub keeps_up-swept : KeepsUp was now old new → HaveSwept was.pool old → HaveSwept now.pool new
  keeps_up-swept (pool, mid, sends, until, (count, drained, same)) swept =
      as-before was.pool now.pool old new (drained-before pool mid count sends drained same) swept
