-- One more ring was drained, or one more word swept.
use Rattle.std.proofs.Common.{◌≡◌, ℕ, zero, suc, ◌+◌, ◌<◌, ◌≤◌, ◌⊎◌, inl, inr, List, [], ◌∷◌, ◌++◌}
use Rattle.std.proofs.Common.{length, append_assoc, length-append, refl, sym, ◌∙◌, ap, arith, below_more, ⊎_elim, Bool, true, false}
use Rattle.std.{specs.{Prelude.{◌≢◌, ◌||◌, nat_eq}, List.{list_any, range_with_len}}, proofs.lemmas.Bool.{true≢false, cases_lt, cases_Bool, eq-eqb}}
use Rattle.std.proofs.{Math.Bool.{or-true}, lemmas.List.{append-nil, Folds.{list_any-append}}}
use Rattle.zr_kinds.specs.declared.outcome.PoolStats.{PoolStats}
use Rattle.area_layout.specs.Layout.{pool_buffers}
use Rattle.board_face.specs.{Looks.{NicRose, same_nic_look, NicLooksStay}, NicEvents.{swept}}
use Rattle.board_face.specs.{NicCalls.{apps_of, free_words_of, HasSweptAll, lost_of, sent_unsplit_bytes, SweptWord}, declared.views.nic.Dealt.{Dealt}}
use Rattle.board_face.{specs.declared.views.nic.{NicLook.TheVariants.{RingEmpty, Swept}, NicView.{NicView}}, proofs.LostLemmas.{buffers-accounted}}
use Rattle.board_face.proofs.LookLemmas.{NicLooksStay-same, NicLooksStay-trans, NicRose-later, NicRose-before, times-more}
use Rattle.page_pool.specs.{Dealing.{DealsWith}, Gathering.{DrainsRing, GathersEntries, HasAtMost, RefillsFirst, SweepsFirst}}
use Rattle.page_pool.specs.{Searching.{enough, AreRingsDone, AreSwept, AreToldOf, Searches}}
use Rattle.page_pool.specs.declared.search_end.SearchEnd.{SearchEnd, TheVariants.{Fast, Refill, Slow, Empty}}
use Rattle.page_pool.proofs.Entries.{CountsStrays-none, CachesFreed-none, CachesFreed-trans}
use Rattle.page_pool.proofs.Rings.{CountsStrays-more, AreInTurn-none, AreInTurn-ring, entries_of-own, entries_of-append}

range-push : (a n : ℕ) → range_with_len a (n + 1) ≡ range_with_len a n ++ (a + n) ∷ []
range-push a zero = let same : a + 0 ≡ a = omega arith in rw same refl
range-push a (suc n) =
    let last : a + suc n ≡ a + 1 + n = omega arith in
    let more : suc n + 1 ≡ suc (n + 1) = omega arith in
    rw (last, more) (ap (λ xs. a ∷ xs) (range-push (a + 1) n))

pub Gathers-none : (v : NicView) → GathersEntries [] 0 v v
Gathers-none v = record {
  view = rw (append-nil, append-nil) refl;
  looks = NicLooksStay-same v v refl;
  longer = omega arith;
  each = λ word none. absurd (grind arith);
}

Gathers-deals : (old v w : NicView) (xs ys : List Dealt) → GathersEntries xs 0 old v → DealsWith ys v w → GathersEntries (xs ++ ys) 0 old w
Gathers-deals old v w xs ys first second =
    let cache : length w.cache ≡ length v.cache + length second.freed = ap (λ (u : NicView). length u.cache) second.view
    ∙ length-append v.cache second.freed in
    record {
      view = rw second.view (rw first.view (simp append_assoc refl));
      looks = NicLooksStay-trans old v w first.looks second.looks;
      longer = omega (arith, first.longer, cache);
      each = λ word none. absurd (grind arith);
    }

HasAtMost-more : (most : ℕ) (old v w : NicView) → HasAtMost most old v → HasAtMost most v w → HasAtMost most old w
HasAtMost-more most old v w first second = grind (arith, first, second)

pub RefillsFirst-none : (stats : PoolStats) (v : NicView) (most : ℕ) → length v.cache ≤ 128 → RefillsFirst stats stats v v most 0
RefillsFirst-none stats v most few = record {
  more = [];
  gathers = Gathers-none v;
  freed = 0;
  caches = CachesFreed-none v v refl refl;
  turns = AreInTurn-none v.setting.places 0;
  strays = CountsStrays-none stats;
  rings = λ a none. absurd (grind arith);
  most = inr refl;
  few = few;
}

pub RefillsFirst-ring : (was now next : PoolStats) (old v w : NicView) (most app n : ℕ) → RefillsFirst was now old v most app
    → DrainsRing now next v w app most n → RefillsFirst was next old w most (app + 1)
RefillsFirst-ring was now next old v w most app n first ring =
    let xs : List Dealt = first.more in
    let ys : List Dealt = ring.deals.more in
    let deals = ring.deals.deals in
    let cache : length w.cache ≡ length v.cache + length deals.freed = ap (λ (u : NicView). length u.cache) deals.view
    ∙ length-append v.cache deals.freed in
    let same : v.setting ≡ old.setting = ap (λ (u : NicView). u.setting) first.gathers.view in
    let places : v.setting.places ≡ old.setting.places = ap (λ s. s.places) same in
    let mine = entries_of-own app ys ring.deals.of_app in
    record {
      more = xs ++ ys;
      gathers = Gathers-deals old v w xs ys first.gathers deals;
      freed = first.freed + deals.count;
      caches = CachesFreed-trans first.freed deals.count old v w first.caches deals.caches;
      turns = AreInTurn-ring xs ys old.setting.places app n first.turns ring.deals.of_app ring.deals.many (omega (arith, ring.within, places));
      strays = CountsStrays-more was now next xs ys first.strays ring.deals.strays;
      rings = below_more _ _
          (λ a lt. ⊎_elim
          (λ done. inl (⊎_elim (λ empty. inl (NicRose-before old v w (RingEmpty a) empty deals.looks))
          (λ many. inr (omega (arith, entries_of-append a xs ys, many))) done))
          (λ cached. inr (omega (arith, cached, cache)))
          (first.rings a lt))
          (⊎_elim
          (λ empty. inl (inl (NicRose-later old v w (RingEmpty app) first.gathers.looks empty)))
          (λ rest. ⊎_elim (λ many. inl (inr (omega (arith, entries_of-append app xs ys, many, places, mine, ring.deals.many))))
          (λ cached. inr cached) rest)
          ring.done);
      most = HasAtMost-more most old v w first.most ring.most;
      few = ring.few;
    }

-- a word was passed over, since enough are cached
pub SweepsFirst-passed : (old v : NicView) (most word : ℕ) → SweepsFirst old v most word → most ≤ length v.cache → SweepsFirst old v most (word + 1)
SweepsFirst-passed old v most word first cached = record {
  count = first.count;
  gathers = first.gathers;
  none_freed = first.none_freed;
  until = inr cached;
  some = first.some;
  lost = first.lost;
}

pub SweepsFirst-word : (old v w : NicView) (most word count : ℕ) → SweepsFirst old v most word → length v.cache < most → SweptWord v w word count
    → lost_of w ≤ sent_unsplit_bytes w → SweepsFirst old w most (word + 1)
SweepsFirst-word old v w most word count first room one lost =
    let e : w ≡ swept v word one.found = one.event in
    let at : first.count ≡ word = ⊎_elim (λ same. same) (λ full. absurd (omega (arith, full, room))) first.until in
    let cache : length w.cache ≡ length v.cache + length one.found = ap (λ (u : NicView). length u.cache) e ∙ length-append v.cache one.found in
    let looks : NicLooksStay v w = rw e (record { later = λ look. times-more same_nic_look look (Swept word) v.looks }) in
    let words : range_with_len 0 (first.count + 1) ≡ range_with_len 0 first.count ++ word ∷ [] =
    let last : 0 + first.count ≡ word = omega (arith, at) in rw last at (range-push 0 first.count) in
    record {
      count = first.count + 1;
      gathers = record {
        view = rw words (rw e (rw first.gathers.view (simp append_assoc refl)));
        looks = NicLooksStay-trans old v w first.gathers.looks looks;
        longer = omega (arith, first.gathers.longer, cache);
        each = below_more _ _ (λ u lt. NicRose-before old v w (Swept u) (first.gathers.each u lt) looks)
            (rw at (NicRose-later old v w (Swept word) first.gathers.looks one.look));
      };
      none_freed = rw e (omega (arith, first.none_freed));
      until = inl (omega (arith, at));
      some = inl (omega arith);
      lost = λ some. lost;
    }

-- ---- how a search ends

pub Searches-fast : (need : ℕ) (stats : PoolStats) (v : NicView) → need ≤ length v.cache → Searches need stats stats v v Fast
Searches-fast need stats v held = record {
  more = [];
  freed = 0;
  words = 0;
  view = rw (append-nil, append-nil) refl;
  turns = AreInTurn-none v.setting.places (apps_of v.setting);
  swept = λ word none. absurd (grind arith);
  looks = NicLooksStay-same v v refl;
  seen = omega arith;
  ends = (held, refl);
  strays = CountsStrays-none stats;
}

-- each ring was done, or 64 are cached
rings_or_enough : (was now : PoolStats) (old v : NicView) → (r : RefillsFirst was now old v 64 (apps_of old.setting))
    → (enough ≤ length v.cache) ⊎ AreRingsDone r.more old v
rings_or_enough was now old v r =
    ⊎_elim (λ few. inr (λ a lt. ⊎_elim (λ done. done) (λ cached. absurd (omega (arith, few, cached))) (r.rings a lt))) (λ full. inl full)
    (cases_lt (length v.cache) 64)

pub Searches-refill : (need : ℕ) (was now : PoolStats) (old v : NicView) → need ≤ 64 → length old.cache < need
    → RefillsFirst was now old v 64 (apps_of old.setting) → need ≤ length v.cache → Searches need was now old v Refill
Searches-refill need was now old v small few refills held =
    let most : length v.cache ≤ 64 = ⊎_elim (λ most. most) (λ same. absurd (omega (arith, same, few, held))) refills.most in
    record {
      more = refills.more;
      freed = refills.freed;
      words = 0;
      view = refills.gathers.view;
      turns = refills.turns;
      swept = λ word none. absurd (grind arith);
      looks = refills.gathers.looks;
      seen = refills.caches.seen;
      ends = (few, held, refl, omega (arith, refills.caches.cached, few, held, small, most), most, rings_or_enough _ _ _ _ refills);
      strays = refills.strays;
    }

-- what a search has done once it swept words
record Swept_too (more : List Dealt) (words : ℕ) (old w : NicView) : Type 0 where
  view : w ≡ record old { cache = w.cache; swept = old.swept ++ range_with_len 0 words; dealt = old.dealt ++ more; looks = w.looks }
  looks : NicLooksStay old w
  rose : (word : ℕ) → word < words → NicRose (Swept word) old w
  rings : AreRingsDone more old w

sweeps_too : (need : ℕ) (was now : PoolStats) (old v w : NicView) → need ≤ 64 → (r : RefillsFirst was now old v 64 (apps_of old.setting))
    → length v.cache < need
    → (s : SweepsFirst v w 64 (free_words_of v.setting)) → Swept_too r.more s.count old w
sweeps_too need was now old v w small r few s = record {
  view = rw s.gathers.view (rw r.gathers.view (simp (append-nil, append_assoc) refl));
  looks = NicLooksStay-trans old v w r.gathers.looks s.gathers.looks;
  rose = λ word lt. NicRose-later old v w (Swept word) r.gathers.looks (s.gathers.each word lt);
  rings = λ a lt. ⊎_elim
      (λ done. ⊎_elim (λ rose. inl (NicRose-before old v w (RingEmpty a) rose s.gathers.looks)) (λ many. inr many) done)
      (λ cached. absurd (omega (arith, cached, few, small)))
      (r.rings a lt);
}

-- all words were swept, or 64 are cached
words_or_enough : (old v w : NicView) → v.setting ≡ old.setting → (s : SweepsFirst v w 64 (free_words_of v.setting))
    → ((word : ℕ) → word < s.count → NicRose (Swept word) old w)
    → (enough ≤ length w.cache) ⊎ AreSwept old w
words_or_enough old v w same s rose = ⊎_elim (λ all. inr (λ word lt. rose word
    (let count : s.count ≡ free_words_of old.setting = all ∙ ap free_words_of same in rw count lt))) (λ full. inl full) s.until

pub Searches-slow : (need : ℕ) (was now : PoolStats) (old v w : NicView) → need ≤ 64 → length old.cache < need
    → RefillsFirst was now old v 64 (apps_of old.setting) → length v.cache < need
    → SweepsFirst v w 64 (free_words_of v.setting) → need ≤ length w.cache → Searches need was now old w Slow
Searches-slow need was now old v w small few refills few_still sweeps held =
    let both = sweeps_too need was now old v w small refills few_still sweeps in
    let setting : v.setting ≡ old.setting = ap (λ (u : NicView). u.setting) refills.gathers.view in
    let some : 0 < sweeps.count = ⊎_elim (λ some. some) (λ same. let cache : length w.cache
    ≡ length v.cache = ap (λ (u : NicView). length u.cache) same in absurd (omega (arith, cache, few_still, held))) sweeps.some in
    record {
      more = refills.more;
      freed = refills.freed;
      words = sweeps.count;
      view = both.view;
      turns = refills.turns;
      swept = both.rose;
      looks = both.looks;
      seen = omega (arith, refills.caches.seen, sweeps.none_freed);
      ends = (omega (arith, refills.caches.cached, few_still, small), held, some, both.rings, words_or_enough old v w setting sweeps both.rose);
      strays = refills.strays;
    }

-- ---- once all words were swept

any-right : (test : ℕ → Bool) (xs ys : List ℕ) → list_any test ys ≡ true → list_any test (xs ++ ys) ≡ true
any-right test xs ys there = list_any-append test xs ys ∙ ap (λ c. list_any test xs || c) there ∙ or-true (list_any test xs)

any-range : (w a n : ℕ) → a ≤ w → w < a + n → list_any (nat_eq w) (range_with_len a n) ≡ true
any-range w a zero from to = absurd (omega (arith, from, to))
any-range w a (suc n) from to = ⊎_elim
    (λ (is : nat_eq w a ≡ true). rw is refl)
    (λ (not_so : nat_eq w a ≡ false). rw not_so (any-range w (a + 1) n (omega (arith, from, above not_so)) (omega (arith, to))))
    (cases_Bool (nat_eq w a))
  where
    above : nat_eq w a ≡ false → a < w
    above not_so = ⊎_elim
        (λ (less : a < w). less)
        (λ (most : w ≤ a). let same : w ≡ a = omega (arith, from, most) in absurd (true≢false (sym (eq-eqb w a same) ∙ not_so)))
        (cases_lt a w)

told-of : (old w : NicView) (n : ℕ) → w.swept ≡ old.swept ++ range_with_len 0 n → n ≡ free_words_of w.setting
    → (0 < n → lost_of w ≤ sent_unsplit_bytes w) → AreToldOf w
told-of old w n swept all lost = record { swept = each; all = told n all lost }
  where
    each : HasSweptAll w
    each u less = rw swept (any-right (nat_eq u) old.swept (range_with_len 0 n) (any-range u 0 n (omega arith) (omega (arith, less, all))))

    told : (m : ℕ) → m ≡ free_words_of w.setting → (0 < m → lost_of w ≤ sent_unsplit_bytes w)
        → pool_buffers w.setting.layout ≤ length w.cache + length w.used + sent_unsplit_bytes w
    told zero none lost = omega (arith, none)
    told (suc m) some lost = omega (arith, buffers-accounted w each, lost (omega arith))

pub Searches-empty : (need : ℕ) (was now : PoolStats) (old v w : NicView) → need ≤ 64 → RefillsFirst was now old v 64 (apps_of old.setting)
    → length v.cache < need → 0 < free_words_of v.setting → SweepsFirst v w 64 (free_words_of v.setting) → length w.cache < need
    → Searches need was now old w Empty
Searches-empty need was now old v w small refills few_still some sweeps none =
    let both = sweeps_too need was now old v w small refills few_still sweeps in
    let all : sweeps.count ≡ free_words_of v.setting =
    ⊎_elim (λ all. all) (λ full. absurd (omega (arith, full, none, small))) sweeps.until in
    let setting : v.setting ≡ old.setting = ap (λ (u : NicView). u.setting) refills.gathers.view in
    record {
      more = refills.more;
      freed = refills.freed;
      words = sweeps.count;
      view = both.view;
      turns = refills.turns;
      swept = both.rose;
      looks = both.looks;
      seen = omega (arith, refills.caches.seen, sweeps.none_freed);
      ends = (
        none,
        omega (arith, all, some),
        both.rings,
        ⊎_elim (λ full. absurd (omega (arith, full, none, small))) (λ all. all) (words_or_enough old v w setting sweeps both.rose),
        told-of v w sweeps.count (ap (λ (u : NicView). u.swept) sweeps.gathers.view)
            (all ∙ ap free_words_of (sym (ap (λ (u : NicView). u.setting) sweeps.gathers.view))) sweeps.lost,
      );
      strays = refills.strays;
    }

-- ---- which ends tell of how many are cached

pub ends-enough : (end : SearchEnd) (need : ℕ) (was now : PoolStats) (old new : NicView) → Searches need was now old new end → end ≢ Empty
    → need ≤ length new.cache
ends-enough Fast need was now old new searches found = rw searches.ends.1 searches.ends.0
ends-enough Refill need was now old new searches found = searches.ends.1
ends-enough Slow need was now old new searches found = searches.ends.1
ends-enough Empty need was now old new searches found = absurd (found refl)
