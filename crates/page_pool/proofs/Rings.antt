-- One more ring was drained.
use Rattle.std.proofs.Common.{◌≡◌, ◌≢◌, ℕ, ◌+◌, ◌<◌, ◌≤◌, ◌⊎◌, inl, inr, List, [], ◌∷◌, ◌++◌, length, append_assoc}
use Rattle.std.{proofs.{Common.{length-append, refl, sym, ◌∙◌, ap, arith, below_more, ⊎_elim, All}, lemmas.Bool.{cases_lt}}, specs.Prelude.{AllPairs}}
use Rattle.std.proofs.lemmas.List.{append-nil, Sums.{sum_by-append}, Elements.{All-append, All-push, All-head, All-tail, All-weaker, All-get_or, All-nil}}
use Rattle.std.proofs.lemmas.List.Quantifiers.{all_pairs_push}
use Rattle.zr_kinds.specs.declared.outcome.PoolStats.{PoolStats}
use Rattle.board_face.{specs.declared.views.nic.{Dealt.{Dealt}, NicLook.TheVariants.{RingEmpty}, NicView.{NicView}}, proofs.ListLemmas.{eqb_same, not-eqb}}
use Rattle.board_face.proofs.LookLemmas.{NicLooksStay-trans, NicRose-later, NicRose-before}
use Rattle.page_pool.specs.{Dealing.{DealsWith, DrainsFirst, CountsStrays, AreInTurn, IsRingDone, IsRaised, strays_in, entries_of}, Gathering.{DrainsRing}}
use Rattle.page_pool.proofs.Entries.{CountsStrays-none, CachesFreed-trans, DealsWith-none}

-- ---- entries in turn

pub entries_of-append : (a : ℕ) (xs ys : List Dealt) → entries_of a (xs ++ ys) ≡ entries_of a xs + entries_of a ys
entries_of-append a xs ys = simp sum_by-append (omega arith)

-- entries of one application are its own
pub entries_of-own : (app : ℕ) (xs : List Dealt) → All (λ d. d.app ≡ app) xs → entries_of app xs ≡ length xs
entries_of-own app [] all = refl
entries_of-own app (d ∷ xs) all =
    let head : d.app ≡ app = All-head (λ d. d.app ≡ app) d xs all in
    let rest = entries_of-own app xs (All-tail (λ d. d.app ≡ app) d xs all) in
    let one : entries_of app (d ∷ []) ≡ 1 = simp (head, eqb_same) refl in
    omega (arith, entries_of-append app (d ∷ []) xs, one, rest)

-- and none of another's
entries_of-other : (P : ℕ → Type 0) (a : ℕ) → ((b : ℕ) → P b → b ≢ a) → (xs : List Dealt) → All (λ d. P d.app) xs → entries_of a xs ≡ 0
entries_of-other P a other [] all = refl
entries_of-other P a other (d ∷ xs) all =
    let apart : d.app ≢ a = other d.app (All-head (λ d. P d.app) d xs all) in
    let rest = entries_of-other P a other xs (All-tail (λ d. P d.app) d xs all) in
    let one : entries_of a (d ∷ []) ≡ 0 = simp (not-eqb d.app a apart) refl in
    omega (arith, entries_of-append a (d ∷ []) xs, one, rest)

order-append : (app : ℕ) (xs ys : List Dealt) → AllPairs (λ d e. d.app ≤ e.app) xs → All (λ d. d.app ≤ app) xs → All (λ d. d.app ≡ app) ys
    → AllPairs (λ d e. d.app ≤ e.app) (xs ++ ys)
order-append app xs [] order below own = rw append-nil order
order-append app xs (y ∷ ys) order below own =
    let mine : y.app ≡ app = All-head (λ d. d.app ≡ app) y ys own in
    let step : (xs ++ y ∷ []) ++ ys ≡ xs ++ y ∷ ys = append_assoc xs (y ∷ []) ys in
    rw (sym step)
    (order-append app (xs ++ y ∷ []) ys
    (all_pairs_push (λ d e. d.app ≤ e.app) xs y order (λ k d lt. let le = All-get_or (λ e. e.app ≤ app) xs k d lt below in omega (arith, mine, le)))
    (All-push (λ d. d.app ≤ app) xs y below (omega (arith, mine)))
    (All-tail (λ d. d.app ≡ app) y ys own))

pub AreInTurn-none : (places apps : ℕ) → AreInTurn [] places apps
AreInTurn-none places apps = record {
  apps_of = All-nil (λ d. d.app < apps);
  order = λ i j d lt none. absurd (grind (arith, none));
  within = λ a. omega arith;
}

-- the entries of one more ring
pub AreInTurn-ring : (xs ys : List Dealt) (places app count : ℕ) → AreInTurn xs places app → All (λ d. d.app ≡ app) ys → length ys ≡ count
    → count ≤ places → AreInTurn (xs ++ ys) places (app + 1)
AreInTurn-ring xs ys places app count turns own many few = record {
  apps_of = All-append (λ d. d.app < app + 1) xs ys
      (All-weaker (λ d. d.app < app) (λ d. d.app < app + 1) (λ d lt. omega (arith, lt)) xs turns.apps_of)
      (All-weaker (λ d. d.app ≡ app) (λ d. d.app < app + 1) (λ d same. omega (arith, same)) ys own);
  order = order-append app xs ys turns.order (All-weaker (λ d. d.app < app) (λ d. d.app ≤ app) (λ d lt. omega (arith, lt)) xs turns.apps_of) own;
  within = λ a. ⊎_elim (λ low. within_of a (inr (λ e. absurd (omega (arith, low, e)))))
      (λ high. ⊎_elim (λ more. within_of a (inr (λ e. absurd (omega (arith, more, e))))) (λ le. within_of a (inl (omega (arith, high, le))))
      (cases_lt app a)) (cases_lt a app);
}
  where
    within_of : (a : ℕ) → (a ≡ app) ⊎ (a ≢ app) → entries_of a (xs ++ ys) ≤ places
    within_of a (inl same) =
        let none : entries_of app xs ≡ 0 = entries_of-other (λ b. b < app) app (λ b lt e. absurd (omega (arith, lt, e))) xs turns.apps_of in
        let mine = entries_of-own app ys own in
        rw same (omega (arith, entries_of-append app xs ys, none, mine, many, few))
    within_of a (inr other) =
        let none : entries_of a ys ≡ 0 = entries_of-other (λ b. b ≡ app) a (λ b e f. other (sym f ∙ e)) ys own in
        omega (arith, entries_of-append a xs ys, none, turns.within a)

-- ---- rings one after another

pub DrainsFirst-none : (stats : PoolStats) (v : NicView) → DrainsFirst stats stats v v 0 0
DrainsFirst-none stats v = record {
  more = [];
  deals = DealsWith-none v;
  many = refl;
  turns = AreInTurn-none v.setting.places 0;
  strays = CountsStrays-none stats;
  rings = λ a none. absurd (grind arith);
}

pub DealsWith-more : (old v w : NicView) (xs ys : List Dealt) → DealsWith xs old v → DealsWith ys v w → DealsWith (xs ++ ys) old w
DealsWith-more old v w xs ys first second = record {
  freed = first.freed ++ second.freed;
  count = first.count + second.count;
  caches = CachesFreed-trans first.count second.count old v w first.caches second.caches;
  view = rw second.view (rw first.view (simp append_assoc refl));
  looks = NicLooksStay-trans old v w first.looks second.looks;
}

raised_more : (was m now k next : ℕ) → IsRaised was m now → IsRaised now k next → IsRaised was (m + k) next
raised_more was m now k next first second = grind arith

pub CountsStrays-more : (was now next : PoolStats) (xs ys : List Dealt) → CountsStrays was now xs → CountsStrays now next ys
    → CountsStrays was next (xs ++ ys)
CountsStrays-more was now next xs ys first second = record {
  strays =
      let sum : strays_in (xs ++ ys) ≡ strays_in xs + strays_in ys = simp sum_by-append (omega arith) in
      rw sum (raised_more was.strays (strays_in xs) now.strays (strays_in ys) next.strays first.strays second.strays);
  others = rw (second.others, first.others) refl;
}

ring_later : (old v w : NicView) (xs ys : List Dealt) (a : ℕ) → DealsWith ys v w → IsRingDone xs old v a → IsRingDone (xs ++ ys) old w a
ring_later old v w xs ys a deals (inl empty) = inl (NicRose-before old v w (RingEmpty a) empty deals.looks)
ring_later old v w xs ys a deals (inr many) = inr (omega (arith, entries_of-append a xs ys, many))

ring_now : (now next : PoolStats) (old v w : NicView) (xs : List Dealt) (a enough count : ℕ) → DealsWith xs old v
    → (d : DrainsRing now next v w a enough count) → 128 < enough → IsRingDone (xs ++ d.deals.more) old w a
ring_now now next old v w xs a enough count before d much = elim d.done [
  | inl empty ↦ inl (NicRose-later old v w (RingEmpty a) before.looks empty)
  | inr rest ↦ inr (
      let same : v.setting ≡ old.setting = rw before.view refl in
      let places : v.setting.places ≡ old.setting.places = ap (λ s. s.places) same in
      let mine = entries_of-own a d.deals.more d.deals.of_app in
      grind (arith, entries_of-append a xs d.deals.more, places, mine, d.deals.many, d.few, rest))
]

pub DrainsFirst-ring : (was now next : PoolStats) (old v w : NicView) (count n app enough : ℕ) → DrainsFirst was now old v count app
    → DrainsRing now next v w app enough n → 128 < enough → DrainsFirst was next old w (count + n) (app + 1)
DrainsFirst-ring was now next old v w count n app enough first ring much =
    let same : v.setting ≡ old.setting = rw first.deals.view refl in
    let places : v.setting.places ≡ old.setting.places = ap (λ s. s.places) same in
    record {
      more = first.more ++ ring.deals.more;
      deals = DealsWith-more old v w first.more ring.deals.more first.deals ring.deals.deals;
      many = simp length-append (omega (arith, first.many, ring.deals.many));
      turns = AreInTurn-ring first.more ring.deals.more old.setting.places app n first.turns ring.deals.of_app ring.deals.many
          (omega (arith, ring.within, places));
      strays = CountsStrays-more was now next first.more ring.deals.more first.strays ring.deals.strays;
      rings = below_more _ _ (λ a lt. ring_later old v w first.more ring.deals.more a ring.deals.deals (first.rings a lt))
          (ring_now now next old v w first.more app enough n first.deals ring much);
    }
