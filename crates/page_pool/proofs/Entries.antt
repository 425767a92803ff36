-- One more entry was dealt with.
use Rattle.std.proofs.Common.{◌≡◌, ℕ, ◌+◌, ◌-◌, ◌≤◌, ◌^◌, inl, inr, List, [], ◌∷◌, ◌++◌, length, append_assoc}
use Rattle.std.proofs.Common.{length-append, cond, ⊎_elim, refl, sym, ◌∙◌, arith, Bool, true, false, min, max, if◌then◌else◌, ◌&&◌, nat_lt, Option, Some, None}
use Rattle.std.{proofs.lemmas.{Bool.{cases_lt, lt-ltb, le-ltb}, List.{append-nil, Sums.{sum_by-append}, Elements.{All-nil, All-push}}}, specs.Prelude.{count_by}}
use Rattle.area_layout.specs.Layout.{pool_buffers, judged}
use Rattle.zr_kinds.specs.declared.{outcome.PoolStats.{PoolStats}, ring.Rqe.{Rqe}}
use Rattle.board_face.specs.{Looks.{NicLooksStay, same_nic_look}, NicEvents.{gave_up, honoured, passed_over, cache_room, holder_look, looks_by_stray}}
use Rattle.board_face.specs.declared.views.nic.{Dealt.{Dealt}, Fate.TheVariants.{Honoured, Stray}, NicLook.{NicLook, TheVariants.{Owed, NotOwed, LastHolder}}}
use Rattle.board_face.{specs.declared.views.nic.NicView.{NicView}, proofs.LookLemmas.{NicLooksStay-same, NicLooksStay-trans, times-more}}
use Rattle.page_pool.specs.{Dealing.{DealsWith, CachesFreed, is_freed, freed_in, CountsStrays, strays_in, IsRaised}, Gathering.{DealsRing}}

pub CountsStrays-none : (stats : PoolStats) → CountsStrays stats stats []
CountsStrays-none stats = record { strays = inl (omega arith); others = refl }

-- ---- buffers that came to be free

pub CachesFreed-none : (v w : NicView) → freed_in w ≡ freed_in v → length w.cache ≡ length v.cache → CachesFreed 0 v w
CachesFreed-none v w seen cached = record { seen = omega (arith, seen); cached = omega (arith, cached) }

pub CachesFreed-trans : (m n : ℕ) (old v w : NicView) → CachesFreed m old v → CachesFreed n v w → CachesFreed (m + n) old w
CachesFreed-trans m n old v w first second = record {
  seen = omega (arith, first.seen, second.seen);
  cached = omega (arith, first.cached, second.cached);
}

pub DealsWith-none : (v : NicView) → DealsWith [] v v
DealsWith-none v = record {
  freed = [];
  count = 0;
  caches = CachesFreed-none v v refl refl;
  view = rw (append-nil, append-nil) refl;
  looks = NicLooksStay-same v v refl;
}

pub DealsRing-none : (stats : PoolStats) (v : NicView) (app : ℕ) → DealsRing stats stats v v app 0
DealsRing-none stats v app = record {
  more = [];
  deals = DealsWith-none v;
  of_app = All-nil (λ d. d.app ≡ app);
  many = refl;
  strays = CountsStrays-none stats;
}

-- one entry more, by which buffers may have come to be free
pub DealsWith-one : (old v w : NicView) (more : List Dealt) (d : Dealt) (freed : List ℕ) (count : ℕ) → DealsWith more old v
    → CachesFreed count v w → w ≡ record v { cache = v.cache ++ freed; dealt = v.dealt ++ d ∷ []; looks = w.looks } → NicLooksStay v w
    → DealsWith (more ++ d ∷ []) old w
DealsWith-one old v w more d freed count deals caches event looks = record {
  freed = deals.freed ++ freed;
  count = deals.count + count;
  caches = CachesFreed-trans deals.count count old v w deals.caches caches;
  view = rw event (rw deals.view (simp append_assoc refl));
  looks = NicLooksStay-trans old v w deals.looks looks;
}

pub DealsRing-one : (was now next : PoolStats) (old v w : NicView) (app count : ℕ) (d : Dealt) (freed : List ℕ) (came : ℕ)
    → DealsRing was now old v app count → CachesFreed came v w → w ≡ record v { cache = v.cache ++ freed; dealt = v.dealt ++ d ∷ []; looks = w.looks }
    → NicLooksStay v w → d.app ≡ app
    → ((m : List Dealt) → CountsStrays was now m → CountsStrays was next (m ++ d ∷ [])) → DealsRing was next old w app (count + 1)
DealsRing-one was now next old v w app count d freed came deals caches event looks mine counts = record {
  more = deals.more ++ d ∷ [];
  deals = DealsWith-one old v w deals.more d freed came deals.deals caches event looks;
  of_app = All-push (λ e. e.app ≡ app) deals.more d deals.of_app mine;
  many = simp length-append (omega (arith, deals.many));
  strays = counts deals.more deals.strays;
}

-- an entry that was honoured is no stray
pub CountsStrays-honoured : (was now : PoolStats) (d : Dealt) (b : ℕ) → d.fate ≡ Honoured b → (m : List Dealt) → CountsStrays was now m
    → CountsStrays was now (m ++ d ∷ [])
CountsStrays-honoured was now d b fate m counts =
    let same : strays_in (m ++ d ∷ []) ≡ strays_in m = simp (sum_by-append, fate) (omega arith) in
    record { strays = rw same counts.strays; others = counts.others }

raised_once : (was more now next : ℕ) → IsRaised was more now → next ≡ min (now + 1) (2 ^ 64 - 1) → IsRaised was (more + 1) next
raised_once was more now next (inl same) raised = grind arith
raised_once was more now next (inr full) raised = inr (omega (arith, full.0), omega (arith, full.1))

pub CountsStrays-stray : (was now next : PoolStats) (d : Dealt) → d.fate ≡ Stray → next ≡ record now { strays = min (now.strays + 1) (2 ^ 64 - 1) }
    → (m : List Dealt) → CountsStrays was now m → CountsStrays was next (m ++ d ∷ [])
CountsStrays-stray was now next d fate raised m counts =
    let more : strays_in (m ++ d ∷ []) ≡ strays_in m + 1 = simp (sum_by-append, fate) (omega arith) in
    record { strays = rw (more, raised) (raised_once was.strays (strays_in m) now.strays _ counts.strays refl); others = rw (raised, counts.others) refl }

-- ---- the cache only grows as references are given up

abbrev pub freed_by : NicView → ℕ → Bool → List ℕ
freed_by v b last = if last && nat_lt b (pool_buffers v.setting.layout) then (if nat_lt (length v.cache) cache_room then b ∷ [] else []) else []

pub grown : (t s : Bool) (xs : List ℕ) (b : ℕ) → (if t then (if s then xs ++ b ∷ [] else xs) else xs)
    ≡ xs ++ (if t then (if s then b ∷ [] else []) else [])
grown true true xs b = refl
grown true false xs b = sym (append-nil xs)
grown false s xs b = sym (append-nil xs)

few_freed : (t s : Bool) (b : ℕ) → length (if t then (if s then b ∷ [] else []) else []) ≤ 1
few_freed true true b = omega arith
few_freed true false b = omega arith
few_freed false s b = omega arith

gave_up-event : (v : NicView) (d : Dealt) (looks : List NicLook) (b : ℕ) (last : Bool)
    → gave_up (record v { dealt = v.dealt ++ d ∷ []; looks = looks }) b last
    ≡ record v { cache = v.cache ++ freed_by v b last; dealt = v.dealt ++ d ∷ []; looks = holder_look last b ∷ looks }
gave_up-event v d looks b last = rw (grown (last && nat_lt b (pool_buffers v.setting.layout)) (nat_lt (length v.cache) cache_room) v.cache b) refl

-- an entry frees one buffer at most
pub honoured-most : (v w : NicView) (app : ℕ) (entry : Rqe) (b : ℕ) (last : Bool) → w ≡ gave_up (honoured v app entry b) b last
    → length w.cache ≤ length v.cache + 1
honoured-most v w app entry b last event =
    let is : w ≡ record v {
      cache = v.cache ++ freed_by v b last;
      dealt = v.dealt ++ record { app = app; entry = entry; fate = Honoured b } ∷ [];
      looks = holder_look last b ∷ Owed app b ∷ v.looks;
    } =
    event ∙ gave_up-event v (record { app = app; entry = entry; fate = Honoured b }) (Owed app b ∷ v.looks) b last in
    rw is (simp length-append (omega (arith, few_freed (last && nat_lt b (pool_buffers v.setting.layout)) (nat_lt (length v.cache) cache_room) b)))

-- a stray frees none
pub stray-most : (v w : NicView) (app : ℕ) (entry : Rqe) → w ≡ passed_over v app entry → length w.cache ≤ length v.cache + 1
stray-most v w app entry event = rw event (omega arith)

-- how many pool buffers came to be free as a reference was given up
abbrev came_free : NicView → ℕ → Bool → ℕ
came_free v b last = if last && nat_lt b (pool_buffers v.setting.layout) then 1 else 0

one_seen : (t : Bool) (n : ℕ) → (0 + cond t 1 0 + 0) + n ≡ n + (if t then 1 else 0)
one_seen true n = omega arith
one_seen false n = omega arith

freed_seen : (pool b : ℕ) (last : Bool) (app : ℕ) (looks : List NicLook)
    → count_by (is_freed pool) (holder_look last b ∷ Owed app b ∷ looks) ≡ count_by (is_freed pool) looks + (if last && nat_lt b pool then 1 else 0)
freed_seen pool b true app looks =
    sum_by-append (λ look. cond (is_freed pool look) 1 0) (LastHolder b ∷ Owed app b ∷ []) looks
    ∙ one_seen (nat_lt b pool) (count_by (is_freed pool) looks)
freed_seen pool b false app looks = omega arith

freed_cached : (t : Bool) (cache : List ℕ) (b : ℕ)
    → length (cache ++ (if t then (if nat_lt (length cache) cache_room then b ∷ [] else []) else []))
    ≡ max (length cache) (min cache_room (length cache + (if t then 1 else 0)))
freed_cached true cache b = ⊎_elim
    (λ room. rw (lt-ltb (length cache) cache_room room) (omega (arith, length-append cache (b ∷ []), room)))
    (λ full. rw (le-ltb (length cache) cache_room full, append-nil) (omega (arith, full)))
    (cases_lt (length cache) cache_room)
freed_cached false cache b = rw append-nil (omega arith)

honoured-caches : (v w : NicView) (d : Dealt) (app b : ℕ) (last : Bool)
    → w ≡ record v { cache = v.cache ++ freed_by v b last; dealt = v.dealt ++ d ∷ []; looks = holder_look last b ∷ Owed app b ∷ v.looks }
    → CachesFreed (came_free v b last) v w
honoured-caches v w d app b last is = rw is record {
  seen = freed_seen (pool_buffers v.setting.layout) b last app v.looks;
  cached = freed_cached (last && nat_lt b (pool_buffers v.setting.layout)) v.cache b;
}

two_looks : (v w : NicView) (x y : NicLook) → w.looks ≡ x ∷ y ∷ v.looks → NicLooksStay v w
two_looks v w x y looks = record {
  later = λ look. rw looks
      (omega (arith, times-more same_nic_look look y v.looks, times-more same_nic_look look x (y ∷ v.looks)));
}

pub DealsRing-honoured : (was now : PoolStats) (old v w : NicView) (app count : ℕ) (entry : Rqe) (b : ℕ) (last : Bool)
    → w ≡ gave_up (honoured v app entry b) b last → DealsRing was now old v app count → DealsRing was now old w app (count + 1)
DealsRing-honoured was now old v w app count entry b last event deals =
    let d : Dealt = record { app = app; entry = entry; fate = Honoured b } in
    let is : w ≡ record v { cache = v.cache ++ freed_by v b last; dealt = v.dealt ++ d ∷ []; looks = holder_look last b ∷ Owed app b ∷ v.looks } = event
    ∙ gave_up-event v d (Owed app b ∷ v.looks) b last in
    DealsRing-one was now now old v w app count d (freed_by v b last) (came_free v b last) deals (honoured-caches v w d app b last is) (rw is refl)
    (two_looks v w (holder_look last b) (Owed app b) (rw is refl)) refl
    (CountsStrays-honoured was now d b refl)

stray_looks : (named : Option ℕ) (app : ℕ) (v w : NicView) → w.looks ≡ looks_by_stray named app v.looks → NicLooksStay v w
stray_looks None app v w looks = NicLooksStay-same v w looks
stray_looks (Some b) app v w looks = record { later = λ look. rw looks (times-more same_nic_look look (NotOwed app b) v.looks) }

stray_unseen : (named : Option ℕ) (app : ℕ) (v w : NicView) → w.looks ≡ looks_by_stray named app v.looks → w.setting ≡ v.setting
    → freed_in w ≡ freed_in v
stray_unseen None app v w looks same = rw (looks, same) refl
stray_unseen (Some b) app v w looks same = rw (looks, same) (omega arith)

pub DealsRing-stray : (was now next : PoolStats) (old v w : NicView) (app count : ℕ) (entry : Rqe) → w ≡ passed_over v app entry
    → next ≡ record now { strays = min (now.strays + 1) (2 ^ 64 - 1) } → DealsRing was now old v app count → DealsRing was next old w app (count + 1)
DealsRing-stray was now next old v w app count entry event raised deals =
    let d : Dealt = record { app = app; entry = entry; fate = Stray } in
    DealsRing-one was now next old v w app count d [] 0 deals
    (CachesFreed-none v w (stray_unseen (judged v.setting.layout entry) app v w (rw event refl) (rw event refl)) (rw event refl)) (rw (event, append-nil) refl)
    (stray_looks (judged v.setting.layout entry) app v w (rw event refl)) refl (CountsStrays-stray was now next d refl raised)
