-- What is done with refill entries.
use Rattle.std.specs.Prelude.{◌≡◌, ℕ, ◌+◌, ◌-◌, ◌^◌, ◌<◌, ◌≤◌, ◌⊎◌, ◌==◌, nat_lt, min, max, Bool, true, false, List, ◌++◌, length, count_by, All, AllPairs}
use Rattle.zr_kinds.specs.declared.outcome.PoolStats.{PoolStats}
use Rattle.board_face.specs.{Looks.{NicRose, NicLooksStay}, NicEvents.{cache_room}, NicCalls.{apps_of}, declared.views.nic.Fate.{Fate, TheVariants.{Honoured, Stray}}}
use Rattle.board_face.specs.declared.views.nic.{Dealt.{Dealt}, NicLook.{NicLook, TheVariants.{RingEmpty, LastHolder}}, NicView.{NicView}}
use Rattle.area_layout.specs.Layout.{pool_buffers}

-- A count rose by so many. It stays at 2^64 - 1 once it is there.
abbrev pub IsRaised : ℕ → ℕ → ℕ → Type 0
IsRaised was more now = (now ≡ was + more) ⊎ ((2 ^ 64 - 1 ≤ now) × (2 ^ 64 - 1 ≤ was + more))

abbrev pub is_stray : Fate → Bool
is_stray Stray = true
is_stray (Honoured buffer) = false

-- how many of these entries were strays
abbrev pub strays_in : List Dealt → ℕ
strays_in dealt = count_by (λ d. is_stray d.fate) dealt

-- how many of these entries are of an application
abbrev pub entries_of : ℕ → List Dealt → ℕ
entries_of a dealt = count_by (λ d. d.app == a) dealt

-- a look that saw a pool buffer come to be free
abbrev pub is_freed : ℕ → NicLook → Bool
is_freed pool (LastHolder buffer) = nat_lt buffer pool
is_freed pool look = false

-- how often a pool buffer was seen to come to be free
abbrev pub freed_in : NicView → ℕ
freed_in v = count_by (is_freed (pool_buffers v.setting.layout)) v.looks

-- So many pool buffers came to be free, as was seen of each, and as many of them are cached as there was room for.
pub record CachesFreed (count : ℕ) (old new : NicView) : Type 0 where
  pub seen : freed_in new ≡ freed_in old + count
  pub cached : length new.cache ≡ max (length old.cache) (min cache_room (length old.cache + count))

-- These entries were dealt with, and else nothing happened but looks: buffers that came to be free by them were cached.
pub record DealsWith (more : List Dealt) (old new : NicView) : Type 0 where
  pub freed : List ℕ
  pub count : ℕ
  pub caches : CachesFreed count old new
  pub view : new ≡ record old { cache = old.cache ++ freed; dealt = old.dealt ++ more; looks = new.looks }
  pub looks : NicLooksStay old new

-- The strays among these entries were counted, and no other count changed.
pub record CountsStrays (was now : PoolStats) (more : List Dealt) : Type 0 where
  pub strays : IsRaised was.strays (strays_in more) now.strays
  pub others : now ≡ record was { strays = now.strays }

-- Entries of the first `apps` applications, one application after another, of each at most `places`.
pub record AreInTurn (more : List Dealt) (places apps : ℕ) : Type 0 where
  pub apps_of : All (λ d. d.app < apps) more
  pub order : AllPairs (λ d e. d.app ≤ e.app) more
  pub within : (a : ℕ) → entries_of a more ≤ places

-- The ring of an application was seen empty, or it gave as many entries as it has places.
abbrev pub IsRingDone : List Dealt → NicView → NicView → ℕ → Type 0
IsRingDone more old new a = NicRose (RingEmpty a) old new ⊎ (old.setting.places ≤ entries_of a more)

-- From the rings of the first `apps` applications, one after another, up to as many entries were dealt with as each has
-- places, until it was seen empty: `count` in all.
pub record DrainsFirst (was now : PoolStats) (old new : NicView) (count apps : ℕ) : Type 0 where
  pub more : List Dealt
  pub deals : DealsWith more old new
  pub many : length more ≡ count
  pub turns : AreInTurn more old.setting.places apps
  pub strays : CountsStrays was now more
  pub rings : (a : ℕ) → a < apps → IsRingDone more old new a

-- Each ring was drained, and `count` entries were dealt with.
abbrev pub DrainsRings : PoolStats → PoolStats → NicView → NicView → ℕ → Type 0
DrainsRings was now old new count = DrainsFirst was now old new count (apps_of old.setting)
