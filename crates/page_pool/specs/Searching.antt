-- The search for fresh buffers: in the cache, then in the refill rings, then on the free list.
use Rattle.std.specs.{Prelude.{◌≡◌, ℕ, ◌+◌, ◌<◌, ◌≤◌, ◌⊎◌, List, ◌++◌, length}, List.{range_with_len}}
use Rattle.zr_kinds.specs.declared.outcome.PoolStats.{PoolStats}
use Rattle.board_face.specs.{Looks.{NicRose, NicLooksStay}, NicCalls.{apps_of, free_words_of, HasSweptAll, sent_unsplit_bytes}, declared.views.nic.Dealt.{Dealt}}
use Rattle.board_face.specs.declared.views.nic.{NicLook.TheVariants.{Swept}, NicView.{NicView}}
use Rattle.area_layout.specs.Layout.{pool_buffers}
use Rattle.page_pool.specs.{Dealing.{IsRaised, freed_in, AreInTurn, IsRingDone, CountsStrays}, Pool.{PoolState}}
use Rattle.page_pool.specs.declared.search_end.SearchEnd.{SearchEnd, TheVariants.{Fast, Refill, Slow, Empty}}

-- A search that looks beyond the cache goes on until so many buffers are cached.
abbrev pub enough : ℕ
enough = 64

-- Two searches for one frame, one after the other, are one: it ended where the farther of them did, the free list being behind the
-- refill rings and these behind the cache; and nowhere where the later of them found too few.
abbrev pub joint_end : SearchEnd → SearchEnd → SearchEnd
joint_end before Empty = Empty
joint_end Fast later = later
joint_end Refill Fast = Refill
joint_end Refill later = later
joint_end Slow later = Slow
joint_end Empty later = Slow

-- The search's end was counted once, and no other count changed.
abbrev pub CountsEnd : SearchEnd → PoolStats → PoolStats → Type 0
CountsEnd Fast was now = IsRaised was.fast 1 now.fast × (now ≡ record was { fast = now.fast })
CountsEnd Refill was now = IsRaised was.refill 1 now.refill × (now ≡ record was { refill = now.refill })
CountsEnd Slow was now = IsRaised was.slow 1 now.slow × (now ≡ record was { slow = now.slow })
CountsEnd Empty was now = IsRaised was.empty 1 now.empty × (now ≡ record was { empty = now.empty })

-- Each ring was seen empty, or it gave as many entries as it has places.
abbrev pub AreRingsDone : List Dealt → NicView → NicView → Type 0
AreRingsDone more old new = (a : ℕ) → a < apps_of old.setting → IsRingDone more old new a

-- Each free word was swept.
abbrev pub AreSwept : NicView → NicView → Type 0
AreSwept old new = (word : ℕ) → word < free_words_of old.setting → NicRose (Swept word) old new

-- Each word of the free list was swept. So all buffers of the pool are told of: those that are cached, those that the card has
-- taken, each as often as it did, and those that may be spares, one for each byte of an unsplit note.
pub record AreToldOf (v : NicView) : Type 0 where
  pub swept : HasSweptAll v
  pub all : pool_buffers v.setting.layout ≤ length v.cache + length v.used + sent_unsplit_bytes v

-- What a search for `need` buffers did from this view on, by where it ended: the entries that it dealt with, how many pool
-- buffers came to be free by them, and how many words it swept.
abbrev pub EndsBy : SearchEnd → ℕ → NicView → NicView → List Dealt → ℕ → ℕ → Type 0
EndsBy Fast need begin end more freed words = (need ≤ length begin.cache) × (end ≡ begin)
EndsBy Refill need begin end more freed words =
    (length begin.cache < need) × (need ≤ length end.cache) × (words ≡ 0) × (length end.cache ≡ length begin.cache + freed)
    × (length end.cache ≤ enough) × ((enough ≤ length end.cache) ⊎ AreRingsDone more begin end)
EndsBy Slow need begin end more freed words =
    (length begin.cache + freed < need) × (need ≤ length end.cache) × (0 < words) × AreRingsDone more begin end
    × ((enough ≤ length end.cache) ⊎ AreSwept begin end)
EndsBy Empty need begin end more freed words =
    (length end.cache < need) × (0 < words) × AreRingsDone more begin end × AreSwept begin end × AreToldOf end

-- A search for `need` buffers, from this view to that one: entries were dealt with, application by application from 0, of
-- each ring as many as it has places at most, and words of the free list were swept, from 0. Else nothing happened but
-- looks. Of the pool's counts that of the strays alone may have changed.
pub record Searches (need : ℕ) (was now : PoolStats) (begin end : NicView) (result : SearchEnd) : Type 0 where
  pub more : List Dealt
  pub freed : ℕ
  pub words : ℕ
  pub view : end ≡ record begin { cache = end.cache; swept = begin.swept ++ range_with_len 0 words; dealt = begin.dealt ++ more; looks = end.looks }
  pub turns : AreInTurn more begin.setting.places (apps_of begin.setting)
  pub swept : (word : ℕ) → word < words → NicRose (Swept word) begin end
  pub looks : NicLooksStay begin end
  pub seen : freed_in end ≡ freed_in begin + freed
  pub ends : EndsBy result need begin end more freed words
  pub strays : CountsStrays was now more

-- It searched for the frame that is offered next: with what was searched for that frame before it is one search, which isn't counted
-- yet.
pub record LooksAhead (need : ℕ) (was now : PoolState) (begin end : NicView) : Type 0 where
  pub result : SearchEnd
  pub searches : Searches need was.stats now.stats begin end result
  pub pool : now ≡ record was { stats = now.stats; ahead = joint_end was.ahead result }
