-- What the pool's counts say of the frames that were offered and of the entries that were dealt with.
use Rattle.std.specs.Prelude.{◌≡◌, ℕ, ◌+◌, ◌-◌, ◌^◌, ◌<◌, ◌≤◌, ◌⊎◌, ◌==◌, ◌&&◌, nat_lt, Bool, List, length, count_by, Option, option_to_list, IfSome}
use Rattle.zr_kinds.specs.declared.outcome.PoolStats.{PoolStats}
pub use Rattle.zr_kinds.specs.Counting.{capped}
use Rattle.board_face.specs.declared.views.nic.{Dealt.{Dealt}, NicView.{NicView}, SentNote.{SentNote}}
use Rattle.page_pool.specs.{Dealing.{strays_in}, Frames.{Offered}, Pool.{PoolState}, declared.search_end.SearchEnd.{SearchEnd, TheVariants.{Fast, Refill, Slow, Empty}}}

-- the payload is longer than `split`
abbrev pub is_long : ℕ → Offered → Bool
is_long split o = nat_lt split (length o.payload)

-- how many of these frames have such a payload
abbrev pub long_in : ℕ → List Offered → ℕ
long_in split offers = count_by (is_long split) offers

-- how many searches for fresh buffers were counted
abbrev pub searches_in : PoolStats → ℕ
searches_in stats = stats.fast + stats.refill + stats.slow + stats.empty

-- each count fits its type
pub record AreInType (stats : PoolStats) : Type 0 where
  pub fast : stats.fast ≤ 2 ^ 64 - 1
  pub refill : stats.refill ≤ 2 ^ 64 - 1
  pub slow : stats.slow ≤ 2 ^ 64 - 1
  pub empty : stats.empty ≤ 2 ^ 64 - 1
  pub strays : stats.strays ≤ 2 ^ 64 - 1

-- No more searches were counted than one for each frame with a payload longer than `split`, but for the one at hand. Those
-- that found too few are the refused frames, and the strays are those among the entries.
pub record AreOffersCounted (split : ℕ) (offers : List Offered) (refused : List ℕ) (hand : Option Offered) (dealt : List Dealt) (stats : PoolStats) :
    Type 0 where
  pub searches : searches_in stats + long_in split (option_to_list hand) ≤ long_in split offers
  pub empty : stats.empty ≡ capped (length refused)
  pub strays : stats.strays ≡ capped (strays_in dealt)

-- ---- searches that found enough

abbrev pub found_in : PoolStats → ℕ
found_in stats = stats.fast + stats.refill + stats.slow

-- the note tells of a frame's first bytes, and these lie at the begin of a buffer: the frame was placed in fresh ones
abbrev pub begins_fresh : SentNote → Bool
begins_fresh s = s.note.split && (s.note.at == 0) && (s.note.place.offset == 0)

-- One search found enough for each frame that was placed in fresh buffers, and none for another, up to where a count stays at
-- the end of its type. Some bytes of the current buffer are used, so what is placed there doesn't lie at its begin.
pub record AreFound (notes : List SentNote) (pool : PoolState) : Type 0 where
  pub found : (found_in pool.stats ≡ count_by begins_fresh notes) ⊎ (2 ^ 64 - 1 ≤ found_in pool.stats)
  pub used : IfSome pool.current (λ own. 0 < own.start)

-- ---- sweeps of the free list

abbrev pub is_first_word : ℕ → Bool
is_first_word word = word == 0

-- how often the card swept the free list: its first word, with which each sweep begins
abbrev pub sweeps_in : NicView → ℕ
sweeps_in v = count_by is_first_word v.swept

-- how many searches were counted that swept the free list: those that ended there, and those that found too few
abbrev pub sweeping_in : PoolStats → ℕ
sweeping_in stats = stats.slow + stats.empty

-- how often a search sweeps the free list that ends so
abbrev pub sweeps_of : SearchEnd → ℕ
sweeps_of Fast = 0
sweeps_of Refill = 0
sweeps_of Slow = 1
sweeps_of Empty = 1

-- Each search that is counted as one that swept the free list swept it, and so did the one that was made ahead and isn't counted yet,
-- if it ended there: no more of them than sweeps. There are more sweeps where several searches were made for one frame, or one for a
-- frame that needed none.
abbrev pub HaveSwept : PoolState → NicView → Type 0
HaveSwept pool v = sweeping_in pool.stats + sweeps_of pool.ahead ≤ sweeps_in v

-- Nothing was searched ahead, so each sweep was made by a search that is counted as one that swept, up to where a count stays at the
-- end of its type.
pub record AreAllSwept (pool : PoolState) (v : NicView) : Type 0 where
  pub ahead : pool.ahead ≡ Fast
  pub sweeps : (sweeping_in pool.stats ≡ sweeps_in v) ⊎ (2 ^ 64 - 1 ≤ sweeping_in pool.stats)
