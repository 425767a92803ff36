-- The end of a board: nobody has anything.
use Rattle.std.specs.Prelude.{◌≡◌, ℕ, true, List, ◌++◌, length, All}
use Rattle.area_layout.specs.Layout.{pool_buffers}
use Rattle.board_face.specs.Counts.{pool_count, user_count}
pub use Rattle.board_face.specs.Ended.{IsEachOnce, IsServed}
use Rattle.board_parts.specs.Free.{listed_below}
use Rattle.plain_board.specs.{Stand.{Arrays, Stand}, Sound.{IsSound}}

-- the card ended, and every application left
pub record IsBoardOver (board : Stand) : Type 0 where
  pub card : board.nic.view.ended ≡ true
  pub apps : All (λ app. app.view.left ≡ true) board.apps

-- the free buffers: those of the cache in its order, then the listed ones from the lowest
abbrev pub free_buffers_of : Arrays → List ℕ
free_buffers_of arrays = arrays.cache ++ listed_below arrays.listed (length arrays.listed)

-- All counts are 0, and no buffer has a holder.
pub record HasNoCounts (board : Stand) : Type 0 where
  pub pool : All (λ n. n ≡ 0) board.arrays.pool
  pub users : All (λ n. n ≡ 0) board.arrays.users
  pub holders : (b : ℕ) → pool_count b board.nic board.apps ≡ 0
  pub owed : (a b : ℕ) → user_count a b board.nic board.apps ≡ 0

-- What `finish` says of a board, which also holds of one that stays: each pool buffer is free once, nobody has a buffer, and
-- every application was served.
pub record HasEndedWell (board : Stand) : Type 0 where
  pub once : IsEachOnce (pool_buffers board.arrays.layout) (free_buffers_of board.arrays)
  pub counts : HasNoCounts board
  pub served : All (IsServed board.nic) board.apps

abbrev pub BoardsEndWell : Type 0
BoardsEndWell = (board : Stand) → IsSound board → IsBoardOver board → HasEndedWell board
