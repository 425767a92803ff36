-- What stands between two steps of a play, at a board for one thread.
use Rattle.std.specs.Prelude.{◌≡◌, ◌<◌, ℕ, Bool, false}
use Rattle.board_face.specs.{AppCalls.{IsHere, CanLend}, NicCalls.{IsOpen, HasNoToken}, declared.views.app.AppView.{AppView}}
use Rattle.face_table.specs.Reader.{HasNothing}
use Rattle.page_pool.specs.Pool.{PoolState, PoolStands}
use Rattle.plain_board.specs.Board.{Board, side_of}

-- The card keeps its tokens in a pool, and has ended or not. The first application is there, may lend, and has nothing out.
pub record IsOffering (pool : PoolState) (ended : Bool) (board : Board) : Type 0 where
  pub few : 0 < board.arrays.layout.reserves
  pub stands : PoolStands pool board.nic.view
  pub going : board.nic.view.ended ≡ ended
  pub here : IsHere (side_of board 0).view
  pub can : CanLend (side_of board 0).view
  pub nothing : HasNothing (side_of board 0).view

-- An application is there, has nothing out, and hasn't scrubbed.
pub record IsIdleApp (v : AppView) : Type 0 where
  pub nothing : HasNothing v
  pub here : IsHere v
  pub counted : v.scrubbed ≡ false

-- No role has a token out.
pub record IsIdleBoard (board : Board) : Type 0 where
  pub card : HasNoToken board.nic.view
  pub going : IsOpen board.nic.view
  pub idle : (a : ℕ) → IsIdleApp (side_of board a).view
