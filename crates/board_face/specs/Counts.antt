-- Counts are holders: nothing keeps a count in these definitions. (page_pool's `pp_ref_count`, and the user references of
-- iou-zcrx, of which each carries one of the pool.)
use Rattle.std.specs.Prelude.{ℕ, ◌≤◌, Bool, false, List, length, ◌==◌, count_by}
use Rattle.board_face.specs.declared.views.{nic.NicSide.{NicSide}, app.AppSide.{AppSide}}
use Rattle.board_face.specs.Holders.{Kind, own, piece, sent, held, spare, loan, owed, returning, holders_of, returned_in, ended_in, returning_count}

-- how many holders a buffer has
abbrev pub pool_count : ℕ → NicSide → List AppSide → ℕ
pool_count b nic apps = length (holders_of b nic apps)

-- a loan of this application, or a loan that it gave back or abandoned and still owes
abbrev pub is_user_kind : ℕ → Kind → Bool
is_user_kind a own = false
is_user_kind a (piece p) = false
is_user_kind a (sent app p) = false
is_user_kind a (held app p) = false
is_user_kind a (spare app) = false
is_user_kind a (loan app p) = app == a
is_user_kind a (owed app p) = app == a
is_user_kind a (returning app p) = false

-- how many holders of a buffer are loans of an application, or owed by it
abbrev pub user_count : ℕ → ℕ → NicSide → List AppSide → ℕ
user_count a b nic apps = count_by (is_user_kind a) (holders_of b nic apps)

-- Of the loans of a buffer that an application gave back or abandoned, no more were honoured or scrubbed than there are:
-- it never owes less than nothing.
pub record EndedWereReturned (b : ℕ) (nic : NicSide) (app : AppSide) : Type 0 where
  pub ended : ended_in b nic app ≤ length (returned_in b app)
  pub returning : returning_count b nic app ≤ ended_in b nic app
