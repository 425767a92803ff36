-- What is read where a loan in the reserve was posted.
use Rattle.std.specs.Prelude.{◌≡◌, ℕ, ◌+◌, ◌<◌, ◌≤◌, ◌⊎◌, true, false, length}
use Rattle.board_face.specs.declared.views.app.AppView.{AppView}
use Rattle.app_worker.specs.{State.{State}, Moves.{reads_of, reserve_loans}}

-- how many loans there were so far
abbrev pub loans_so_far : AppView → ℕ
loans_so_far v = length v.loans + length v.returned

-- Where all that was unread was to be read, or a loan in the reserve was posted, each loan that there was before was read, once
-- no more is to be read. Nothing is said of those that were reaped behind the one in the reserve.
pub record FlushesUnread (was now : State) (old new : AppView) : Type 0 where
  pub reads : reads_of was old ≤ reads_of now new
  pub lent : loans_so_far old ≤ loans_so_far new
  pub reserve : reserve_loans old ≤ reserve_loans new
  pub all : now.flush ≡ false → (was.flush ≡ true) ⊎ (reserve_loans old < reserve_loans new) → loans_so_far old ≤ reads_of now new
