-- What an application that has left did with its loans: which it gave back by entries, which it kept to the end, and what followed
-- each entry.
use Rattle.std.specs.Prelude.{◌≡◌, ◌≤◌, ◌+◌, ℕ, min, length, take, drop}
use Rattle.zr_kinds.specs.declared.{behaviour.{Behaviour.{Behaviour}, Stopped.{Stopped, TheVariants.{No}}}, ring.Rqe.{Rqe}}
use Rattle.board_face.specs.{AppEvents.{reserve_of}, declared.views.app.AppView.{AppView}}
use Rattle.flow_queues.specs.{Core.{total}, Entries.{AreBlocks, GivesAll, WasLive, lies_in, returned_aside}, Totals.{capped, lent_len, loan_entries}}

-- the loans that no entry gave back: as many as are to be kept to the end, or all outside the reserve where these are fewer, and
-- none in the reserve
pub record AreKeptBack (leak : ℕ) (v : AppView) : Type 0 where
  pub many : length v.returned ≡ loan_entries v + min leak (returned_aside v)
  pub aside : total (lies_in (reserve_of v)) (drop (loan_entries v) v.returned) ≡ 0

pub record HasReturned (how : Behaviour) (stopped : Stopped) (written : ℕ) (v : AppView) : Type 0 where
  -- The first loans were given back by entries of their own, in order, and then the others without one. As many bytes as the first
  -- had were written, at least.
  pub given : GivesAll v (take (loan_entries v) v.returned)
  pub whole : capped (total lent_len (take (loan_entries v) v.returned)) ≤ written
  pub kept_back : stopped ≡ No → AreKeptBack how.leak v
  -- Each entry of a loan is followed by so many more, each the same as it; one of them is left out only where a loan in its buffer
  -- went later.
  pub last : Rqe
  pub follow : AreBlocks how.stray (WasLive v) v.written last 0
