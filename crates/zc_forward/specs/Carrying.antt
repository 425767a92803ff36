-- What is seen of a carrier, what a call leaves that hands the bytes of a loan to it, and what it leaves once it let go.
use Rattle.std.specs.{Prelude.{◌≡◌, ◌≢◌, ◌<◌, ◌≤◌, ℕ, List, [], Option, length}, Io.KnownBytes.{Keeps}}
use Rattle.zr_io.specs.Moved.{Gained, Rose, ShelfCounts, raised_by}
use Rattle.board_face.specs.declared.views.app.AppView.{AppView}
use Rattle.flow_queues.specs.{declared.queues.Lending.{Lending}, Core.{IsIn, IsReadOf, OnlyReads, lent_piece}}
use Rattle.zc_forward.specs.{declared.sent.Sent.{Sent}, Tags.{FlowsKeep, Pace, PaceGoes, Tags}}

-- what is seen of a carrier: what each flow got, the tags that are out, what its calls did, and its pace
pub record Carrying : Type 0 where
  pub got : ℕ → Option (List ℕ)
  pub tags : Tags
  pub counts : ShelfCounts
  pub pace : Pace

abbrev pub carrying : {C : Type 0} → (C → ℕ → Option (List ℕ)) → (C → Tags) → (C → ShelfCounts) → (C → Pace) → C → Carrying
carrying got tags counts pace carrier = record { got = got carrier; tags = tags carrier; counts = counts carrier; pace = pace carrier }

-- So many of the bytes of a loan were read and carried; fewer than all say that the carrier failed.
pub record Carries (old new : AppView) (was now : Carrying) (sent : Sent) (count : ℕ) : Type 0 where
  pub only : OnlyReads old new
  pub counted : count ≤ sent.loan.len
  pub gained : (lending : Lending) → lending.loan ≡ sent.loan → lending.note < length old.taken → IsIn (lent_piece old.taken lending) old.loans
      → Gained (was.got sent.flow) (now.got sent.flow) (λ (read : List ℕ). IsReadOf old.taken new.reads lending count sent.loan.len read)
  pub others : (other : ℕ) → other ≢ sent.flow → Keeps (was.got other) (now.got other)
  pub later : was.counts.faults ≤ now.counts.faults
  pub still : count ≡ sent.loan.len → now.counts.faults ≡ was.counts.faults
  pub cause : count < sent.loan.len → Rose was.counts.faults now.counts.faults
  pub appended : now.counts.appended ≡ raised_by was.counts.appended count
  pub pace : now.pace ≡ was.pace

-- Nothing was carried, and no call failed; it may have looked in vain once more.
pub record OnlyLooks (was now : Carrying) : Type 0 where
  pub got : FlowsKeep was.got now.got
  pub counts : now.counts ≡ was.counts
  pub pace : PaceGoes was.pace now.pace

-- The carrier let go: none of its tags is out, and nothing else changed that is seen of it.
pub record Cancels (was now : Carrying) : Type 0 where
  pub tags : now.tags ≡ []
  pub got : FlowsKeep was.got now.got
  pub counts : now.counts ≡ was.counts
  pub pace : now.pace ≡ was.pace
