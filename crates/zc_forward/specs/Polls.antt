-- What forwarding tells at its end, whatever polls are pending between.
use Rattle.std.specs.Prelude.{◌≡◌, ℕ, true, List, Option}
use Rattle.zr_io.specs.Moved.{ShelfCounts}
use Rattle.board_face.specs.declared.views.app.AppView.{AppView}
use Rattle.zc_poll.specs.{Standing.{Desk}, declared.to_shelf.{Poured.{Poured}, PollTurn.TheVariants.{Ended}}}
use Rattle.zc_forward.specs.{Tags.{Tags}, Sending.{OutboxState}, Forwarding.{ForwardStands}, Turns.{ForwardGives, Stage, TurnDoes}}

-- It is what a last turn gives and does, which left at this view. The carrier got `got` by then, and its counts are these.
pub record IsLastTurn (first : ℕ → Option (List ℕ)) (losses : ShelfCounts) (got : ℕ → Option (List ℕ)) (losses_now : ShelfCounts) (app : ℕ) (new : AppView)
    (poured : Poured) : Type 0 where
  pub was : Stage
  pub now : Stage
  pub seen : now.view ≡ new
  pub gives : ForwardGives first losses now.work now.desk now.tags got losses_now new (Ended poured)
  pub does : TurnDoes was now (Ended poured)
  pub left : new.left ≡ true
  pub same : new.app ≡ app

-- This is told at the end of what stands so, with what the carrier got and the face has seen by then.
abbrev pub TellsForwarded : OutboxState → Desk → Tags → (ℕ → Option (List ℕ)) → ShelfCounts → AppView → Poured → Type 0
TellsForwarded w st tags got losses_now v poured = (first : ℕ → Option (List ℕ)) (losses : ShelfCounts) → ForwardStands first losses w st tags got losses_now v
    → (later : ℕ → Option (List ℕ)) × (counts : ShelfCounts) × (new : AppView) × IsLastTurn first losses later counts v.app new poured
