-- The carrier was asked for a notice, where no loan was due.
use Rattle.std.specs.Prelude.{◌≡◌, ◌≢◌, ℕ, Option, None, Bool, IfNone, MatchOption}
use Rattle.zr_io.specs.Moved.{Rose}
use Rattle.zc_forward.specs.{Tags.{TakesTag}, Sending.{OutboxState, is_urgent}, Carrying.{Carrying, OnlyLooks}}

-- It told of a tag, which is out no longer, or of none.
pub record Asked (w : OutboxState) (was now : Carrying) (told : Option ℕ) : Type 0 where
  pub took : TakesTag was.tags now.tags told
  pub due : told ≢ None → w.tally.due ≡ None
  -- where it was asked and had none it counted a look
  pub looked : IfNone told (w.tally.due ≡ None → Rose was.pace.looks now.pace.looks)
  pub only : OnlyLooks was now

-- It was asked once, with urge exactly where the stream waits for a buffer or has ended, or no more loans may go out; and not while a
-- loan is due.
abbrev pub AskedBy : {C : Type 0} → (Bool → C → C → Option ℕ → Type 0) → OutboxState → C → C → Option ℕ → Type 0
AskedBy answers w old new told = MatchOption w.tally.due (answers (is_urgent w) old new told) (λ loan. (told ≡ None) × (new ≡ old))
