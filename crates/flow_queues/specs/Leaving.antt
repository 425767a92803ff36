-- An application's user counts are scrubbed, and it leaves.
use Rattle.std.specs.Prelude.{◌≡◌, Bool, true, false, []}
use Rattle.board_face.specs.{AppCalls.{IsHere, AppOnlySaw}, AppEvents.{left_board}, Looks.{AppTold}, NotNow.{HasWritten}}
use Rattle.board_face.specs.declared.views.app.{AppLook.{AppLook, TheVariants.{NotQuiet}}, AppView.{AppView}}

-- it may scrub: it hasn't left, has no loan out, and a flag keeps whether it has scrubbed
pub record MayScrub (scrubbed : Bool) (v : AppView) : Type 0 where
  pub here : IsHere v
  pub loans : v.loans ≡ []
  pub known : v.scrubbed ≡ scrubbed

-- and may leave: it has no piece and no spare either, and was told that no note comes any more
pub record MayLeave (scrubbed : Bool) (v : AppView) : Type 0 where
  pub scrub : MayScrub scrubbed v
  pub helds : v.helds ≡ []
  pub owns : v.owns ≡ []
  pub ended : v.ended ≡ true

-- The user counts are scrubbed: they were before, or each refill slot was seen free.
pub record HasScrubbed (old new : AppView) : Type 0 where
  pub view : new ≡ record old { scrubbed = true; quiet = new.quiet }
  pub seen : old.scrubbed ≡ false → new.quiet ≡ true
  pub same : old.scrubbed ≡ true → new.quiet ≡ old.quiet

-- They are, and a flag keeps it. Or a slot was seen in use.
abbrev pub ScrubsOnce : Bool → Bool → AppView → AppView → Bool → Type 0
ScrubsOnce was now old new true = (now ≡ true) × HasScrubbed old new
ScrubsOnce was now old new false = (now ≡ was) × AppOnlySaw NotQuiet old new

-- They are, and the application left. Or a slot was seen in use.
abbrev pub LeavesOnce : Bool → Bool → AppView → AppView → Bool → Type 0
LeavesOnce was now old new true = (now ≡ true) × ((mid : AppView) × HasScrubbed old mid × (new ≡ left_board mid))
LeavesOnce was now old new false = (now ≡ was) × AppOnlySaw NotQuiet old new

-- A refill slot in use holds it up: an entry was written, and the board says of each look that was made that it is so.
pub record IsHeldUp (is_so : AppLook → Type 0) (old new : AppView) : Type 0 where
  pub some : HasWritten old
  pub told : AppTold is_so old new
