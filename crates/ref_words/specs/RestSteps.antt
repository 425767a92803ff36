-- Looks of an application at its refill slots, on a board of words, by which it comes to rest or falls quiet.
use Rattle.std.specs.Prelude.{ℕ, Bool, if◌then◌else◌}
use Rattle.board_face.specs.{AppEvents.{app_saw, came_to_rest}, Sides.{app_at}, SlotSteps.{side_slot_free, side_fell_quiet}}
use Rattle.board_face.specs.declared.views.app.{AppLook.TheVariants.{RawOnItsWay, NotQuiet}, AppSide.{AppSide}}

-- it looked at the slot of its last raw entry: free, it says that no raw entry is on its way
abbrev pub side_raw_looked : AppSide → Bool → AppSide
side_raw_looked app free = app_at app (if free then came_to_rest app.view else app_saw app.view RawOnItsWay)

-- it saw a slot in use, so its ring isn't quiet
abbrev pub side_slot_in_use : AppSide → AppSide
side_slot_in_use app = app_at app (app_saw app.view NotQuiet)

-- it looked at any slot, and at the last one after it had seen all others free
abbrev pub side_any_looked : AppSide → ℕ → Bool → AppSide
side_any_looked app s free = if free then side_slot_free app s else side_slot_in_use app

abbrev pub side_last_looked : AppSide → ℕ → Bool → AppSide
side_last_looked app s free = if free then side_fell_quiet app s else side_slot_in_use app
