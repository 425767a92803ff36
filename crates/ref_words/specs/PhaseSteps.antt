-- Steps at the phase words and those by which an application is told that nothing comes, on a board of words.
use Rattle.std.specs.Prelude.{ℕ, Bool, true, false, if◌then◌else◌, []}
use Rattle.zr_kinds.specs.declared.place.Place.{Place}
use Rattle.board_face.specs.{NicEvents.{nic_saw, nic_ended, saw_leave}, AppEvents.{app_saw, told_end, abandoned, left_board}, Sides.{nic_at, app_at}}
use Rattle.board_face.specs.{SlotSteps.{seen_with}, declared.views.{nic.{NicLook.TheVariants.{NotLeft}, NicSide.{NicSide}}, app.AppLook.TheVariants.{NoNote, NoSpare}}}
use Rattle.board_face.specs.declared.views.app.AppSide.{AppSide}

-- the card ended
abbrev pub side_ended : NicSide → NicSide
side_ended nic = nic_at nic (nic_ended nic.view)

-- it looked whether an application has left
abbrev pub side_leave_looked : NicSide → ℕ → Bool → NicSide
side_leave_looked nic a left = nic_at nic (if left then saw_leave nic.view a else nic_saw nic.view (NotLeft a))

-- an application left
abbrev pub side_left : AppSide → AppSide
side_left app = app_at app (left_board app.view)

-- In this look for a note it looked whether the card has ended.
abbrev pub side_end_looked : AppSide → Bool → AppSide
side_end_looked app ended =
    if ended then record app { inside = record app.inside { end_seen = true; end_unseen = false } }
    else record app { inside = record app.inside { end_unseen = true } }

-- and then at the flag of its next note slot, by which the look ends. A full slot is seen so. Where the slot is empty, and the card was
-- seen to have ended before, no note comes any more; where its end was looked for and not seen, there is none yet.
abbrev pub side_note_sought : AppSide → Bool → AppSide
side_note_sought app true = record app { inside = record app.inside { note_slot = seen_with []; end_unseen = false } }
side_note_sought app false =
    if app.inside.end_seen then record app { view = told_end app.view; inside = record app.inside { end_unseen = false } }
    else if app.inside.end_unseen then record app { view = app_saw app.view NoNote; inside = record app.inside { end_unseen = false } }
    else app

-- Once each free word was looked at in a search for a spare, it looked at its reserve: that is free, or there is no spare, which ends
-- the search.
abbrev pub side_reserve_looked : AppSide → Bool → AppSide
side_reserve_looked app free =
    if free then record app { inside = record app.inside { reserve_seen_free = true } }
    else record app { view = app_saw app.view NoSpare; inside = record app.inside { words_without = [] } }

-- It abandoned a loan, which no word tells.
abbrev pub side_abandoned : AppSide → Place → AppSide
side_abandoned app place = app_at app (abandoned app.view place)
