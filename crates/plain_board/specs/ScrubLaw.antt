-- A scrub takes back at once what an application owes in all buffers. Its log has one event for each buffer in which the
-- application had a user count, by the order of their numbers.
use Rattle.std.specs.Prelude.{◌≡◌, ℕ, zero, suc, ◌<◌, if◌then◌else◌, nat_lt, List, [], slice_set}
use Rattle.zr_kinds.specs.{declared.event.Event.{Event}, LegalRun.{HasSmallNumbers}, Setting.{total_buffers}}
use Rattle.zr_kinds.specs.declared.event.Event.TheVariants as event
use Rattle.board_face.specs.{Laws.{AllSides, TookAll, pool_of, scrubbed_by, user_of}, Sides.{IsApp}, declared.views.app.AppSide.{AppSide}}
use Rattle.plain_board.specs.{IsLogged.{AreSound, IsLogged, setting_of_sides}, Logs.{KeptEvents, logged}}

-- the sides once a scrub of an application took so much of each buffer in all
abbrev pub scrubbed_sides : AllSides → ℕ → AppSide → List ℕ → AllSides
scrubbed_sides s a app total = record { nic = s.nic; apps = slice_set s.apps a (scrubbed_by app total) }

abbrev pub scrub_of : AllSides → ℕ → ℕ → Event
scrub_of new a b = event.Scrub a b (pool_of new b) (user_of new a b)

-- the log once the buffers below this one were scrubbed
abbrev pub scrub_logged : AllSides → AllSides → ℕ → KeptEvents → ℕ → KeptEvents
scrub_logged old new a kept zero = kept
scrub_logged old new a kept (suc b) =
    let before = scrub_logged old new a kept b in if nat_lt 0 (user_of old a b) then logged before (scrub_of new a b) else before

abbrev pub ScrubEventLaw : Type 0
ScrubEventLaw =
    (s : AllSides) → AreSound s → (a : ℕ) (app : AppSide) → IsApp s.apps a app → app.view.loans ≡ [] → (total : List ℕ) → TookAll s.nic app total
    → let new = scrubbed_sides s a app total in
    (kept : KeptEvents) → ((b : ℕ) → b < total_buffers (setting_of_sides s) → HasSmallNumbers (scrub_of new a b)) → IsLogged s kept
    → IsLogged new (scrub_logged s new a kept (total_buffers (setting_of_sides s)))
