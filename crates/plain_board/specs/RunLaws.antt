-- The log of a board from its opening to its end.
use Rattle.std.specs.Prelude.{◌≡◌, ℕ, ◌≤◌, true, [], IsTrue}
use Rattle.zr_kinds.specs.{Setting.{most_events}, LegalRun.{IsLegalRun}}
use Rattle.area_layout.specs.Layout.{IsLayout}
use Rattle.board_face.specs.{Laws.{AllSides, pool_of}, NicCalls.{apps_of}, Opened.{new_nic, new_apps}, declared.views.parts.Setting.{Setting as Shared}}
use Rattle.plain_board.specs.{IsLogged.{IsLogged, setting_of_sides}, Logs.{KeptEvents}}

-- the sides of a board that was just opened, and the log that was opened with it
abbrev pub opened_sides : Shared → AllSides
opened_sides setting = record { nic = new_nic setting; apps = new_apps setting 0 (apps_of setting) }

abbrev pub opened_log : ℕ → KeptEvents
opened_log room = record { events = []; whole = true; room = room }

abbrev pub OpenedLaw : Type 0
OpenedLaw = (setting : Shared) (room : ℕ) → room ≤ most_events → IsLogged (opened_sides setting) (opened_log room)

-- What the log tells is a legal run, if no buffer has a holder any more where the log is whole.
abbrev pub EndedLaw : Type 0
EndedLaw =
    (s : AllSides) (kept : KeptEvents) → IsLayout s.nic.view.setting.layout → IsLogged s kept → (IsTrue kept.whole → (b : ℕ) → pool_of s b ≡ 0)
    → IsLegalRun (setting_of_sides s) kept.events kept.whole
