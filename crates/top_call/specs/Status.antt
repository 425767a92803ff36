-- The status of a replay.
use Rattle.std.specs.{Prelude.{ℕ, List, Bool, true, false, ◌||◌, Option, Some, None}, List.{list_any}}
use Rattle.zr_kinds.specs.{declared.{fault.Fault.{Fault, TheVariants.{Memory, Write}}, behaviour.Stopped.{Stopped}, outcome.AppLine.{AppLine}}, Fault.{number_of}}
use Rattle.zr_kinds.specs.declared.behaviour.Stopped.TheVariants as stop
use Rattle.run_account.specs.Ran.{Told}

abbrev pub is_memory : Stopped → Bool
is_memory stop.Memory = true
is_memory stop.No = false
is_memory stop.Quit = false
is_memory stop.Write = false

abbrev pub is_write : Stopped → Bool
is_write stop.Write = true
is_write stop.No = false
is_write stop.Quit = false
is_write stop.Memory = false

-- one of the applications was stopped so
abbrev pub any_stopped : (Stopped → Bool) → List AppLine → Bool
any_stopped test apps = list_any (λ (app : AppLine). test app.stopped) apps

-- the number of what ended the reading; 0 at the end of the bytes
abbrev pub end_number : Option Fault → ℕ
end_number None = 0
end_number (Some fault) = number_of fault

-- Want of memory comes first, of an application or of the reading; then a shelf that failed, then what ended the reading.
abbrev pub status_from : Bool → Bool → Option Fault → ℕ
status_from true lost end = number_of Memory
status_from false lost (Some Memory) = number_of Memory
status_from false true end = number_of Write
status_from false false end = end_number end

-- A shelf failed where its application's line says so, or where one of the flushes did.
abbrev pub status_of : Told → Bool → ℕ
status_of outcome lost = status_from (any_stopped is_memory outcome.apps) (any_stopped is_write outcome.apps || lost) outcome.end
