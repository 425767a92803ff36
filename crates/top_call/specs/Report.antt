-- The text of a report, whether it went out, and the answer behind it.
use Rattle.std.specs.{Prelude.{◌≡◌, ℕ, List, [], ◌∷◌, ◌++◌, ◌==◌, if◌then◌else◌, Bool, true, false, Option, Result, Ok, Err, codes}, Fmt.{decimal}}
use Rattle.std.specs.{List.{flat_map, enumerate_from}, Io.KnownBytes.{Keeps, Appends}}
use Rattle.zr_kinds.specs.{Fault.{number_of}, declared.{behaviour.Stopped.{Stopped}, outcome.{Tally.{Tally}, AppLine.{AppLine}, FlowEnd.{FlowEnd}}}}
use Rattle.zr_kinds.specs.declared.fault.Fault.TheVariants as fault
use Rattle.zr_kinds.specs.declared.outcome.{FlowEnd.TheVariants.{Going, Whole, Short, Reset}, FlowLine.{FlowLine}, PoolStats.{PoolStats}}
use Rattle.zr_kinds.specs.declared.behaviour.Stopped.TheVariants as stopped
use Rattle.zr_io.specs.Moved.{Rose, Gained}
use Rattle.top_call.specs.declared.report.Unreported.{Unreported}
use Rattle.top_call.specs.declared.report.Unreported.TheVariants as unreported

-- how the report calls what stopped an application
abbrev pub stopped_word : Stopped → List ℕ
stopped_word stopped.No = codes "no"
stopped_word stopped.Quit = codes "quit"
stopped_word stopped.Write = codes "write"
stopped_word stopped.Memory = codes "memory"

abbrev pub yes_or_no : Bool → List ℕ
yes_or_no true = codes "yes"
yes_or_no false = codes "no"

-- how a flow ended
abbrev pub end_word : FlowEnd → List ℕ
end_word Going = codes "open"
end_word Whole = codes "whole"
end_word Short = codes "short"
end_word Reset = codes "reset"

-- the records by the class of their frames
unfoldable pub capture_line : Tally → List ℕ
capture_line tally =
    codes "capture records " ++ decimal tally.records ++ codes " tcp " ++ decimal tally.tcp ++ codes " steered " ++ decimal tally.steered ++ codes " other "
    ++ decimal tally.other
    ++ codes " fragment " ++ decimal tally.fragment ++ codes " cut " ++ decimal tally.cut ++ codes " bad " ++ decimal tally.bad ++ 10 ∷ []

-- application `number`
unfoldable pub app_line : ℕ → AppLine → List ℕ
app_line number app =
    codes "app " ++ decimal number ++ codes " port " ++ decimal app.port ++ codes " written " ++ decimal app.written ++ codes " loans " ++ decimal app.loans
    ++ codes " copied " ++ decimal app.copied ++ codes " stopped " ++ stopped_word app.stopped ++ 10 ∷ []

-- flow `number`
unfoldable pub flow_line : ℕ → FlowLine → List ℕ
flow_line number flow =
    codes "flow " ++ decimal number ++ codes " port " ++ decimal flow.port ++ codes " base " ++ decimal flow.base ++ codes " bytes " ++ decimal flow.bytes
    ++ codes " fin " ++ yes_or_no flow.fin ++ codes " end " ++ end_word flow.end ++ 10 ∷ []

-- the frame with this number was refused
abbrev pub refused_line : ℕ → List ℕ
refused_line frame = codes "refused " ++ decimal frame ++ 10 ∷ []

-- the searches of the pool by where they ended
unfoldable pub pool_line : PoolStats → List ℕ
pool_line pool =
    codes "pool fast " ++ decimal pool.fast ++ codes " refill " ++ decimal pool.refill ++ codes " slow " ++ decimal pool.slow ++ codes " empty "
    ++ decimal pool.empty ++ codes " strays " ++ decimal pool.strays ++ 10 ∷ []

abbrev pub status_line : ℕ → List ℕ
status_line status = codes "status " ++ decimal status ++ 10 ∷ []

-- a line for each item, numbered from 0
abbrev pub numbered_lines : {T : Type 0} → (ℕ → T → List ℕ) → List T → List ℕ
numbered_lines line items = flat_map (λ e. line e.0 e.1) (enumerate_from 0 items)

-- the whole text
abbrev pub report_of : Tally → List AppLine → List FlowLine → List ℕ → PoolStats → ℕ → List ℕ
report_of tally apps flows refused pool status =
    capture_line tally ++ numbered_lines app_line apps ++ numbered_lines flow_line flows ++ flat_map refused_line refused ++ pool_line pool
    ++ status_line status

-- The whole text went out; or nothing, for want of memory; or a front of it, where the sink failed.
abbrev pub Reports : Option (List ℕ) → Option (List ℕ) → ℕ → ℕ → List ℕ → Result (Unit {0}) Unreported → Type 0
Reports sent now faults faults_now text (Ok done) = Appends sent now text
Reports sent now faults faults_now text (Err unreported.Memory) = Keeps sent now
Reports sent now faults faults_now text (Err unreported.Write) =
    Gained sent now (λ front. (rest : List ℕ) × (text ≡ front ++ rest)) × Rose faults faults_now

-- The answer is the status that the report says. Where its text found no memory it is that of `Memory`, which comes first, and where
-- the sink failed that of `Write`.
abbrev pub answer_of : ℕ → Result (Unit {0}) Unreported → ℕ
answer_of said (Ok done) = said
answer_of said (Err unreported.Memory) = number_of fault.Memory
answer_of said (Err unreported.Write) = if said == number_of fault.Memory then number_of fault.Memory else number_of fault.Write
