-- What a replay leaves: the streams on their shelves, the report, the status, and the board of the run.
use Rattle.std.specs.Prelude.{◌≡◌, ◌≢◌, ℕ, ◌≤◌, List, [], ◌++◌, length, Bool, true, Option, Some, None, Result, IfOk, IfSome, OnErr, OnOk, ◌⊎◌, ⊤, option_map}
use Rattle.std.specs.{List.{slice_get}, Io.KnownBytes.{Keeps}}
use Rattle.zr_kinds.specs.{Fault.{number_of}, declared.{fault.Fault.{Fault, TheVariants.{Cut, Memory, Read, TooManyFlows, Usage, Write}}, outcome.AppLine.{AppLine}}}
use Rattle.zr_io.specs.Moved.{Gained, Rose, Took, raised_by}
use Rattle.flow_table.specs.{Flows.{Flow, flows_of}, Stream.{stream_of}}
use Rattle.board_face.specs.declared.views.{nic.NicSide.{NicSide}, app.AppSide.{AppSide}}
use Rattle.command_words.specs.Words.{ReplayShown, Shown, replay, make, check}
use Rattle.card_feed.specs.{Ending.{ended_of, steered_in}, FramesRead.{IsEnding, IsReadToEnd}}
use Rattle.zr_kinds.specs.declared.behaviour.Stopped.TheVariants as stop
use Rattle.card_feed.specs.{declared.{plan.Plan.{Plan}, outcome.Outcome.{Outcome}}, Counts.{sweeping_in, sweeps_in}, Need.{buffers_of, need_in}, Offered.{offers_of}}
use Rattle.card_feed.specs.Plan.{TakesTurns}
use Rattle.run_account.specs.Ran.{HasReadOn, HaveWholeStreams, IsLineOf, IsStreamed, RunLacksMemory, RunLacksMemoryBeside, Ran, There, Told, told_of}
use Rattle.run_account.specs.Views.{Ends, ShelfSeen, Streams, ends_at}
use Rattle.replay_turns.specs.Following.{RunsBy}
use Rattle.top_call.specs.{Report.{report_of, Reports, answer_of}, declared.report.Unreported.{Unreported}}
use Rattle.top_call.specs.{Cards.{HasOver, HasSides, IsClosed, IsOfWay, IsUncounted}, Flushing.{Flushes, HasLost}, Planned.{IsPlanOf}, Records.{HasRecord, record_in}}
use Rattle.top_call.specs.{Status.{end_number, status_of}, Making.{Makes}, Checking.{Checks}, declared.card.Card.{Card}}
use Rattle.top_call.specs.Worlds.{IsUntouched, Seen, Sunk, World, counts_by, failed_in, kept_by, left_in, sink_in}

-- Want of memory, a failed read and a lost shelf show in no byte. Any other status is that of what ended the reading.
abbrev pub IsStatusOf : ℕ → Option Fault → Type 0
IsStatusOf status end =
    (status ≡ end_number end) ⊎ ((status ≡ number_of Memory) ⊎ ((status ≡ number_of Read) ⊎ (status ≡ number_of Write)))

-- the statuses of a replay: that of a shelf or a sink that failed, and those of how a reading may end
abbrev pub IsStatus : ℕ → Type 0
IsStatus status = (status ≡ number_of Write) ⊎ ((end : Option Fault) × IsEnding end × (status ≡ end_number end))

-- the bytes end at a record's end, or within what they begin
abbrev pub IsBrokenOff : Option Fault → Type 0
IsBrokenOff end = (end ≡ None) ⊎ (end ≡ Some Cut)

-- the text of an outcome's report, which says its status
abbrev pub report_text_of : Told → Bool → List ℕ
report_text_of outcome lost =
    report_of outcome.tally outcome.apps outcome.flows outcome.refused outcome.pool (status_of outcome lost)

-- ---- what is told

-- the report of an outcome and what stands behind it went out, by what the flush of the shelves said, and the answer
pub record TellsOutcome (before after : Sunk) (outcome : Told) (lost : Bool) (behind : List ℕ) (answer : ℕ) : Type 0 where
  -- All of it went out, and no call of the sink failed; or not, and then the answer says so.
  pub reported : Result (Unit {0}) Unreported
  pub report : Reports before.sent after.sent before.failed after.failed (report_text_of outcome lost ++ behind) reported
  pub still : OnOk reported (after.failed ≡ before.failed)
  pub answered : answer ≡ answer_of (status_of outcome lost) reported

-- What an outcome tells is written: its shelves are flushed, and then its report goes out and what stands behind it.
pub record Finishes {T : Type 0} (m : ShelfSeen T) (shelves shelves_now : List T) (before after : Sunk) (outcome : Told × List ℕ) (answer : ℕ)
    : Type 0 where
  pub lines : List AppLine
  pub lost : Bool
  pub flushes : Flushes m (length outcome.0.apps) shelves shelves_now outcome.0.apps lines lost
  pub tells : TellsOutcome before after (record outcome.0 { apps = lines }) lost outcome.1 answer

-- ---- what ran

-- With a text of turns the run's turns are those of the text, one a letter, and then whole rounds. Without one it is over the board for one
-- thread only where applications take turns of their own. By what turns the roles came to what is told, `ran` says of each.
abbrev pub IsPlayed : {S T : Type 0} → {m : Streams S T} → Ends m → Ends m → Plan → Told → Option (List ℕ) → Card → Type 0
IsPlayed before after plan outcome (Some turns) (Card.Plain board) = RunsBy before after plan turns outcome board
IsPlayed before after plan outcome (Some turns) card = ⊥
IsPlayed before after plan outcome None (Card.Plain board) = TakesTurns plan
IsPlayed before after plan outcome None (Card.Words board desk) = ⊤
IsPlayed before after plan outcome None card = ⊥

-- What a run leaves, with a text of turns or without one: the streams, what its outcome says, and in the card the board of the run, which
-- accounts for it, has no count any more and may be finished. Without one the capture may be read beside the card.
pub record RanWith {S T : Type 0} {m : Streams S T} (before after : Ends m) (card_now : Card) (turns : Option (List ℕ)) (plan : Plan)
    (outcome : Told) : Type 0 where
  -- the source as the ending of the reading left it; by turns it stands there still
  pub at : S
  pub ahead : HasReadOn m.source at after.source outcome.end
  pub still : turns ≢ None → at ≡ after.source
  pub nic : NicSide
  pub apps : List AppSide
  pub ran : Ran before (ends_at m at after.shelves) plan outcome nic apps
  -- by turns each sweep of the free list was made by a search that is counted as one that swept it
  pub sweeps : turns ≢ None → sweeping_in outcome.pool ≡ sweeps_in nic.view
  pub sides : HasSides card_now nic apps
  pub over : HasOver card_now
  pub uncounted : IsUncounted card_now
  pub way : IsOfWay turns card_now
  pub played : IsPlayed before after plan outcome turns card_now

-- There was no memory for a run by these turns, or for one by threads.
abbrev pub LacksMemoryBy : {S T : Type 0} → {m : Streams S T} → Ends m → Ends m → Option (List ℕ) → Plan → Type 0
LacksMemoryBy before after (Some turns) plan = RunLacksMemory before after plan
LacksMemoryBy before after None plan = RunLacksMemoryBeside before after plan

-- What a run by these turns leaves, or one without a text of turns: an outcome, or for want of memory none.
pub record Plays {S T E : Type 0} {m : Streams S T} (before after : Ends m) (card card_now : Card) (turns : Option (List ℕ)) (plan : Plan)
    (result : Result Outcome E) : Type 0 where
  pub ran : IfOk result (λ outcome. RanWith before after card_now turns plan (told_of outcome))
  pub recorded : IfOk result (λ outcome. HasRecord plan (told_of outcome) card_now)
  pub lacks : OnErr result (LacksMemoryBy before after turns plan × (card_now ≡ card))

-- ---- what the answer of a replay says

-- Of the streams: what counts are the flows' payloads in the frames before the ending.
pub record SaysOfStreams {S T O : Type 0} {m : Seen S T O} (before after : World m) (ports : List ℕ) (frames : List (List ℕ)) (outcome : Told)
    : Type 0 where
  -- The stream theorem, of the shelves that are left and the lines that are told: each flow's shelf gained a front of what the copying
  -- receiver gives of what counts of the flow's payloads but those that were refused, and all of it where its application wasn't stopped.
  pub flow : (number : ℕ) (flow : Flow) → slice_get (flows_of (steered_in ports frames)) number ≡ Some flow →
      There (slice_get outcome.flows number) (λ line. There (slice_get outcome.apps flow.app) (λ app.
      IsLineOf flow line × Gained (kept_by before flow.app number) (kept_by after flow.app number)
      (λ bytes. IsStreamed app.stopped (stream_of (steered_in ports frames) outcome.refused number) bytes line.bytes)))
  -- No other flow of any shelf gained anything.
  pub others : (app number : ℕ) → option_map (λ (flow : Flow). flow.app) (slice_get (flows_of (steered_in ports frames)) number) ≢ Some app
      → Keeps (kept_by before app number) (kept_by after app number)
  -- What the lines say was written is what the appends took that went well, and nothing else.
  pub appended : (app : ℕ) (line : AppLine) → slice_get outcome.apps app ≡ Some line
      → (counts_by after app).appended ≡ raised_by (counts_by before app).appended line.written

-- Of the reading. `at` is the source as its ending left it.
pub record SaysOfReading {S T O : Type 0} {m : Seen S T O} (before after : World m) (ports : List ℕ) (at : S) (answer : ℕ) : Type 0 where
  -- What was taken ends as all the bytes do, after the same records and by the same fault, unless memory ran out or a read failed.
  pub reached : IfSome (left_in before) (λ all. Took (left_in before) (left_in after) (λ taken. ended_of ports taken ≡ ended_of ports all))
      ⊎ ((answer ≡ number_of Memory) ⊎ (((answer ≡ number_of Read) ⊎ (answer ≡ number_of Write)) × Rose (failed_in before) (failed_in after)))
  -- The answer is the number of what ended the reading of all the bytes, or that of `Memory`, `Read` or `Write`.
  pub ending : IfSome (left_in before) (λ all. IsStatusOf answer (ended_of ports all).fault)
  pub whole : answer ≡ 0 → IsReadToEnd (left_in before) (left_in after)
  -- `Read` comes only where a read failed, and what was taken by then breaks off: nothing else in it ends the reading.
  pub read : answer ≡ number_of Read → Rose (failed_in before) (failed_in after)
      × Took (left_in before) (left_in after) (λ taken. IsBrokenOff (ended_of ports taken).fault)
  -- Where the answer is none of `Memory`, `Write` and `TooManyFlows` nothing was read behind the ending.
  pub settled : answer ≢ number_of Memory → answer ≢ number_of Write → answer ≢ number_of TooManyFlows → at ≡ after.ends.source
  -- No read failed before the ending where the answer is none of `Memory`, `Read` and `Write`.
  pub sound_reads : answer ≢ number_of Memory → answer ≢ number_of Read → answer ≢ number_of Write
      → m.streams.source.failed at ≡ failed_in before

-- a call of the shelf of one of these applications failed, or of the sink
abbrev pub IsLost : {S T O : Type 0} → {m : Seen S T O} → World m → World m → List ℕ → Type 0
IsLost {S} {T} {O} {m} before after ports =
    HasLost m.streams.shelf before.ends.shelves after.ends.shelves (length ports) ⊎ Rose (sink_in before).failed (sink_in after).failed

-- Of the applications, their shelves and the sink.
pub record SaysOfWriting {S T O : Type 0} {m : Seen S T O} (before after : World m) (ports : List ℕ) (outcome : Told) (flush_failed : Bool)
    (answer : ℕ) : Type 0 where
  -- `Write` comes only where an application's shelf failed, or the sink.
  pub lost : answer ≡ number_of Write → IsLost before after ports
  -- Where memory stopped an application it is `Memory`, and where its shelf did it is that or `Write`.
  pub wanting : (number : ℕ) (app : AppLine) → slice_get outcome.apps number ≡ Some app → app.stopped ≡ stop.Memory
      → answer ≡ number_of Memory
  pub failing : (number : ℕ) (app : AppLine) → slice_get outcome.apps number ≡ Some app → app.stopped ≡ stop.Write
      → (answer ≡ number_of Memory) ⊎ (answer ≡ number_of Write)
  -- So it is where a flush failed, whatever the lines say.
  pub unflushed : flush_failed ≡ true → (answer ≡ number_of Memory) ⊎ (answer ≡ number_of Write)
  -- No call of a shelf or of the sink failed where it is neither `Memory` nor `Write`.
  pub sound_shelves : answer ≢ number_of Memory → answer ≢ number_of Write
      → (app : ℕ) → (counts_by after app).faults ≡ (counts_by before app).faults
  pub sound_sink : answer ≢ number_of Memory → answer ≢ number_of Write → (sink_in after).failed ≡ (sink_in before).failed
  -- With 0 no application was stopped but to quit.
  pub going : answer ≡ 0 → (number : ℕ) (app : AppLine) → slice_get outcome.apps number ≡ Some app → (app.stopped ≡ stop.No) ⊎ (app.stopped ≡ stop.Quit)

-- With 0, of all the bytes.
pub record IsDone {S T O : Type 0} {m : Seen S T O} (before after : World m) (told : ReplayShown) (plan : Plan) (frames : List (List ℕ))
    (outcome : Told) (all : List ℕ) : Type 0 where
  -- These are the frames of all the bytes.
  pub all_read : ended_of told.ports all ≡ record { before = frames; fault = None }
  -- With as many buffers as these frames need none was refused.
  pub enough : need_in plan (offers_of (steered_in told.ports (ended_of told.ports all).before)) ≤ buffers_of plan → outcome.refused ≡ []
  -- Each flow's shelf gained the whole stream that a copying receiver gives for it over those frames, the refused ones left out, unless
  -- its application wrote as many bytes as it was to. So where none is refused it is a function of capture and ports alone, whatever
  -- the turns or the threads did.
  pub streams : HaveWholeStreams before.ends after.ends told.ports told.options.how.quit (ended_of told.ports all).before outcome

-- What a replay leaves, and what its answer says. `ran.at` is the source as the ending of the reading left it.
pub record Replays {S T O : Type 0} {m : Seen S T O} (before after : World m) (told : ReplayShown) (answer : ℕ) : Type 0 where
  pub plan : Plan
  pub planned : IsPlanOf told plan
  -- The run: what it leaves on the shelves and of itself, and the board in the card.
  pub shelves_run : List T
  pub outcome_run : Told
  pub ran : RanWith before.ends (record after.ends { shelves = shelves_run }) after.card told.turns plan outcome_run
  -- Then the shelf of each application was flushed. What is told is what the run left, but for the lines of those where that failed.
  pub outcome : Told
  pub flush_failed : Bool
  pub flushes : Flushes m.streams.shelf (length told.ports) shelves_run after.ends.shelves outcome_run.apps outcome.apps flush_failed
  pub told_is : outcome ≡ record outcome_run { apps = outcome.apps }
  pub streams : SaysOfStreams before after told.ports ran.ran.before outcome
  -- The report, with the status of that outcome, went out whole, and the record behind it where one is asked for; or not, and then the
  -- answer says so.
  pub report : TellsOutcome (sink_in before) (sink_in after) outcome flush_failed (record_in plan after.card) answer
  -- The record tells of that run.
  pub recorded : HasRecord plan outcome after.card
  pub kind : IsStatus answer
  pub reading : SaysOfReading before after told.ports ran.at answer
  pub writing : SaysOfWriting before after told.ports outcome flush_failed answer
  -- Completeness: where all the bytes end without a fault, and no read and no call of a shelf or of the sink failed, it is 0 or `Memory`.
  pub complete : (all : List ℕ) → left_in before ≡ Some all → (ended_of told.ports all).fault ≡ None → ¬ Rose (failed_in before) (failed_in after)
      → ¬ IsLost before after told.ports → (answer ≡ 0) ⊎ (answer ≡ number_of Memory)
  pub done : answer ≡ 0 → (all : List ℕ) → left_in before ≡ Some all → IsDone before after told plan ran.ran.before outcome all

-- There was no memory: before the first turn, and nothing was touched; or for the outcome behind the last turn. No shelf was flushed.
pub record Lacks {S T O : Type 0} {m : Seen S T O} (before after : World m) (told : ReplayShown) (answer : ℕ) : Type 0 where
  pub answer_is : answer ≡ number_of Memory
  pub card_is : after.card ≡ Card.Blank
  pub out_is : after.out ≡ before.out
  pub plan : Plan
  pub planned : IsPlanOf told plan
  pub lacks : LacksMemoryBy before.ends after.ends told.turns plan

-- a replay by this plan and these turns
abbrev pub asked_by : Plan → Option (List ℕ) → ReplayShown
asked_by plan turns = record { ports = plan.ports.items; areas = plan.areas.items; options = plan.options; turns = turns }

-- what a replay leaves, with memory or without
abbrev pub RepliesTo : {S T O : Type 0} → {m : Seen S T O} → World m → World m → ReplayShown → ℕ → Type 0
RepliesTo before after told answer = Replays before after told answer ⊎ Lacks before after told answer

-- ---- what words leave

-- what a command leaves
abbrev pub Commands : {S T O : Type 0} → {m : Seen S T O} → World m → World m → ℕ → Shown → Type 0
Commands before after answer (replay told) =
    Replays before after told answer ⊎ Lacks before after told answer ⊎ ((answer ≡ number_of Memory) × IsUntouched before after)
Commands before after answer (make told) = Makes before after told.seed told.frames answer × (after.card ≡ Card.Blank)
Commands {S} {T} {O} {m} before after answer check =
    Checks m.streams.source m.sink before.ends.source after.ends.source before.out after.out after.card answer
    × (after.ends.shelves ≡ before.ends.shelves)

-- What words leave, whatever they ask for.
pub record Answers {S T O : Type 0} {m : Seen S T O} (before after : World m) (reading : Option Shown) (answer : ℕ) : Type 0 where
  -- Words without a reading are answered by `Usage`, or by `Memory` where there was none to read them; and no other words by `Usage`.
  pub usage : answer ≡ number_of Usage → reading ≡ None
  pub unread : reading ≡ None → (answer ≡ number_of Usage) ⊎ (answer ≡ number_of Memory)
  -- Then nothing is read or written.
  pub untouched : reading ≡ None → IsUntouched before after
  -- To replay: the stream theorem, what the status and the report say, and the board. To make: the capture. To check: what was found.
  pub replays : IfSome reading (Commands before after answer)
  -- A board that is left may be finished.
  pub closed : IsClosed after.card

-- a replay without a text of turns
abbrev pub IsThreaded : Option Shown → Type 0
IsThreaded (Some (replay told)) = told.turns ≡ None
IsThreaded (Some (make told)) = ⊥
IsThreaded (Some check) = ⊥
IsThreaded None = ⊥

-- What words leave that are answered on one thread. `None` is the answer of no words but a replay by threads, which has no other but
-- `Memory`, where there was none to read them, and then nothing was done.
pub record AnswersAlone {S T O : Type 0} {m : Seen S T O} (before after : World m) (reading : Option Shown) (answer : Option ℕ) : Type 0 where
  pub some : IfSome answer (Answers before after reading)
  pub none : answer ≡ None → IsThreaded reading × IsUntouched before after
  pub threaded : IsThreaded reading → (answer ≡ None) ⊎ (answer ≡ Some (number_of Memory))
