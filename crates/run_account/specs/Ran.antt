-- What a run leaves: the streams on their shelves, what its outcome says, and roles that account for it. It is over the sides of the
-- roles alone, so it is the same for every board.
use Rattle.std.specs.Prelude.{◌≡◌, ◌≢◌, ℕ, ◌-◌, ◌*◌, ◌^◌, ◌≤◌, ◌==◌, min, ◌⊎◌, if◌then◌else◌, List, [], ◌∷◌, ◌++◌, length, drop, sum_by, count_by}
use Rattle.std.specs.{Prelude.{Option, Some, None, option_map}, List.{slice_get}, Option.{is_some}, Io.KnownBytes.{Keeps}}
use Rattle.zr_kinds.specs.declared.{behaviour.{Behaviour.{Behaviour}, Stopped.{Stopped}}, fault.Fault.{Fault, TheVariants.{Memory, TooManyFlows}}}
use Rattle.zr_kinds.specs.declared.outcome.{AppLine.{AppLine}, FlowLine.{FlowLine}, PoolStats.{PoolStats}, Tally.{Tally}}
use Rattle.zr_kinds.specs.declared.behaviour.Stopped.TheVariants as stop
use Rattle.zr_io.specs.Moved.{Gained, Rose, ShelfCounts, Took, raised_by}
use Rattle.flow_table.specs.{Flows.{Flow, flows_of}, Stream.{stream_of}}
use Rattle.card_feed.specs.{Ending.{steered_in}, FramesRead.{HasEnded}, Tally.{tally_of}}
use Rattle.board_face.specs.{Ended.{HaveEnded}, Sides.{side_in}, declared.views.{nic.{NicSide.{NicSide}, NicView.{NicView}}, app.{AppSide.{AppSide}, AppView.{AppView}}}}
use Rattle.flow_queues.specs.{Ends.{AppEnd, IsTorn, bytes_written_of}, Totals.{Quits}}
use Rattle.card_feed.specs.{Account.{AccountsFor}, Feed.{FeedState, fault_of_stage}, Counts.{begins_fresh, found_in, long_in, searches_in, sweeping_in, sweeps_in}}
use Rattle.card_feed.specs.{Offered.{AreRefused, WantsRoom, offers_of}, Outcomes.{IsOutcomeOf, flow_end}, declared.{outcome.Outcome.{Outcome}, plan.Plan.{Plan}}}
use Rattle.card_feed.specs.{Need.{RefusesByNeed}, Plan.{how_of}}
use Rattle.run_account.specs.{CardTurns.{CardTurns}, Running.{ends_of}, Views.{Ends, SourceSeen, Streams, counts_at, ends_at, failed_at, kept_at, left_at}, Ways.{HasCome}, declared.run.Run.{Run}}

-- what holds of something that is there
abbrev pub There : {A : Type 0} → Option A → (A → Type 0) → Type 0
There None P = ⊥
There (Some value) P = P value

-- ---- lines

-- the flow's line says what the definition says of the flow
pub record IsLineOf (flow : Flow) (line : FlowLine) : Type 0 where
  pub port : line.port ≡ flow.key.dport
  pub base : line.base ≡ flow.base
  pub fin : line.fin ≡ is_some flow.close.fin
  pub end : line.end ≡ flow_end flow line.bytes

-- The shelf gained a front of the stream, and all of it where its application wasn't stopped. All of what it gained is
-- counted but where it failed: then there may be some bytes more.
pub record IsStreamed (stopped : Stopped) (stream bytes : List ℕ) (count : ℕ) : Type 0 where
  pub rest : List ℕ
  pub front : stream ≡ bytes ++ rest
  pub whole : stopped ≡ stop.No → bytes ≡ stream
  pub counted : stopped ≢ stop.Write → count ≡ length bytes
  pub at_least : count ≤ length bytes

-- The shelf of an application failed at one of its flows, and at no other.
pub record HasFailed {S T : Type 0} {m : Streams S T} (was now : Ends m) (flows : List Flow) (lines : List FlowLine)
    (a : ℕ) (v : AppView) : Type 0 where
  pub torn : ℕ
  pub each : (number : ℕ) (flow : Flow) (line : FlowLine) → slice_get flows number ≡ Some flow → flow.app ≡ a → slice_get lines number ≡ Some line
      → Gained (kept_at was a number) (kept_at now a number) (IsTorn v torn number line.bytes)

-- the bytes of the flows to a port; the count stays at 2^64 - 1 once it is there
abbrev pub written_to : ℕ → List FlowLine → ℕ
written_to port lines = min (sum_by (λ (line : FlowLine). if line.port == port then line.bytes else 0) lines) (2 ^ 64 - 1)

-- The line of the application of a port: what was written, how many loans it had, and why it stopped.
pub record IsAppLine (how : Behaviour) (port : ℕ) (losses losses_now : ShelfCounts) (flows : List FlowLine) (app : AppLine) : Type 0 where
  pub port_is : app.port ≡ port
  pub written : app.written ≡ written_to port flows
  -- which is what the appends to its shelf took that went well, and nothing else
  pub appended : losses_now.appended ≡ raised_by losses.appended app.written
  pub copies : app.copied ≤ app.loans
  pub loans : app.stopped ≡ stop.No → app.loans ≤ app.written
  -- it quits exactly where it has written so many bytes
  pub quits : Quits how.quit app.written app.stopped
  pub later : losses.faults ≤ losses_now.faults
  -- its shelf failed, and otherwise none of the shelf's calls did
  pub cause : app.stopped ≡ stop.Write → Rose losses.faults losses_now.faults
  pub still : app.stopped ≢ stop.Write → losses_now.faults ≡ losses.faults

-- the loans of all applications
abbrev pub all_loans : List AppLine → ℕ
all_loans apps = sum_by (λ (app : AppLine). app.loans) apps

-- the line of an application that has left with this
abbrev pub app_line_of : ℕ → AppEnd → AppLine
app_line_of port end = record {
  port = port;
  written = end.written;
  loans = end.loans;
  copied = end.copied;
  stopped = end.stopped;
}

-- the lines of the applications, in the order of the ports
abbrev pub app_lines_of : List ℕ → List AppEnd → List AppLine
app_lines_of [] ends = []
app_lines_of (port ∷ ports) [] = []
app_lines_of (port ∷ ports) (end ∷ ends) = app_line_of port end ∷ app_lines_of ports ends

-- how many bytes of each flow its application wrote
pub record AreCounts (flows : List Flow) (ends : List AppEnd) (counts : List ℕ) : Type 0 where
  pub many : length counts ≡ length flows
  pub each : (number : ℕ) (flow : Flow) (end : AppEnd) → slice_get flows number ≡ Some flow → slice_get ends flow.app ≡ Some end
      → slice_get counts number ≡ Some (bytes_written_of number end.flows)

-- the outcome that is told of what the card keeps and the applications left with
pub record TellsOfEnds (feed : FeedState) (ends : List AppEnd) (ports : List ℕ) (outcome : Outcome) : Type 0 where
  pub counts : List ℕ
  pub are : AreCounts feed.flows ends counts
  pub is : IsOutcomeOf feed (app_lines_of ports ends) counts outcome

-- the outcome that is told of what the roles keep
abbrev pub TellsOf : Run → List ℕ → Outcome → Type 0
TellsOf run ports outcome = TellsOfEnds run.feed (ends_of run.workers.items) ports outcome

-- ---- the whole run

-- what is told of a run
pub record Told : Type 0 where
  pub tally : Tally
  pub apps : List AppLine
  pub flows : List FlowLine
  pub refused : List ℕ
  pub pool : PoolStats
  pub end : Option Fault

abbrev pub told_of : Outcome → Told
told_of outcome = record {
  tally = outcome.tally;
  apps = outcome.apps.items;
  flows = outcome.flows.items;
  refused = outcome.refused.items;
  pool = outcome.pool;
  end = outcome.end;
}

-- What is told of these frames is what the card kept at the end, and it came to that, and to its view, by turns of its own.
pub record CardHasTurned (ports : List ℕ) (split : ℕ) (frames : List (List ℕ)) (told : Told) (v : NicView) : Type 0 where
  pub feed : FeedState
  pub turns : CardTurns ports split frames feed v
  pub tally : told.tally ≡ feed.tally
  pub refused : told.refused ≡ feed.refused
  pub pool : told.pool ≡ feed.pool.stats
  pub end : told.end ≡ fault_of_stage feed.stage

pub record Ran {S T : Type 0} {m : Streams S T} (was now : Ends m) (plan : Plan) (told : Told) (nic : NicSide) (apps : List AppSide)
    : Type 0 where
  -- the frames before the reading ended, and what ended it
  pub before : List (List ℕ)
  pub ended : HasEnded (WantsRoom plan.options.split plan.ports.items) (left_at was) (left_at now) (failed_at was) (failed_at now) plan.ports.items
      before told.end
  pub tally : told.tally ≡ tally_of plan.ports.items before
  -- the frames that were refused: in order, each a steered one of which more than `split` bytes count
  pub refused : AreRefused plan.options.split (offers_of (steered_in plan.ports.items before)) told.refused
  -- each only where its need, with that of the frames before it that weren't, is above the number of buffers
  pub need : RefusesByNeed plan (offers_of (steered_in plan.ports.items before)) told.refused
  -- the searches for fresh buffers: no more than frames of which more than `split` bytes count; as many found enough as frames whose
  -- first bytes were put at the begin of a buffer, as the notes sent show; and as many found too few as frames were refused
  pub searches : searches_in told.pool ≤ long_in plan.options.split (offers_of (steered_in plan.ports.items before))
  pub found : found_in told.pool ≡ count_by begins_fresh nic.view.sent
  pub empty : told.pool.empty ≡ length told.refused
  -- and no more of them swept the free list than the card did
  pub swept : sweeping_in told.pool ≤ sweeps_in nic.view
  -- no more strays than may follow the loans
  pub strays : told.pool.strays ≤ (how_of plan).stray * all_loans told.apps
  -- The stream theorem: each flow's shelf gained a front of what the copying receiver gives of what counts of the flow's payloads
  -- but those that were refused, and all of it where the flow's application wasn't stopped.
  pub flow : (number : ℕ) (flow : Flow) → slice_get (flows_of (steered_in plan.ports.items before)) number ≡ Some flow →
      There (slice_get told.flows number) (λ line. There (slice_get told.apps flow.app) (λ app.
      IsLineOf flow line × Gained (kept_at was flow.app number) (kept_at now flow.app number)
      (λ bytes. IsStreamed app.stopped (stream_of (steered_in plan.ports.items before) told.refused number) bytes line.bytes)))
  pub many_flows : length told.flows ≡ length (flows_of (steered_in plan.ports.items before))
  -- No other flow of any shelf gained anything.
  pub others : (app number : ℕ) → option_map (λ (flow : Flow). flow.app) (slice_get (flows_of (steered_in plan.ports.items before)) number) ≢ Some app
      → Keeps (kept_at was app number) (kept_at now app number)
  pub app : (number port : ℕ) → slice_get plan.ports.items number ≡ Some port
      → There (slice_get told.apps number) (IsAppLine (how_of plan) port (counts_at was number) (counts_at now number) told.flows)
  pub many_apps : length told.apps ≡ length plan.ports.items
  -- Where an application was stopped by its shelf, all that the shelf gained for it is counted, but for up to 4,096 bytes of one
  -- flow, all of one loan, which no entry gave back.
  pub failed : (number : ℕ) (app : AppLine) → slice_get told.apps number ≡ Some app → app.stopped ≡ stop.Write
      → HasFailed was now (flows_of (steered_in plan.ports.items before)) told.flows number (side_in apps number).view
  -- The shelves of no application are as they were.
  pub many_shelves : length now.shelves ≡ length was.shelves
  pub beyond : drop (length plan.ports.items) now.shelves ≡ drop (length plan.ports.items) was.shelves
  -- The card came to what is told, and each application to its line, in the way that the plan says; and both to their views.
  pub turns : CardHasTurned plan.ports.items plan.options.split before told nic.view
  pub came : (number port : ℕ) (app : AppLine) → slice_get plan.ports.items number ≡ Some port → slice_get told.apps number ≡ Some app
      → (end : AppEnd) × (app ≡ app_line_of port end)
      × HasCome plan (kept_at was number) (kept_at now number) (counts_at was number) (counts_at now number) (side_in apps number).view end
  -- All is over at the board, and it accounts for the run.
  pub over : HaveEnded nic apps
  pub accounts : AccountsFor m.shelf.kept was.shelves now.shelves plan before told.refused nic apps told.apps told.pool.strays

-- Each flow's shelf gained the whole stream that the copying receiver gives for it over these frames, the refused ones left out,
-- unless its application wrote as many bytes as it was to.
abbrev pub HaveWholeStreams : {S T : Type 0} → {m : Streams S T} → Ends m → Ends m → List ℕ → Option ℕ → List (List ℕ) → Told → Type 0
HaveWholeStreams was now ports quit frames told =
    (number : ℕ) (flow : Flow) → slice_get (flows_of (steered_in ports frames)) number ≡ Some flow → There (slice_get told.apps flow.app) (λ app.
    quit ≢ Some app.written → Gained (kept_at was flow.app number) (kept_at now flow.app number)
    (λ bytes. bytes ≡ stream_of (steered_in ports frames) told.refused number))

-- Nothing was read, and no shelf touched.
pub record IsRunUntouched {S T : Type 0} {m : Streams S T} (was now : Ends m) : Type 0 where
  pub source_is : now.source ≡ was.source
  pub shelves_are : now.shelves ≡ was.shelves

-- Want of memory came before the first turn; or behind the last one, and then the run is as any other.
abbrev pub RunLacksMemory : {S T : Type 0} → {m : Streams S T} → Ends m → Ends m → Plan → Type 0
RunLacksMemory was now plan =
    IsRunUntouched was now ⊎ ((told : Told) × (nic : NicSide) × (apps : List AppSide) × Ran was now plan told nic apps)

-- ---- a capture that is read beside the card

-- The source as the ending of the reading left it, and as it is now. Only where the card ended the reading, by want of memory or by
-- a flow too many, may a reading beside it have gone on.
pub record HasReadOn {S : Type 0} (m : SourceSeen S) (at now : S) (end : Option Fault) : Type 0 where
  pub same : end ≢ Some Memory → end ≢ Some TooManyFlows → at ≡ now
  pub taken : Took (m.left at) (m.left now) (λ bytes. Unit {0})
  pub later : m.failed at ≤ m.failed now

-- What a run leaves whose capture is read beside the card. `at` is the source as the ending of the reading left it.
pub record RanBeside {S T : Type 0} {m : Streams S T} (was now : Ends m) (plan : Plan) (told : Told) (nic : NicSide) (apps : List AppSide)
    : Type 0 where
  pub at : S
  pub ahead : HasReadOn m.source at now.source told.end
  pub ran : Ran was (ends_at m at now.shelves) plan told nic apps

-- `RunLacksMemory` of a run whose capture is read beside the card.
abbrev pub RunLacksMemoryBeside : {S T : Type 0} → {m : Streams S T} → Ends m → Ends m → Plan → Type 0
RunLacksMemoryBeside was now plan =
    IsRunUntouched was now ⊎ ((told : Told) × (nic : NicSide) × (apps : List AppSide) × RanBeside was now plan told nic apps)
