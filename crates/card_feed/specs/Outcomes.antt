-- What an outcome tells of a feed.
use Rattle.std.specs.{Prelude.{◌≡◌, ℕ, ◌%◌, ◌^◌, ◌==◌, if◌then◌else◌, List, length, map, Option, Some, None}, List.{slice_get}, Option.{is_some}}
use Rattle.zr_kinds.specs.declared.outcome.{AppLine.{AppLine}, FlowLine.{FlowLine}, FlowEnd.{FlowEnd, TheVariants.{Going, Whole, Short, Reset}}}
use Rattle.zr_kinds.specs.ReceiverLaws.{distance}
use Rattle.flow_table.specs.Flows.{Flow}
use Rattle.card_feed.specs.{declared.outcome.Outcome.{Outcome}, Feed.{FeedState, fault_of_stage}}

-- there is one application for each port, in their order
abbrev pub HavePorts : List ℕ → List AppLine → Type 0
HavePorts ports apps = map (λ (app : AppLine). app.port) apps ≡ ports

-- How a flow ended, of which so many bytes were written: these reach the number of its FIN, modulo 2^32, or they don't. A RST comes
-- before a FIN.
abbrev pub end_by : Option ℕ → ℕ → ℕ → FlowEnd
end_by None base bytes = Going
end_by (Some fin) base bytes = if bytes % 2 ^ 32 == distance base 0 fin then Whole else Short

abbrev pub flow_end : Flow → ℕ → FlowEnd
flow_end flow bytes = if flow.close.reset then Reset else end_by flow.close.fin flow.base bytes

-- the line of a flow, of which so many bytes were written
abbrev pub line_of_flow : Flow → ℕ → FlowLine
line_of_flow flow bytes = record {
  port = flow.key.dport;
  base = flow.base;
  bytes = bytes;
  fin = is_some flow.close.fin;
  end = flow_end flow bytes;
}

-- one line for each flow
pub record AreLinesOf (flows : List Flow) (bytes : List ℕ) (lines : List FlowLine) : Type 0 where
  pub many : length lines ≡ length flows
  pub each : (number : ℕ) (flow : Flow) (count : ℕ) → slice_get flows number ≡ Some flow → slice_get bytes number ≡ Some count
      → slice_get lines number ≡ Some (line_of_flow flow count)

-- The lines of the flows have the ports of the lines of their applications.
pub record IsOutcomeOf (feed : FeedState) (apps : List AppLine) (bytes : List ℕ) (outcome : Outcome) : Type 0 where
  pub tally : outcome.tally ≡ feed.tally
  pub apps_are : outcome.apps.items ≡ apps
  pub flows : HavePorts feed.ports apps → AreLinesOf feed.flows bytes outcome.flows.items
  pub refused : outcome.refused.items ≡ feed.refused
  pub pool : outcome.pool ≡ feed.pool.stats
  pub end : outcome.end ≡ fault_of_stage feed.stage
