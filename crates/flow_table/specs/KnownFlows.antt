-- What a table of flows shows: its ports, and the flows so far.
use Rattle.std.specs.Prelude.{ℕ, List}
use Rattle.flow_table.specs.Flows.{Flow}

pub record KnownFlows : Type 0 where
  pub ports : List ℕ
  pub flows : List Flow
