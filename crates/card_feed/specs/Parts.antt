-- A feed by its parts.
use Rattle.std.specs.Prelude.{Bool}
use Rattle.page_pool.specs.Pool.{PoolState}
use Rattle.card_feed.specs.{declared.intake.Intake.{Intake}, Hand.{at_hand}, Feed.{FeedState}}

abbrev pub feed_of : Intake → PoolState → Bool → FeedState
feed_of intake pool closed = record {
  ports = intake.table.ports;
  stage = intake.stage;
  tally = intake.counting.tally;
  flows = intake.table.flows;
  refused = intake.refused.items;
  at_hand = at_hand intake.hand intake.bytes.items;
  pool = pool;
  closed = closed;
}
