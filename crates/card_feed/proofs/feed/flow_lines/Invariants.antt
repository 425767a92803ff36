-- The lines of the flows so far.
use Rattle.std.proofs.Common.{◌≡◌, length}
use Rattle.card_feed.{specs.Outcomes.{HavePorts}, proofs.Lines.{AreLinesBelow}}
use Rattle.card_feed.proofs.feed.flow_lines.Given as goal

abbrev pub invariant-loop-number : goal.invariant-loop-number
invariant-loop-number l = record {
  lines : HavePorts l.table.ports l.apps → AreLinesBelow l.number l.table.flows l.bytes l.lines.items;
  end : l.number-end ≡ length l.table.flows;
}
