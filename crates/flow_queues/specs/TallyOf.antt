-- What is counted of loans, as plain data.
use Rattle.std.specs.Prelude.{vec_capacity}
use Rattle.flow_queues.specs.{declared.tally.LoanTally.{LoanTally}, Counting.{TallyState}}

abbrev pub tally_state_of : LoanTally → TallyState
tally_state_of w = record {
  due = w.due;
  written = w.written;
  loans = w.loans;
  copied = w.copied;
  stopped = w.stopped;
  counts = w.counts.entries;
  flows = w.flows.items;
  room = vec_capacity w.flows;
}
