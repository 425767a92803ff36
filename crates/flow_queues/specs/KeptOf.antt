-- What is kept of flows, as plain data.
use Rattle.flow_queues.specs.{declared.kept.Queues.{Queues}, Kept.{QueueState}}

abbrev pub queue_state : Queues → QueueState
queue_state q = record { notes = q.notes; flows = q.flows.items; index = q.index.entries; active = q.active }
