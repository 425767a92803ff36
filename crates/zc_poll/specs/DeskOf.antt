-- What a stream keeps beside its face, as plain data.
use Rattle.zc_poll.specs.{declared.state.StreamState.{StreamState}, Standing.{Desk}}

abbrev pub desk_of : StreamState → Desk
desk_of s = record {
  app = s.app;
  notes = s.queues.notes;
  flows = s.queues.flows.items;
  index = s.queues.index.entries;
  active = s.queues.active;
  stopped = s.stopped;
  ended = s.ended;
  scrubbed = s.scrubbed;
}
