-- What a stream keeps of its flows, and what of it a call of the queues leaves.
use Rattle.board_face.specs.{AppCalls.{IsHere}, declared.views.app.AppView.{AppView}}
use Rattle.flow_queues.specs.Kept.{QueueState, QueuesWork}
use Rattle.zc_poll.specs.Standing.{Desk, IsGoing, all_read, queues_of_desk}

abbrev pub with_queues : Desk → QueueState → Desk
with_queues st q = record st { notes = q.notes; flows = q.flows; index = q.index; active = q.active }

pub work-of : (st : Desk) (v : AppView) → IsHere v → IsGoing st v → QueuesWork (queues_of_desk st) v
work-of st v here going = record { here = here; out = all_read going.out; stand = going.stand }
