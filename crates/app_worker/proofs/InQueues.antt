-- What is kept of the flows, as the queues say it.
use Rattle.std.specs.Prelude.{◌++◌}
use Rattle.board_face.specs.declared.views.app.AppView.{AppView}
use Rattle.flow_queues.specs.Kept.{QueueState, LoansOut, QueuesStand, QueuesWork}
use Rattle.app_worker.specs.{State.{State, read_of, queues_of}, Works.{Works}}

abbrev pub with_queues : State → QueueState → State
with_queues st q = record st { notes = q.notes; flows = q.flows; index = q.index; active = q.active }

abbrev pub out_of : State → LoansOut
out_of st = record { unread = st.unread ++ st.posted.entries; read = read_of st }

pub queues-stand : {st : State} {v : AppView} → Works st v → QueuesStand (queues_of st) (out_of st) v
queues-stand works = record {
  stands = works.working.stands;
  rest = works.working.rest;
  index = works.working.index;
  bounded = record { spares = works.common.spares; loans = works.common.bound };
}

pub queues-work : {st : State} {v : AppView} → Works st v → QueuesWork (queues_of st) v
queues-work {st} works = record { here = works.here; out = out_of st; stand = queues-stand works }
