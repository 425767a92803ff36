-- What forwarding keeps, as plain data.
use Rattle.flow_queues.specs.TallyOf.{tally_state_of}
use Rattle.zc_forward.specs.{declared.outbox.Outbox.{Outbox as Kept}, Sending.{OutboxState}}

abbrev pub outbox_of : Kept → OutboxState
outbox_of w = record { tally = tally_state_of w.tally; out = w.out.items; uncarried = w.uncarried; pressed = w.pressed }
