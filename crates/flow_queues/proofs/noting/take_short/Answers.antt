-- What was out before the note came is out with it.
use Rattle.std.proofs.Common.{rules, ◌≡◌, ◌+◌}
use Rattle.flow_queues.{specs.KeptOf.{queue_state}, proofs.NoteTaken.{short-none, short-lost, short-entered}}
use Rattle.flow_queues.proofs.noting.take_short.Goals as goal

pub returns-in_default-clause-takes : goal.returns-in_default-clause-takes
returns-in_default-clause-takes c = λ old new out took stand rest. short-none (queue_state c.args.st.now) out old new c.args.linear.now c.args.note.now took stand

pub returns-in_default-taken-clause-takes : goal.returns-in_default-taken-clause-takes
returns-in_default-taken-clause-takes c = λ old new out took stand rest.
    short-lost (queue_state c.args.st.now) out old new c.args.linear.now c.args.note.now took stand c.take_payload-taken.new.flows.items
    c.take_payload-taken.new.index.entries (search rules)
    (λ o k. c.in_default-taken.ensures.stands old new c.args.linear.now o.unread o.read took (search rules) k.stands)

pub returns-clause-takes : goal.returns-clause-takes
returns-clause-takes c = λ old new out took stand rest.
    let count : c.in-Some.notes ≡ c.args.st.now.notes + 1 = search rules in
    short-entered (queue_state c.args.st.now) out old new c.args.linear.now c.args.note.now took stand c.take_payload-taken.new.flows.items
    c.take_payload-taken.new.index.entries c.in-Ok.i c.in-Some.notes _ c.in-Ok.ensures.takes count rest
    (λ o k. c.in-Ok.ensures.stands old new c.args.linear.now o.unread o.read took (search rules) k.stands)
