-- The active flow stands, so what is next of it may be lent.
use Rattle.std.proofs.Common.{rules, ◌<◌, length, refl}
use Rattle.board_face.specs.declared.views.app.AppView.{AppView}
use Rattle.flow_queues.{specs.{KeptOf.{queue_state}}, proofs.{Resting.{rest-none}, LentNow.{flow-stands, own-out, own-spare, lends-of}}}
use Rattle.flow_queues.proofs.lending.lend.Goals as goal

pub returns-then-st-len-clause-lends : goal.returns-then-st-len-clause-lends
returns-then-st-len-clause-lends g c = (refl, refl, rest-none c.args.st.now.active c.args.st.now.flows.items (search rules) c.requires.work.stand.rest)

pub lend_next-requires-clause-can : goal.lend_next-requires-clause-can
lend_next-requires-clause-can g c = record {
  holds = record { here = c.requires.work.here; apart = c.requires.work.stand.stands.tokens.apart };
  counted = c.requires.work.stand.stands.counted;
  owns = c.requires.owns;
}

pub lend_next-requires-clause-out : goal.lend_next-requires-clause-out
lend_next-requires-clause-out g c =
    let within : c.args.st.now.active < length c.args.st.now.flows.items = search rules in
    own-out (queue_state c.args.st.now) c.index_mut-own.result.now within c.index_mut-own.ensures.value c.requires.work.out (g.F.AppFace.seen c.args.face.now)
    c.requires.work.stand

pub lend_next-requires-clause-backed : goal.lend_next-requires-clause-backed
lend_next-requires-clause-backed g c =
    let within : c.args.st.now.active < length c.args.st.now.flows.items = search rules in
    let v : AppView = g.F.AppFace.seen c.args.face.now in
    let flow = flow-stands (queue_state c.args.st.now) c.index_mut-own.result.now within c.index_mut-own.ensures.value c.requires.work.out v c.requires.work.stand in
    record {
      notes = flow.notes;
      sized = flow.holds.sized;
      spare = own-spare (queue_state c.args.st.now) c.index_mut-own.result.now within c.index_mut-own.ensures.value c.requires.work.out v c.requires.work.stand;
    }

pub returns-clause-lends : goal.returns-clause-lends
returns-clause-lends g c =
    let within : c.args.st.now.active < length c.args.st.now.flows.items = search rules in
    lends-of (queue_state c.args.st.now) c.index_mut-own.result.now within c.index_mut-own.ensures.value c.requires.work.out (g.F.AppFace.seen c.args.face.now)
    (g.F.AppFace.seen c.lend_next.new.face) c.lend_next.new.own c.requires.work.stand c.lend_next.result c.lend_next.ensures.lends
