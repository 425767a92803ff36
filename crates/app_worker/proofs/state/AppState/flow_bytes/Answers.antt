use Rattle.std.{proofs.Common.{rules, ◌≡◌, Some, None, length, get_or, sym, ap, ◌∙◌, arith}, specs.Vec.{vec_len}}
use Rattle.flow_queues.{specs.{declared.queues.FlowQueue.{FlowQueue}, Flows.{place_in_index}}, proofs.Indexing.{found-at, none-at}}
use Rattle.app_worker.{specs.{Kept.{flow_bytes}, State.{State}, StateOf.{state_of}}, proofs.FlowBytes.{bytes-at, bytes-none, bytes-sum}}
use Rattle.app_worker.proofs.state.AppState.flow_bytes.Goals as goal

pub index-requires : goal.index-requires
index-requires c =
    let st : State = state_of c.self.inside.stack in
    let is : place_in_index st.index c.args.flow ≡ Some c.in-Some.place = search rules in
    let size : vec_len c.self.inside.stack.queues.flows ≡ length st.flows = search rules in
    omega (arith, size, (found-at st.index st.flows c.args.flow c.in-Some.place is c.self.invariant.index).0)

pub returns-in-Some : goal.returns-in-Some
returns-in-Some c =
    let st : State = state_of c.self.inside.stack in
    let is : place_in_index st.index c.args.flow ≡ Some c.in-Some.place = search rules in
    let there = found-at st.index st.flows c.args.flow c.in-Some.place is c.self.invariant.index in
    let own : FlowQueue = c.index.result.now in
    let here : own ≡ get_or st.flows c.in-Some.place own = search rules in
    let bytes : flow_bytes c.args.flow st.flows ≡ (get_or st.flows c.in-Some.place own).bytes = bytes-at c.args.flow c.in-Some.place st.flows own
    there.0 (there.1 own) (c.self.invariant.once c.args.flow) in
    let value : own.bytes ≡ flow_bytes c.args.flow st.flows = ap (λ (f : FlowQueue). f.bytes) here ∙ sym bytes in
    rw (← c.self.view_is) (record { value = value; sum = value ∙ bytes-sum c.args.flow st.flows (c.self.invariant.once c.args.flow) })

pub returns-in-None : goal.returns-in-None
returns-in-None c =
    let st : State = state_of c.self.inside.stack in
    let is : place_in_index st.index c.args.flow ≡ None = search rules in
    let value : 0 ≡ flow_bytes c.args.flow st.flows = sym (bytes-none c.args.flow st.flows
    (none-at st.index st.flows c.args.flow is c.self.invariant.index)) in
    rw (← c.self.view_is) (record { value = value; sum = value ∙ bytes-sum c.args.flow st.flows (c.self.invariant.once c.args.flow) })
