use Rattle.std.{proofs.Common.{rules, ◌≡◌, Some, List, ◌++◌, [], ◌∷◌, length, ap, subst, sym, ◌∙◌}, specs.{BTreeMap.{Updates}, Ordering.{nat_cmp, is_eq}}}
use Rattle.flow_queues.{specs.{declared.queues.FlowQueue.{FlowQueue}, Flows.{IsIndex, place_in_index, fresh_flow}}, proofs.Indexing.{index-push}}
use Rattle.flow_queues.proofs.places.place_for.Goals as goal

pub returns-clause-index : goal.returns-clause-index
returns-clause-index c =
    let flows : List FlowQueue = c.args.flows.now.items in
    let f : FlowQueue = fresh_flow c.args.note.now in
    let pushed : c.push.new.self.items ≡ flows ++ f ∷ [] = search rules in
    let size : c.len-i.result ≡ length flows = search rules in
    let key : c.from-number.result ≡ f.number = search rules in
    let updates : Updates nat_cmp c.args.index.now c.insert.new.self c.from-number.result (Some c.len-i.result) = search rules in
    let here : place_in_index c.insert.new.self.entries f.number ≡ Some (length flows) = ap (place_in_index c.insert.new.self.entries) (sym key) ∙ updates.1
    ∙ ap Some size in
    subst (IsIndex c.insert.new.self.entries) (sym pushed)
    (index-push c.args.index.now.entries c.insert.new.self.entries flows f c.requires here
    (λ q apart. updates.2 q (ap (λ k. is_eq (nat_cmp k q)) key ∙ apart)))
