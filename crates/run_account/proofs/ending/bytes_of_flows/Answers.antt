-- The count of one flow more.
use Rattle.std.{proofs.{Common.{◌≡◌, ◌+◌, List, ℕ, length, map, Some, refl, sym, subst, arith}, lemmas.Option.{slice_get_read}}, specs.List.{slice_get}}
use Rattle.run_account.proofs.Telling.{AreCountsBelow, counts-all, counts-more, end-at}
use Rattle.run_account.proofs.ending.bytes_of_flows.Goals as goal

pub loop-flow-preserved : goal.loop-flow-preserved
loop-flow-preserved g c =
    let end = g.E.Leaves.end in
    let ends = c.args.ends.now in
    let app = c.flow_app-app.result in
    let own = c.index-ends-app.result in
    let own_at : slice_get ends app ≡ Some own = slice_get_read ends (length ends) app own refl
    (omega (arith, c.flow_app-app.ensures.port, c.requires)) c.index-ends-app.is in
    record {
      counts = subst (λ (items : List ℕ). AreCountsBelow (c.loop-flow.flow + 1) c.args.feed.now.flows (map end ends) items)
          (sym {A = List ℕ} c.in_ok-push.ensures.items)
          (counts-more c.loop-flow.flow c.args.feed.now.flows (map end ends) c.loop-flow.bytes.items app c.flow_bytes.result
          (end own) c.loop-flow.invariant.counts c.flow_app-app.ensures.app (end-at end ends app own own_at) c.flow_bytes.ensures);
      end = c.loop-flow.invariant.end;
    }

pub returns : goal.returns
returns g c =
    counts-all c.loop-flow.flow c.args.feed.now.flows (map g.E.Leaves.end c.args.ends.now) c.loop-flow.bytes.items c.loop-flow.invariant.counts
    (omega (arith, c.loop-flow-test.false, c.loop-flow.auto.flow-end, c.loop-flow.invariant.end))
