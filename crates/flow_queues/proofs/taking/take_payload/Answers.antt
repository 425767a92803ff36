use Rattle.std.proofs.Common.{rules, ◌<◌, List, length, set, refl, inl, inr}
use Rattle.flow_queues.specs.{declared.queues.FlowQueue.{FlowQueue}, Flows.{IsChosen}, Taking.{TakesPayload, LosesPayload}}
use Rattle.flow_queues.proofs.NoteComes.{payload-stands, payload-lost}
use Rattle.flow_queues.proofs.taking.take_payload.Goals as goal

pub returns-in-Ok-enter_short : goal.returns-in-Ok-enter_short
returns-in-Ok-enter_short c =
    let flows : List FlowQueue = c.place_for.new.flows.items in
    let now : List FlowQueue = set flows c.in-Ok.i (record c.index_mut.result.now { queue = c.enter_short.new.queue }) in
    let chosen : (c.in-Ok.i < length flows) × IsChosen c.args.flows.now.items flows c.args.note.now c.in-Ok.i = c.in-Ok.ensures.chosen in
    let takes : TakesPayload c.args.flows.now.items now c.place_for.new.index.entries c.args.note.now c.args.number c.args.payload.now c.in-Ok.i = record {
      change = record {
        flows = flows;
        chosen = chosen.1;
        within = chosen.0;
        index_is = c.in-Ok.ensures.index;
        own = c.index_mut.result.now;
        there = c.index_mut.ensures.value;
        queue = c.enter_short.new.queue;
        is = refl;
        base = c.enter_short.ensures.same.0;
        popped = c.enter_short.ensures.same.1;
      };
      some = c.enter_short.ensures.some;
      all = record {
        enters = c.in-Ok-enter_short.ensures.enters;
        notes = λ taken t there such. c.enter_short.ensures.notes taken t there such.0 such.1;
      };
    } in
    record {
      takes = takes;
      stands = λ old new linear ring read took is stands.
          payload-stands c.args.number c.args.flows.now.items ring read old c.args.note.now stands new linear took now c.place_for.new.index.entries
          c.args.payload.now c.in-Ok.i is takes;
    }

pub returns-in-Err-enter_short : goal.returns-in-Err-enter_short
returns-in-Err-enter_short c =
    let flows : List FlowQueue = c.place_for.new.flows.items in
    let now : List FlowQueue = set flows c.in-Ok.i (record c.index_mut.result.now { queue = c.enter_short.new.queue }) in
    let chosen : (c.in-Ok.i < length flows) × IsChosen c.args.flows.now.items flows c.args.note.now c.in-Ok.i = c.in-Ok.ensures.chosen in
    let takes : LosesPayload c.args.flows.now.items now c.args.index.now.entries c.place_for.new.index.entries c.args.note.now = inr (record {
      place = c.in-Ok.i;
      change = record {
        flows = flows;
        chosen = chosen.1;
        within = chosen.0;
        index_is = c.in-Ok.ensures.index;
        own = c.index_mut.result.now;
        there = c.index_mut.ensures.value;
        queue = c.enter_short.new.queue;
        is = refl;
        base = c.enter_short.ensures.same.0;
        popped = c.enter_short.ensures.same.1;
      };
      some = c.enter_short.ensures.some;
    }) in
    record {
      takes = takes;
      stands = λ old new linear ring read took is stands.
          payload-lost c.args.number c.args.flows.now.items ring read old c.args.note.now stands new linear took now c.args.index.now.entries
          c.place_for.new.index.entries takes;
    }

pub returns-in-Err-clause-stands : goal.returns-in-Err-clause-stands
returns-in-Err-clause-stands c = λ old new linear ring read took is stands.
    payload-lost c.args.number c.args.flows.now.items ring read old c.args.note.now stands new linear took c.place_for.new.flows.items
    c.args.index.now.entries c.place_for.new.index.entries (inl (search rules, search rules))
