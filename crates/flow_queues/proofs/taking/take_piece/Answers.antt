use Rattle.std.proofs.Common.{rules, ◌<◌, List, length, set, refl, inl, inr}
use Rattle.flow_queues.{specs.{declared.queues.FlowQueue.{FlowQueue}, Core.{held_piece}, Pieces.{whole_piece}, Flows.{IsChosen}}, proofs.Tokens.{in-contains}}
use Rattle.flow_queues.proofs.NoteComes.{piece-stands, piece-lost}
use Rattle.flow_queues.proofs.taking.take_piece.Goals as goal

pub release-requires-clause-out : goal.release-requires-clause-out
release-requires-clause-out g c =
    in-contains (λ h. h.place) (held_piece (whole_piece c.args.number c.args.held)) (g.F.AppFace.seen c.args.face.now).helds c.requires.came.out

pub returns-in-Ok-enter-clause-takes : goal.returns-in-Ok-enter-clause-takes
returns-in-Ok-enter-clause-takes g c =
    let flows : List FlowQueue = c.place_for.new.flows.items in
    let chosen : (c.in-Ok.i < length flows) × IsChosen c.args.flows.now.items flows c.args.note.now c.in-Ok.i = c.in-Ok.ensures.chosen in
    record {
      change = record {
        flows = flows;
        chosen = chosen.1;
        within = chosen.0;
        index_is = c.in-Ok.ensures.index;
        own = c.index_mut.result.now;
        there = c.index_mut.ensures.value;
        queue = c.enter.new.queue;
        is = refl;
        base = c.enter.ensures.same.0;
        popped = c.enter.ensures.same.1;
      };
      some = c.enter.ensures.some;
      all = record { enters = c.in-Ok-enter.ensures.enters; notes = c.enter.ensures.notes };
    }

pub returns-in-Err-clause-takes : goal.returns-in-Err-clause-takes
returns-in-Err-clause-takes g c =
    let flows : List FlowQueue = c.place_for.new.flows.items in
    let chosen : (c.in-Ok.i < length flows) × IsChosen c.args.flows.now.items flows c.args.note.now c.in-Ok.i = c.in-Ok.ensures.chosen in
    inr (record {
      place = c.in-Ok.i;
      change = record {
        flows = flows;
        chosen = chosen.1;
        within = chosen.0;
        index_is = c.in-Ok.ensures.index;
        own = c.index_mut.result.now;
        there = c.index_mut.ensures.value;
        queue = c.enter.new.queue;
        is = refl;
        base = c.enter.ensures.same.0;
        popped = c.enter.ensures.same.1;
      };
      some = c.enter.ensures.some;
    })

pub returns-in_default-clause-stands : goal.returns-in_default-clause-stands
returns-in_default-clause-stands g c = λ old ring read took stands.
    piece-lost c.args.number c.args.flows.now.items ring read old c.args.note.now stands (g.F.AppFace.seen c.args.face.now) c.args.held took
    (g.F.AppFace.seen c.release.new.self) c.place_for.new.flows.items c.args.index.now.entries c.place_for.new.index.entries
    (inl (search rules, search rules, c.release.ensures.view))

pub returns-in-Ok-enter-clause-stands : goal.returns-in-Ok-enter-clause-stands
returns-in-Ok-enter-clause-stands g c = λ old ring read took stands.
    piece-stands c.args.number c.args.flows.now.items ring read old c.args.note.now stands (g.F.AppFace.seen c.args.face.now) c.args.held took
    (g.F.AppFace.seen c.enter.new.face)
    (set c.place_for.new.flows.items c.in-Ok.i (record c.index_mut.result.now { queue = c.enter.new.queue })) c.place_for.new.index.entries c.in-Ok.i
    (returns-in-Ok-enter-clause-takes g c)

pub returns-in-Err-clause-stands : goal.returns-in-Err-clause-stands
returns-in-Err-clause-stands g c = λ old ring read took stands.
    piece-lost c.args.number c.args.flows.now.items ring read old c.args.note.now stands (g.F.AppFace.seen c.args.face.now) c.args.held took
    (g.F.AppFace.seen c.enter.new.face)
    (set c.place_for.new.flows.items c.in-Ok.i (record c.index_mut.result.now { queue = c.enter.new.queue })) c.args.index.now.entries
    c.place_for.new.index.entries (returns-in-Err-clause-takes g c)
