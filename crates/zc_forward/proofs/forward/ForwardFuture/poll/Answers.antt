use Rattle.std.proofs.Common.{rules, ℕ, List, Option, inl, inr, ap, refl}
use Rattle.board_face.specs.declared.views.app.AppView.{AppView}
use Rattle.zc_forward.{specs.{Turns.{stage_of}, Forwarding.{ForwardStands}}, proofs.Waiting.{tells-then}}
use Rattle.zc_forward.proofs.forward.ForwardFuture.poll.Goals as goal
use Rattle.zr_io.specs.Moved.{ShelfCounts}

pub returns-in-Did-clause-again : goal.returns-in-Did-clause-again
returns-in-Did-clause-again g c =
    let (first, losses, stands) = c.requires in
    let on : (first : ℕ → Option (List ℕ)) × (losses : ShelfCounts) × ForwardStands first losses c.poll_turn.new.self.work c.poll_turn.new.self.desk
    (g.C.Carrier.tags c.poll_turn.new.self.carrier) (g.C.Carrier.got c.poll_turn.new.self.carrier) (g.C.Carrier.counts c.poll_turn.new.self.carrier)
    (g.F.AppFace.seen c.poll_turn.new.self.face) =
    (first, losses, c.in-Did.ensures.makes.gives first losses stands) in
    search rules

pub returns-in-Idle-clause-again : goal.returns-in-Idle-clause-again
returns-in-Idle-clause-again g c =
    let (first, losses, stands) = c.requires in
    let on : (first : ℕ → Option (List ℕ)) × (losses : ShelfCounts) × ForwardStands first losses c.poll_turn.new.self.work c.poll_turn.new.self.desk
    (g.C.Carrier.tags c.poll_turn.new.self.carrier) (g.C.Carrier.got c.poll_turn.new.self.carrier) (g.C.Carrier.counts c.poll_turn.new.self.carrier)
    (g.F.AppFace.seen c.poll_turn.new.self.face) =
    (first, losses, c.in-Idle.ensures.makes.gives first losses stands) in
    search rules

pub returns-in-Did-clause-makes : goal.returns-in-Did-clause-makes
returns-in-Did-clause-makes g c = record {
  gives = rw c.yield_now.ensures.pending c.in-Did.ensures.makes.gives;
  does = rw c.yield_now.ensures.pending (inl c.in-Did.ensures.makes.does);
  scrubs = c.poll_turn.ensures.makes.scrubs;
}

pub returns-in-Idle-clause-makes : goal.returns-in-Idle-clause-makes
returns-in-Idle-clause-makes g c = record {
  gives = rw c.yield_now-in-Idle.ensures.pending c.in-Idle.ensures.makes.gives;
  does = rw c.yield_now-in-Idle.ensures.pending (inr (_, c.in-Idle.ensures.makes.does, c.in-Idle.ensures.makes.told));
  scrubs = c.poll_turn.ensures.makes.scrubs;
}

pub returns-in-Did-clause-same : goal.returns-in-Did-clause-same
returns-in-Did-clause-same g c =
    let was = c.args.self.now in
    let now = c.poll_turn.new.self in
    rw c.yield_now.ensures.pending (λ x.
    tells-then was.work now.work was.desk now.desk (g.C.Carrier.tags was.carrier) (g.C.Carrier.tags now.carrier) (g.C.Carrier.got was.carrier)
    (g.C.Carrier.got now.carrier) (g.C.Carrier.counts was.carrier) (g.C.Carrier.counts now.carrier) (g.F.AppFace.seen was.face) (g.F.AppFace.seen now.face) x
    c.in-Did.ensures.makes.gives c.poll_turn.ensures.seat.app)

pub returns-in-Idle-clause-same : goal.returns-in-Idle-clause-same
returns-in-Idle-clause-same g c =
    let was = c.args.self.now in
    let now = c.poll_turn.new.self in
    rw c.yield_now-in-Idle.ensures.pending (λ x.
    tells-then was.work now.work was.desk now.desk (g.C.Carrier.tags was.carrier) (g.C.Carrier.tags now.carrier) (g.C.Carrier.got was.carrier)
    (g.C.Carrier.got now.carrier) (g.C.Carrier.counts was.carrier) (g.C.Carrier.counts now.carrier) (g.F.AppFace.seen was.face) (g.F.AppFace.seen now.face) x
    c.in-Idle.ensures.makes.gives c.poll_turn.ensures.seat.app)

pub returns-in-Ended-clause-value : goal.returns-in-Ended-clause-value
returns-in-Ended-clause-value g c = λ first losses stands. (
  g.C.Carrier.got c.poll_turn.new.self.carrier,
  g.C.Carrier.counts c.poll_turn.new.self.carrier,
  g.F.AppFace.seen c.poll_turn.new.self.face,
  record {
    was = stage_of c.args.self.now.work c.args.self.now.desk (g.C.Carrier.tags c.args.self.now.carrier) (g.C.Carrier.pace c.args.self.now.carrier) (g.F.AppFace.seen c.args.self.now.face);
    now = stage_of c.poll_turn.new.self.work c.poll_turn.new.self.desk (g.C.Carrier.tags c.poll_turn.new.self.carrier) (g.C.Carrier.pace c.poll_turn.new.self.carrier) (g.F.AppFace.seen c.poll_turn.new.self.face);
    seen = refl;
    gives = c.in-Ended.ensures.makes.gives first losses stands;
    does = c.in-Ended.ensures.makes.does;
    left = ap (λ (v : AppView). v.left) c.in-Ended.ensures.makes.does.3;
    same = c.poll_turn.ensures.seat.app;
  },
)
