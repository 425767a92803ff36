use Rattle.std.proofs.Common.{rules, ℕ, List, Option, ap, refl}
use Rattle.board_face.specs.declared.views.app.AppView.{AppView}
use Rattle.zc_poll.{specs.{Pouring.{PourStands}, PourTurns.{pour_stage}}, proofs.Waiting.{tells-then}}
use Rattle.zc_poll.proofs.to_shelf.ToShelfFuture.poll.Goals as goal
use Rattle.zr_io.specs.Moved.{ShelfCounts}

pub returns-in-Did-clause-again : goal.returns-in-Did-clause-again
returns-in-Did-clause-again g c =
    let (first, losses, stands) = c.requires in
    let on : (first : ℕ → Option (List ℕ)) × (losses : ShelfCounts) × PourStands first losses c.turn.new.self.tally c.turn.new.self.desk
    (g.T.Shelf.kept c.turn.new.self.shelf) (g.T.Shelf.counts c.turn.new.self.shelf) (g.F.AppFace.seen c.turn.new.self.face) =
    (first, losses, c.in-Did.ensures.gives first losses stands) in
    search rules

pub returns-in-Idle-clause-again : goal.returns-in-Idle-clause-again
returns-in-Idle-clause-again g c =
    let (first, losses, stands) = c.requires in
    let on : (first : ℕ → Option (List ℕ)) × (losses : ShelfCounts) × PourStands first losses c.turn.new.self.tally c.turn.new.self.desk
    (g.T.Shelf.kept c.turn.new.self.shelf) (g.T.Shelf.counts c.turn.new.self.shelf) (g.F.AppFace.seen c.turn.new.self.face) =
    (first, losses, c.in-Idle.ensures.gives first losses stands) in
    search rules

pub returns-in-Ended-clause-value : goal.returns-in-Ended-clause-value
returns-in-Ended-clause-value g c = λ first losses stands. (
  g.T.Shelf.kept c.turn.new.self.shelf,
  g.T.Shelf.counts c.turn.new.self.shelf,
  g.F.AppFace.seen c.turn.new.self.face,
  record {
    was = pour_stage c.args.self.now.tally.due c.args.self.now.desk (g.F.AppFace.seen c.args.self.now.face);
    now = pour_stage c.turn.new.self.tally.due c.turn.new.self.desk (g.F.AppFace.seen c.turn.new.self.face);
    seen = refl;
    tally = c.turn.new.self.tally;
    gives = c.in-Ended.ensures.gives first losses stands;
    does = c.in-Ended.ensures.does;
    left = ap (λ (v : AppView). v.left) c.in-Ended.ensures.does.2;
    same = c.turn.ensures.same;
  },
)

pub returns-in-Did-clause-same : goal.returns-in-Did-clause-same
returns-in-Did-clause-same g c = rw c.yield_now.ensures.pending (λ x.
    tells-then c.args.self.now.tally c.turn.new.self.tally c.args.self.now.desk c.turn.new.self.desk (g.T.Shelf.kept c.args.self.now.shelf)
    (g.T.Shelf.kept c.turn.new.self.shelf) (g.T.Shelf.counts c.args.self.now.shelf) (g.T.Shelf.counts c.turn.new.self.shelf)
    (g.F.AppFace.seen c.args.self.now.face) (g.F.AppFace.seen c.turn.new.self.face) x c.in-Did.ensures.gives c.turn.ensures.same)

pub returns-in-Idle-clause-same : goal.returns-in-Idle-clause-same
returns-in-Idle-clause-same g c = rw c.yield_now-in-Idle.ensures.pending (λ x.
    tells-then c.args.self.now.tally c.turn.new.self.tally c.args.self.now.desk c.turn.new.self.desk (g.T.Shelf.kept c.args.self.now.shelf)
    (g.T.Shelf.kept c.turn.new.self.shelf) (g.T.Shelf.counts c.args.self.now.shelf) (g.T.Shelf.counts c.turn.new.self.shelf)
    (g.F.AppFace.seen c.args.self.now.face) (g.F.AppFace.seen c.turn.new.self.face) x c.in-Idle.ensures.gives c.turn.ensures.same)
