use Rattle.std.proofs.Common.{ap, refl}
use Rattle.board_face.specs.declared.views.app.AppView.{AppView}
use Rattle.zc_poll.specs.PourTurns.{pour_stage_at}
use Rattle.zc_poll.proofs.with_parts.WithPartsFuture.poll.Goals as goal

pub returns-in-Ready-clause-value : goal.returns-in-Ready-clause-value
returns-in-Ready-clause-value g c =
    let (face, shelf) = c.parts-face.ensures in
    rw (← c.in-Some.ensures.value, face, shelf) (
      c.poll.ensures.beside,
      λ first losses stands. record {
        was = pour_stage_at g.F.AppFace.seen c.in-Some.work;
        now = pour_stage_at g.F.AppFace.seen c.poll.new.self;
        seen = refl;
        tally = c.poll.new.self.tally;
        gives = c.in-Ready.ensures.gives first losses stands;
        does = c.in-Ready.ensures.does;
        left = ap (λ (v : AppView). v.left) c.in-Ready.ensures.does.2;
        same = c.poll.ensures.app;
      },
    )

pub returns-in-Pending-clause-does : goal.returns-in-Pending-clause-does
returns-in-Pending-clause-does g c = rw (← c.in-Some.ensures.value) (record {
  stands = c.in-Pending.ensures.gives;
  does = c.in-Pending.ensures.does;
  scrubs = c.poll.ensures.scrubs;
  same = c.poll.ensures.app;
  board = c.poll.ensures.beside;
})
