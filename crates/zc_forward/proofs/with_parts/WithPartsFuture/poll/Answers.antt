use Rattle.std.proofs.Common.{ap, refl, sym}
use Rattle.board_face.specs.declared.views.app.AppView.{AppView}
use Rattle.zc_forward.specs.{Carrying.{carrying}, Sights.{sight_of, stage_at}}
use Rattle.zc_forward.proofs.with_parts.WithPartsFuture.poll.Goals as goal

pub returns-in-Ready-clause-value : goal.returns-in-Ready-clause-value
returns-in-Ready-clause-value g c =
    let seen = carrying g.C.Carrier.got g.C.Carrier.tags g.C.Carrier.counts g.C.Carrier.pace in
    let (face, carrier) = c.parts-face.ensures in
    rw (← c.in-Some.ensures.value, face, carrier) (
      c.poll.ensures.seat.board,
      λ first losses stands. record {
        was = stage_at (sight_of g.F.AppFace.seen seen c.in-Some.work);
        now = stage_at (sight_of g.F.AppFace.seen seen c.poll.new.self);
        seen = refl;
        gives = c.in-Ready.ensures.makes.gives first losses stands;
        does = c.in-Ready.ensures.makes.does;
        left = ap (λ (v : AppView). v.left) c.in-Ready.ensures.makes.does.3;
        same = c.poll.ensures.seat.app;
      },
    )

pub returns-in-Ready-clause-does : goal.returns-in-Ready-clause-does
returns-in-Ready-clause-does g c =
    let (face, carrier) = c.parts-face.ensures in
    rw (← c.in-Some.ensures.value) (
      c.poll.new.self,
      sym face,
      sym carrier,
      record {
        makes = c.in-Ready.ensures.makes;
        asks = c.poll.ensures.asks;
        seat = c.poll.ensures.seat;
      },
    )

pub returns-in-Pending-clause-does : goal.returns-in-Pending-clause-does
returns-in-Pending-clause-does g c = rw (← c.in-Some.ensures.value) (record {
  makes = c.in-Pending.ensures.makes;
  asks = c.poll.ensures.asks;
  seat = c.poll.ensures.seat;
})
