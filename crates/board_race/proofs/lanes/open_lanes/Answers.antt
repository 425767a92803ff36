-- The new lane is of the next application.
use Rattle.std.proofs.{Common.{sym, arith, refl}, lemmas.List.{length_push, Elements.{All-push}}}
use Rattle.board_race.{specs.Halves.{IsReceiver}, proofs.LaneLists.{AreAt-push}}
use Rattle.board_race.proofs.lanes.open_lanes.Goals as goal

pub loop-app-preserved : goal.loop-app-preserved
loop-app-preserved c =
    let was = c.loop-app.invariant in
    let given = c.in-Some.ensures.given in
    rw (c.in_ok-push.ensures.items, given.1) (
      record {
        many = omega (arith, length_push c.loop-app.lanes.items c.new.result, was.0.many);
        hands = All-push (λ lane. IsReceiver lane.seat.side.view lane.receiver.loan) c.loop-app.lanes.items c.new.result was.0.hands (rw c.new.ensures.seat c.new.ensures.hand);
        at = AreAt-push _ c.loop-app.lanes.items c.new.result was.0.at (rw (c.new.ensures.seat, given.2) refl) (rw (c.new.ensures.seat, given.2) (sym was.0.many));
      },
      was.1,
      was.2,
      was.3,
    )
