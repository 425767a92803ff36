use Rattle.std.proofs.Common.{◌≡◌, ℕ, [], sym, ap, subst, ◌∙◌, append-nil, take, ◌-◌}
use Rattle.zr_kinds.specs.declared.place.Place.{Place}
use Rattle.board_face.specs.declared.views.app.{LentPiece.{LentPiece}, AppView.{AppView}}
use Rattle.flow_queues.specs.Core.{total}
use Rattle.zc_forward.{specs.{Sending.{of_sent}, GivenUp.{GaveUp}}, proofs.Live.{has-out, last-out, last-gone, no-loans, one-given-up}}
use Rattle.zc_forward.proofs.carrying.give_up.Goals as goal

pub abandon-requires : goal.abandon-requires
abandon-requires g c =
    let v : AppView = g.F.AppFace.seen c.loop-sent.stream.face in
    record {
      holds = record {
        stands = c.loop-sent.invariant.0;
        out = has-out v c.in-Some.sent.loan
            (last-out v.loans c.loop-sent.out.items c.pop.new.self.items c.in-Some.sent c.in-Some.ensures.items c.loop-sent.invariant.3);
      };
    }

pub loop-sent-preserved : goal.loop-sent-preserved
loop-sent-preserved g c =
    let v : AppView = g.F.AppFace.seen c.loop-sent.stream.face in
    let z : AppView = g.F.AppFace.seen c.abandon.new.self.face in
    let inv = c.loop-sent.invariant in
    let out = last-out v.loans c.loop-sent.out.items c.pop.new.self.items c.in-Some.sent c.in-Some.ensures.items inv.3 in (
      c.abandon.ensures.stays.stands,
      c.abandon.ensures.stays.desk ∙ inv.1,
      subst (GaveUp (g.F.AppFace.seen c.args.stream.now.face)) (sym c.abandon.ensures.view)
          (one-given-up (g.F.AppFace.seen c.args.stream.now.face) v inv.2 inv.0.common.apart c.in-Some.sent.loan out),
      subst (λ (k : AppView). (f : Place → ℕ) → total (λ (p : LentPiece). f p.place) k.loans ≡ of_sent f c.pop.new.self.items) (sym c.abandon.ensures.view)
          (last-gone v inv.0.common.apart c.loop-sent.out.items c.pop.new.self.items c.in-Some.sent c.in-Some.ensures.items inv.3),
      c.abandon.ensures.beside ∙ inv.4,
    )

pub returns-clause-none : goal.returns-clause-none
returns-clause-none g c =
    let popped = c.in_default.ensures in
    let after : c.pop.new.self.items ≡ [] = popped.rest ∙ ap (λ n. take (n - 1) c.loop-sent.out.items) popped.cases.0 in
    let before : c.loop-sent.out.items ≡ [] = popped.items ∙ append-nil c.pop.new.self.items ∙ after in (
      no-loans (g.F.AppFace.seen c.loop-sent.stream.face).loans (c.loop-sent.invariant.3 (λ _. 1) ∙ ap (of_sent (λ _. 1)) before),
      after,
    )
