use Rattle.zc_forward.{proofs.Fronts.{all-out, front-of}, specs.Sending.{of_sent}}
use Rattle.zc_forward.proofs.laws.forward_law.Goals as goal
use Rattle.std.proofs.Common.{◌≡◌, length, arith}
use Rattle.zc_poll.proofs.Views.{total-one}

pub returns-clause-fronts : goal.returns-clause-fronts
returns-clause-fronts g c = λ first losses before whole.
    front-of first (g.C.Carrier.got c.args.forward.now.carrier) losses (g.C.Carrier.counts c.args.forward.now.carrier) c.args.forward.now.work c.args.forward.now.desk
    (g.C.Carrier.tags c.args.forward.now.carrier) (g.F.AppFace.seen c.args.forward.now.face) before whole

pub returns-clause-live : goal.returns-clause-live
returns-clause-live g c = λ first losses before.
    (before.sent, all-out c.args.forward.now.work (g.F.AppFace.seen c.args.forward.now.face) before.loans c.args.forward.now.work.out (λ s there. there))

pub returns-clause-few : goal.returns-clause-few
returns-clause-few g c = λ first losses before.
    let sent : of_sent (λ _. 1) c.args.forward.now.work.out ≡ length c.args.forward.now.work.out = total-one c.args.forward.now.work.out in
    omega (arith, before.few, before.loans (λ _. 1), sent, total-one (g.F.AppFace.seen c.args.forward.now.face).loans)
