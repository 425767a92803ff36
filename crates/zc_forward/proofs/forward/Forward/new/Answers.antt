use Rattle.std.{proofs.Common.{rules, ◌≡◌, ℕ, true, false, sym, subst, refl, vec_capacity}, specs.Prelude.{None}}
use Rattle.zc_poll.{specs.Standing.{Desk}, proofs.{PourNew.{new-pours}, Untouched.{stands-at-first}}}
use Rattle.zc_forward.{specs.{Sending.{OutboxState, new_outbox}, Forwarding.{ForwardStands}, OutboxOf.{outbox_of}}, proofs.Ends.{waits-forwards}}
use Rattle.zc_forward.proofs.forward.Forward.new.Goals as goal

pub returns-clause-stands : goal.returns-clause-stands
returns-clause-stands g c =
    let (app, desk, fresh) = c.requires.fresh in
    let got = g.C.Carrier.got c.args.carrier in
    let losses = g.C.Carrier.counts c.args.carrier in
    let tags = g.C.Carrier.tags c.args.carrier in
    let v = g.F.AppFace.seen c.args.stream.face in
    let room : ℕ = vec_capacity c.new.result.flows in
    let empty : OutboxState = new_outbox room in
    let same : empty ≡ outbox_of (record { tally = c.new.result; out = c.new-2.result; uncarried = None; pressed = false }) = search rules in
    subst (λ (o : OutboxState). ForwardStands got losses o c.args.stream.desk tags got losses v) same
    (subst (λ (d : Desk). ForwardStands got losses empty d tags got losses v) (sym desk)
    (waits-forwards got got losses losses empty _ tags v
    (new-pours got losses room app v fresh (stands-at-first app v fresh _ refl)) refl c.requires.none refl refl
    (λ ended. (let e : false ≡ true = ended in absurd (cc)))))
