use Rattle.std.proofs.Common.{rules, ◌≡◌, ℕ, refl, sym, subst, vec_capacity}
use Rattle.zc_poll.{specs.{Pouring.{PourStands}, Standing.{Desk}}, proofs.{PourNew.{new-pours}, Untouched.{stands-at-first}}}
use Rattle.flow_queues.specs.{Counting.{TallyState, new_tally}, TallyOf.{tally_state_of}}
use Rattle.zc_poll.proofs.to_shelf.ToShelf.new.Goals as goal

pub returns-clause-stands : goal.returns-clause-stands
returns-clause-stands g c =
    let (app, desk, fresh) = c.requires.fresh in
    let kept = g.T.Shelf.kept c.args.shelf in
    let losses = g.T.Shelf.counts c.args.shelf in
    let v = g.F.AppFace.seen c.args.stream.face in
    let room : ℕ = vec_capacity c.new.result.flows in
    let same : new_tally room ≡ tally_state_of c.new.result = search rules in
    subst (λ (t : TallyState). PourStands kept losses t c.args.stream.desk kept losses v) same
    (subst (λ (d : Desk). PourStands kept losses (new_tally room) d kept losses v) (sym desk)
    (new-pours kept losses room app v fresh (stands-at-first app v fresh _ refl)))
