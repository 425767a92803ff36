use Rattle.std.{proofs.Common.{rules, ◌≡◌, sym, subst}, specs.Prelude.{None}}
use Rattle.zc_poll.specs.{Pouring.{PourStands}, PourTurns.{PourTurnDoes, pour_stage}}
use Rattle.flow_queues.specs.{Counting.{TallyState}, TallyOf.{tally_state_of}}
use Rattle.zc_poll.proofs.to_shelf.take_turn.Goals as goal

pub returns-then-has_ended-clause-does : goal.returns-then-has_ended-clause-does
returns-then-has_ended-clause-does g c =
    let stands = c.requires.stands in
    let none : c.args.work.now.due ≡ None = search rules in
    let same : record (tally_state_of c.args.work.now) { due = c.take.new.self } ≡ tally_state_of c.args.work.now = search rules in
    let was = c.args.stream.now in
    let now = c.close.new.stream in
    subst (λ d. PourTurnDoes (pour_stage d was.desk (g.F.AppFace.seen was.face)) (pour_stage c.close.new.work.due now.desk (g.F.AppFace.seen now.face)) c.close.result)
    (sym none)
    (subst (λ d. PourTurnDoes (pour_stage None was.desk (g.F.AppFace.seen was.face)) (pour_stage d now.desk (g.F.AppFace.seen now.face)) c.close.result)
    (sym c.close.ensures.due)
    (c.close.ensures.does stands.0 (g.T.Shelf.kept c.args.shelf.now) stands.1 (g.T.Shelf.counts c.args.shelf.now)
    (subst (λ (t : TallyState). PourStands stands.0 stands.1 t c.args.stream.now.desk (g.T.Shelf.kept c.args.shelf.now) (g.T.Shelf.counts c.args.shelf.now)
    (g.F.AppFace.seen c.args.stream.now.face)) (sym same) stands.2)))
