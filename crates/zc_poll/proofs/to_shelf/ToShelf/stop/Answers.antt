use Rattle.std.proofs.Common.{rules, ◌≡◌, ◌∙◌, [], length, ap, subst}
use Rattle.zr_kinds.specs.declared.behaviour.Stopped.TheVariants as stop
use Rattle.board_face.specs.{declared.views.app.AppView.{AppView}}
use Rattle.flow_queues.specs.{Ends.{AppEnd}, Counting.{with_bytes, quit_by}, TallyOf.{tally_state_of}}
use Rattle.zc_poll.specs.{Pouring.{PourStands}, PourTurns.{pour_end}, Standing.{Desk}, Stops.{HasStopped, without_loan}}
use Rattle.zc_poll.proofs.Stopping.{due-gone, due-out, none-then, quit-some, quit-write, stopped-pours, then-released}
use Rattle.zc_poll.proofs.to_shelf.ToShelf.stop.Goals as goal

pub abandon_kept-requires-clause-out : goal.abandon_kept-requires-clause-out
abandon_kept-requires-clause-out g c =
    let (first, losses, before) = rw (← c.self.view_is) at c.requires.stands in
    due-out c.self.inside.work.due (g.F.AppFace.seen c.self.inside.stream.face) before.due

pub returns-clause-still : goal.returns-clause-still
returns-clause-still g c =
    let (first, losses, before) = rw (← c.self.view_is) at c.requires.stands in
    let v : AppView = g.F.AppFace.seen c.self.inside.stream.face in
    let gone = due-gone c.self.inside.work.due v before.due before.stands.common.apart in (
      c.stop.ensures.stays.stands,
      ap (λ (d : Desk). d.stopped) c.stop.ensures.stays.desk,
      none-then c.self.inside.work.due v (g.F.AppFace.seen c.abandon_kept.new.self.face) (g.F.AppFace.seen c.stop.new.self.face) gone c.abandon_kept.ensures.view
          c.stop.ensures.view,
    )

pub returns-clause-stops : goal.returns-clause-stops
returns-clause-stops g c =
    let w = tally_state_of c.self.inside.work in
    let v : AppView = g.F.AppFace.seen c.self.inside.stream.face in
    let z : AppView = g.F.AppFace.seen c.stop.new.self.face in
    let end : AppEnd = pour_end c.of_tally-poured.result in
    let same : record { written = w.written; loans = w.loans; copied = w.copied; stopped = quit_by w.stopped; flows = with_bytes w.counts } ≡ end = search rules in
    let same_view : z ≡ record (without_loan c.self.inside.work.due v) { helds = [] } =
    then-released c.self.inside.work.due v (g.F.AppFace.seen c.abandon_kept.new.self.face) z c.abandon_kept.ensures.view c.stop.ensures.view in
    rw (← c.self.view_is) (λ first losses (before : PourStands first losses w c.self.inside.stream.desk (g.T.Shelf.kept c.self.inside.shelf)
    (g.T.Shelf.counts c.self.inside.shelf) v).
    let gone = due-gone c.self.inside.work.due v before.due before.stands.common.apart in
    subst (HasStopped first (g.T.Shelf.kept c.self.inside.shelf) z) same
    (stopped-pours (w.stopped ≡ stop.Write) first (g.T.Shelf.kept c.self.inside.shelf) w c.self.inside.stream.desk v before.items before.torn before.missing
    before.poured before.stands.common.found z (quit_by w.stopped) (quit-some w.stopped) (quit-write w.stopped)
    (record {
      loans = ap (λ (y : AppView). y.loans) same_view ∙ gone.loans;
      many = ap (λ (y : AppView). length y.returned) same_view ∙ gone.many;
      taken = ap (λ (y : AppView). y.taken) same_view ∙ gone.taken;
      reads = ap (λ (y : AppView). y.reads) same_view ∙ gone.reads;
      spares = ap (λ (y : AppView). y.spares) same_view ∙ gone.spares;
    })
    (ap (λ (y : AppView). y.helds) same_view)))
