use Rattle.std.proofs.Common.{List, sym, ap, subst}
use Rattle.board_face.specs.declared.views.app.{TakenNote.{TakenNote}, AppView.{AppView}}
use Rattle.zc_poll.specs.{Standing.{Desk}, Items.{HasGiven}}
use Rattle.zc_poll.proofs.pouring.give_up.Goals as goal

pub returns-clause-items : goal.returns-clause-items
returns-clause-items g c = λ items given.
    c.stop.ensures.items items
    (subst (λ (d : Desk). HasGiven items d.flows (g.F.AppFace.seen c.abandon.new.self.face).taken) (sym c.abandon.ensures.stays.desk)
    (subst (λ (ts : List TakenNote). HasGiven items c.args.stream.now.desk.flows ts) (sym (ap (λ (v : AppView). v.taken) c.abandon.ensures.view)) given))
