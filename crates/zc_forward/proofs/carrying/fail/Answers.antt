use Rattle.std.proofs.Common.{List, sym, ap, subst}
use Rattle.board_face.specs.declared.views.app.{TakenNote.{TakenNote}, AppView.{AppView}}
use Rattle.zc_poll.specs.{Standing.{Desk}, Items.{HasGiven}}
use Rattle.zc_forward.proofs.carrying.fail.Goals as goal

pub returns-clause-items : goal.returns-clause-items
returns-clause-items g c = λ items given.
    c.stop.ensures.items items
    (subst (λ (d : Desk). HasGiven items d.flows (g.F.AppFace.seen c.give_up.new.stream.face).taken) (sym c.give_up.ensures.stays.desk)
    (subst (λ (ts : List TakenNote). HasGiven items c.args.stream.now.desk.flows ts) (sym (ap (λ (v : AppView). v.taken) c.give_up.ensures.gave_up.view)) given))
