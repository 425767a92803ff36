use Rattle.std.proofs.Common.{sym, subst, ⊎_elim}
use Rattle.board_face.specs.AppCalls.{HasPlace}
use Rattle.word_board.proofs.AppKept.{held-lies, loan-lies}
use Rattle.word_board.proofs.app_seat.AppSeatAppFace.off.Goals as goal

pub off_of-requires : goal.off_of-requires
off_of-requires c =
    let mine = c.self.inside.app.side in
    let setting = c.map.ensures in
    let out = subst (λ s. HasPlace s.side.view c.args.p.now) (sym c.self.view_is) c.requires in
    rw (c.layout.ensures.value, setting)
    (⊎_elim (held-lies c.self.inside.app.board.setting mine c.args.p.now c.self.invariant.lies)
    (loan-lies c.self.inside.app.board.setting mine c.args.p.now c.self.invariant.lies) out)
