use Rattle.std.proofs.Common.{ap, subst, sym, ◌∙◌}
use Rattle.word_board.specs.{Board.{TheBoard, TheDesk}, Desk.{AllAreBack, CountsAreOver}}
use Rattle.word_board.proofs.board.WordBoard.uncounted.Goals as goal

pub counts_are_over-requires-clause-all : goal.counts_are_over-requires-clause-all
counts_are_over-requires-clause-all c =
    let setting = ap (λ (d : TheDesk). d.board.setting) c.desk.view_is ∙ ap (λ (b : TheBoard). b.setting) c.requires.desk in
    let view = ap (λ (d : TheDesk). d.view) c.desk.view_is in
    subst (λ s. AllAreBack s c.desk.inside.seat.me.0) (sym setting) (subst (AllAreBack c.args.self.now.setting) (sym view) c.requires.back)

pub returns : goal.returns
returns c =
    let setting = ap (λ (d : TheDesk). d.board.setting) c.desk.view_is ∙ ap (λ (b : TheBoard). b.setting) c.requires.desk in
    let view = ap (λ (d : TheDesk). d.view) c.desk.view_is in
    subst (λ s. CountsAreOver s c.args.desk.now.view) setting (subst (CountsAreOver c.desk.inside.setting) view c.counts_are_over.ensures)
