use Rattle.word_board.proofs.RolesBack.{uncounted-there}
use Rattle.word_board.proofs.finish.counts_are_over.Goals as goal

pub returns : goal.returns
returns c = λ s board at. uncounted-there c.what_is_over.ensures c.args.setting.now s board 0 c.args.desk.now.me.0 at c.requires.over c.requires.all
