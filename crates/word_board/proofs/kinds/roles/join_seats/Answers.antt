use Rattle.std.proofs.Common.{arith}
use Rattle.word_board.proofs.Dealing.{together}
use Rattle.word_board.proofs.kinds.roles.join_seats.Goals as goal

pub join_seat-requires : goal.join_seat-requires
join_seat-requires c =
    let words = c.args.words.now in (
      c.requires.table,
      c.requires.other,
      c.requires.bare,
      (let wide = words.wide in omega arith),
      together c.seats_join.ensures words.table.shared.key c.args.desk.now.id c.args.other.id c.args.desk.now.me.0 c.args.other.me.0 c.requires.due c.requires.dealt,
    )
