use Rattle.std.proofs.Common.{subst, sym}
use Rattle.atomic_table.specs.Table.{Splits}
use Rattle.ref_words.specs.Seated.{dealt_out, due_view}
use Rattle.word_board.{specs.Board.{IsBoard}, proofs.Dealing.{deals}}
use Rattle.word_board.proofs.kinds.roles.deal_role.Goals as goal

pub deal_as-requires-clause-splits : goal.deal_as-requires-clause-splits
deal_as-requires-clause-splits c =
    let desk = c.args.desk.now in
    let setting = c.args.words.now.table.shared.key in
    subst (λ id. Splits (IsBoard setting) id desk.me.0 (dealt_out c.args.role desk.me.0) (due_view c.args.role)) (sym c.requires.first)
    (deals c.role_is_dealt.ensures setting c.args.role desk.me.0 c.requires.fresh)
