use Rattle.std.proofs.Common.{sym, subst, ap, arith}
use Rattle.board_face.specs.{Steps.{HasSearched}, NicCalls.{free_words_of}, declared.views.parts.Setting.{Setting}}
use Rattle.word_board.specs.Board.{TheApp}
use Rattle.area_layout.specs.Layout.{pool_buffers}
use Rattle.word_board.proofs.kinds.spares.take_spare.Goals as goal

pub take_reserve-requires-clause-searched : goal.take_reserve-requires-clause-searched
take_reserve-requires-clause-searched c =
    subst (λ (me : TheApp). HasSearched me.side) (sym c.if-not-look_reserve.ensures.event)
    (record { words = c.in_default.ensures.event.searched.words })

pub returns-clause-told : goal.returns-clause-told
returns-clause-told c =
    let set = ap (λ (s : Setting). pool_buffers s.layout) c.requires.bare.set in record {
      word = free_words_of c.args.app.now.board.setting;
      before = c.in_default.ensures.told;
      there = λ inside. absurd (omega (arith, inside, c.requires.reserve.own, set));
      nowhere = λ _. omega arith;
    }
