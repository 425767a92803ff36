use Rattle.std.proofs.Common.{[], ap, sym, ◌∙◌, arith}
use Rattle.board_face.specs.Opened.{new_nic}
use Rattle.ref_words.specs.{Words.{role_at}, Seated.{card_seat_view}}
use Rattle.word_board.proofs.Dealing.{takes}
use Rattle.word_board.proofs.kinds.roles.take_card_role.Goals as goal

pub step_as-requires-clause-allows : goal.step_as-requires-clause-allows
step_as-requires-clause-allows c =
    let words = c.args.words.now in
    let setting = words.table.shared.key in
    takes setting words.table.shared.table_id.slots c.args.seat.now.id c.role-word.result 0 (card_seat_view (new_nic setting))
    (c.role-word.ensures.value ∙ ap (λ s. role_at s 0) words.keyed) (omega arith)
    (λ ws views nic apps seated rule at. c.role_is_taken.ensures.card setting ws views nic apps c.args.seat.now.id seated rule at)
    c.args.seat.now.me c.requires.due

pub returns-clause-me : goal.returns-clause-me
returns-clause-me c =
    c.step_as.ensures.me ∙ (ap (λ xs. (card_seat_view (new_nic c.args.words.now.table.shared.key), xs)) (ap (λ me. me.1) c.requires.due)
    ∙ ap (λ s. (card_seat_view (new_nic s), [])) (sym c.args.words.now.keyed))
