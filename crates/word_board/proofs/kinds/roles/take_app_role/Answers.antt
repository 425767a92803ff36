use Rattle.std.proofs.Common.{◌+◌, ◌<◌, [], ap, sym, ◌∙◌, subst, arith}
use Rattle.board_face.specs.{NicCalls.{apps_of}, Opened.{new_app}}
use Rattle.ref_words.specs.{Words.{role_at}, Seated.{app_seat_view}}
use Rattle.word_board.proofs.Dealing.{takes}
use Rattle.word_board.proofs.kinds.roles.take_app_role.Goals as goal

pub step_as-requires-clause-allows : goal.step_as-requires-clause-allows
step_as-requires-clause-allows c =
    let words = c.args.words.now in
    let setting = words.table.shared.key in
    let inside : c.args.app < apps_of setting = subst (λ s. c.args.app < apps_of s) words.keyed c.requires.app in
    takes setting words.table.shared.table_id.slots c.args.seat.now.id c.role-word.result (1 + c.args.app) (app_seat_view (new_app setting c.args.app))
    (c.role-word.ensures.value ∙ ap (λ s. role_at s (1 + c.args.app)) words.keyed) (omega (arith, inside))
    (λ ws views nic apps seated rule at. c.role_is_taken.ensures.app setting ws views nic apps c.args.seat.now.id c.args.app seated rule at inside)
    c.args.seat.now.me c.requires.due

pub returns-clause-me : goal.returns-clause-me
returns-clause-me c =
    c.step_as.ensures.me ∙ (ap (λ xs. (app_seat_view (new_app c.args.words.now.table.shared.key c.args.app), xs)) (ap (λ me. me.1) c.requires.due)
    ∙ ap (λ s. (app_seat_view (new_app s c.args.app), [])) (sym c.args.words.now.keyed))
