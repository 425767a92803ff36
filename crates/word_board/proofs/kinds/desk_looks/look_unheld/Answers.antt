use Rattle.std.{proofs.Common.{◌≡◌, ℕ, ◌≤◌, nat_eq, subst}, specs.Prelude.{count_by}}
use Rattle.area_layout.specs.Layout.{pool_buffers}
use Rattle.word_board.{specs.{Board.{card_of_seat}, Desk.{AllAreBack, AreServed, HasNoHolders}}, proofs.RolesBack.{lesson, unheld-there, reserves-there, served-there}}
use Rattle.word_board.proofs.kinds.desk_looks.look_unheld.Goals as goal

pub step_as-requires-clause-allows : goal.step_as-requires-clause-allows
step_as-requires-clause-allows c =
    let words = c.args.words.now in
    let setting = words.table.shared.key in
    let desk = c.args.desk.now in
    let law = c.what_is_over.ensures in
    let all = subst (λ s. AllAreBack s desk.me.0) words.keyed c.requires.all in
    lesson setting words.table.shared.table_id.slots desk.id c.role-word.result
    (λ _. HasNoHolders desk.me.0
    × ((b : ℕ) → pool_buffers setting.layout ≤ b → count_by (nat_eq b) (card_of_seat desk.me.0).view.cache ≡ 0)
    × AreServed desk.me.0) desk.me
    (λ s board at. (
      unheld-there law setting s board desk.id desk.me.0 at c.requires.over all,
      reserves-there law setting s board desk.id desk.me.0 at c.requires.over all,
      served-there law setting s board desk.id desk.me.0 at c.requires.over,
    ))

pub returns-clause-same : goal.returns-clause-same
returns-clause-same c =
    let did = c.step_as.ensures in record { table = did.table; number = did.number; me = did.me }

pub returns-clause-holders : goal.returns-clause-holders
returns-clause-holders c = c.step_as.ensures.told.0

pub returns-clause-reserves : goal.returns-clause-reserves
returns-clause-reserves c = λ b past. c.step_as.ensures.told.1 b (subst (λ s. pool_buffers s.layout ≤ b) c.args.words.now.keyed past)

pub returns-clause-served : goal.returns-clause-served
returns-clause-served c = c.step_as.ensures.told.2
