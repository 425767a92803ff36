use Rattle.std.proofs.Common.{◌≤◌, length, subst, sym}
use Rattle.word_board.{specs.Desk.{AreOfBoard, AreServed}, proofs.RolesBack.{lesson, one-card, served-there, known-there}}
use Rattle.word_board.proofs.kinds.desk_looks.look_served.Goals as goal

pub step_as-requires-clause-allows : goal.step_as-requires-clause-allows
step_as-requires-clause-allows c =
    let words = c.args.words.now in
    let setting = words.table.shared.key in
    let desk = c.args.desk.now in
    let law = c.what_is_over.ensures in
    lesson setting words.table.shared.table_id.slots desk.id c.role-word.result
    (λ _. (length desk.me.0.nics ≤ 1) × AreServed desk.me.0 × AreOfBoard setting desk.me.0) desk.me
    (λ s board at. (
      one-card law setting s board desk.id desk.me.0 at c.requires.over,
      served-there law setting s board desk.id desk.me.0 at c.requires.over,
      known-there law setting s board desk.id desk.me.0 at c.requires.over,
    ))

pub returns-clause-same : goal.returns-clause-same
returns-clause-same c =
    let did = c.step_as.ensures in record { table = did.table; number = did.number; me = did.me }

pub returns-clause-one : goal.returns-clause-one
returns-clause-one c = c.step_as.ensures.told.0

pub returns-clause-served : goal.returns-clause-served
returns-clause-served c = c.step_as.ensures.told.1

pub returns-clause-known : goal.returns-clause-known
returns-clause-known c = subst (λ s. AreOfBoard s c.args.desk.now.me.0) (sym c.args.words.now.keyed) c.step_as.ensures.told.2
