-- One application more.
use Rattle.std.proofs.Common.{refl, add-one, zero-add}
use Rattle.board_parts.proofs.NewApps.{new_apps-push}
use Rattle.board_parts.proofs.diary.diaries.Goals as goal

pub loop-app-preserved : goal.loop-app-preserved
loop-app-preserved c = rw (c.in_ok-push.ensures.items, c.loop-app.invariant, add-one, new_apps-push, zero-add, c.note.ensures) refl
