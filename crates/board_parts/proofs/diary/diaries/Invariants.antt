-- The diaries so far are those of the first applications.
use Rattle.std.proofs.Common.{◌≡◌}
use Rattle.board_face.specs.Opened.{new_app}
use Rattle.board_parts.specs.Opened.{new_apps}
use Rattle.board_parts.proofs.diary.diaries.Given as goal

abbrev pub ghosts-note : goal.ghosts-note
ghosts-note a = record { next = new_app (record { layout = a._about.0; places = a._about.1 }) a._about.2 }

abbrev pub invariant-loop-app : goal.invariant-loop-app
invariant-loop-app l = l.diaries.items ≡ new_apps (record { layout = l.layout; places = l.places }) 0 l.app
