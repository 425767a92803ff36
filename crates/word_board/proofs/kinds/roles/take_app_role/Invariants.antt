use Rattle.std.specs.Prelude.{◌≡◌}
use Rattle.board_face.specs.Opened.{new_app}
use Rattle.ref_words.specs.Seated.{app_seat_view}
use Rattle.word_board.proofs.kinds.roles.take_app_role.Given as goal

abbrev pub ghosts-step_as : goal.ghosts-step_as
ghosts-step_as a = record { after = λ _. app_seat_view (new_app a.words.now.shared.key a._about); told = λ n. n ≡ 0 }
