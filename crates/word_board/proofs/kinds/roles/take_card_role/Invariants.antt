use Rattle.std.specs.Prelude.{◌≡◌}
use Rattle.board_face.specs.Opened.{new_nic}
use Rattle.ref_words.specs.Seated.{card_seat_view}
use Rattle.word_board.proofs.kinds.roles.take_card_role.Given as goal

abbrev pub ghosts-step_as : goal.ghosts-step_as
ghosts-step_as a = record { after = λ _. card_seat_view (new_nic a.words.now.shared.key); told = λ n. n ≡ 0 }
