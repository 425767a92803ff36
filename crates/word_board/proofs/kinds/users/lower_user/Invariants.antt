-- The side after the step, by the number that it found.
use Rattle.board_face.specs.Steps.{side_user_lowered}
use Rattle.ref_words.specs.Seated.{card_seat_view}
use Rattle.word_board.proofs.kinds.users.lower_user.Given as goal

abbrev pub ghosts-step : goal.ghosts-step
ghosts-step a = record { after = λ _. card_seat_view (side_user_lowered a.self.now.side a._about.0 a._about.1 a._about.2); told = λ _. Unit {0} }
