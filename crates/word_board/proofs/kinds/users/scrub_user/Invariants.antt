-- The side after the step, by the number that it found.
use Rattle.board_face.specs.Steps.{side_user_taken}
use Rattle.ref_words.specs.Seated.{app_seat_view}
use Rattle.word_board.proofs.kinds.users.scrub_user.Given as goal

abbrev pub ghosts-step : goal.ghosts-step
ghosts-step a = record { after = λ n. app_seat_view (side_user_taken a.self.now.side a._about n); told = λ _. Unit {0} }
