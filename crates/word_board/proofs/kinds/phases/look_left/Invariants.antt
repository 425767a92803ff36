-- The side after the step, by the number that it found.
use Rattle.std.specs.Prelude.{◌==◌, ◌≡◌, false}
use Rattle.ref_words.specs.{PhaseSteps.{side_leave_looked}, Seated.{card_seat_view}}
use Rattle.board_face.specs.NicEvents.{nic_gist}
use Rattle.word_board.specs.Told.{SawNotLeft}
use Rattle.word_board.proofs.kinds.phases.look_left.Given as goal

abbrev pub ghosts-step : goal.ghosts-step
ghosts-step a = record { after = λ n. card_seat_view (side_leave_looked a.self.now.side a._about (n == 1)); told = λ n. (n == 1) ≡ false → SawNotLeft a.self.now.board.setting (nic_gist a.self.now.side.view) a._about }
