-- The side after the step, by the number that it found.
use Rattle.std.specs.Prelude.{◌+◌, ◌^◌, ◌<◌}
use Rattle.board_face.specs.{Returns.{loans_out}, AppEvents.{lent}, Sides.{app_at}}
use Rattle.ref_words.specs.Seated.{app_seat_view}
use Rattle.word_board.proofs.kinds.users.lend_held.Given as goal

abbrev pub ghosts-step : goal.ghosts-step
ghosts-step a = record { after = λ _. app_seat_view (app_at a.self.now.side (lent a.self.now.side.view a._about)); told = λ _. loans_out a._about.buffer a.self.now.side + 1 < 2 ^ 64 }
