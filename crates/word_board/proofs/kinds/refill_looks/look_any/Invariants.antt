-- The side after the step, by the number that it found.
use Rattle.std.specs.Prelude.{◌==◌, ◌≡◌, false}
use Rattle.ref_words.specs.{RestSteps.{side_any_looked}, Seated.{app_seat_view}}
use Rattle.board_face.specs.AppEvents.{app_gist}
use Rattle.word_board.specs.Told.{IsOneInUse, IsToldToApp}
use Rattle.word_board.proofs.kinds.refill_looks.look_any.Given as goal

abbrev pub ghosts-step : goal.ghosts-step
ghosts-step a = record { after = λ n. app_seat_view (side_any_looked a.self.now.side a._about (n == 0)); told = λ n. (n == 0) ≡ false → IsToldToApp a.self.now.board.setting (app_gist a.self.now.side.view) (IsOneInUse a.self.now.board.setting) }
