-- The side after the step, by the number that it found.
use Rattle.std.specs.Prelude.{◌≡◌, ◌==◌, true, false}
use Rattle.ref_words.specs.{PhaseSteps.{side_end_looked}, Seated.{app_seat_view}}
use Rattle.board_face.specs.AppEvents.{app_gist}
use Rattle.word_board.specs.Told.{SawNotEnded}
use Rattle.word_board.proofs.kinds.phases.look_end.Given as goal

abbrev pub ghosts-step : goal.ghosts-step
ghosts-step a = record {
  after = λ n. app_seat_view (side_end_looked a.self.now.side (n == 1));
  told = λ n. (a.self.now.side.inside.end_seen ≡ true → n ≡ 1) × (a.self.now.side.view.ended ≡ true → n ≡ 1)
      × ((n == 1) ≡ false → SawNotEnded a.self.now.board.setting (app_gist a.self.now.side.view));
}
