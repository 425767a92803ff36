-- The side after the step, by the number that it found.
use Rattle.std.specs.{Prelude.{◌≡◌, ◌/◌, ◌%◌, ◌<◌, ◌==◌, false}, Int.{bit_at}}
use Rattle.area_layout.specs.Layout.{pool_buffers}
use Rattle.board_face.specs.{NicEvents.{word_bits}, AppEvents.{app_gist}}
use Rattle.ref_words.specs.{FreeSteps.{side_bit_cleared}, Seated.{app_seat_view}}
use Rattle.word_board.specs.Told.{SawUnlisted}
use Rattle.word_board.proofs.kinds.free.pick_buffer.Given as goal

abbrev pub ghosts-step : goal.ghosts-step
ghosts-step a = record {
  after = λ n. app_seat_view (side_bit_cleared a.self.now.side (a._about / word_bits) a._about (bit_at n (a._about % word_bits) == 1));
  told = λ n. (bit_at n (a._about % word_bits) ≡ 1 → a._about < pool_buffers a.self.now.board.setting.layout)
      × ((bit_at n (a._about % word_bits) == 1) ≡ false → SawUnlisted a.self.now.board.setting (app_gist a.self.now.side.view) a._about);
}
