-- The side after the step, by the number that it found.
use Rattle.std.specs.Prelude.{◌≡◌, ◌==◌, length, false}
use Rattle.board_face.specs.{NicCalls.{apps_of}, SlotSteps.{side_entry_looked}, NicEvents.{nic_gist}}
use Rattle.word_board.specs.Told.{SawRingEmpty}
use Rattle.ref_words.specs.Seated.{card_seat_view}
use Rattle.word_board.proofs.kinds.card_entries.look_entry.Given as goal

abbrev pub ghosts-step : goal.ghosts-step
ghosts-step a = record {
  after = λ n. card_seat_view (side_entry_looked a.self.now.side a._about (n == 1));
  told = λ n. (length a.self.now.side.inside.refill_slots ≡ apps_of a.self.now.board.setting)
      × ((n == 1) ≡ false → SawRingEmpty a.self.now.board.setting (nic_gist a.self.now.side.view) a._about);
}
