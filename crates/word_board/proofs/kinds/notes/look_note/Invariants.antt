-- The side after the step, by the number that it found.
use Rattle.std.specs.Prelude.{◌≡◌, ◌<◌, ◌==◌, length, false, All}
use Rattle.area_layout.specs.Layout.{pool_buffers}
use Rattle.board_face.specs.{NicCalls.{apps_of}, SlotSteps.{side_note_looked}, NicEvents.{nic_gist}}
use Rattle.word_board.specs.Told.{SawNoteInUse}
use Rattle.ref_words.specs.Seated.{card_seat_view}
use Rattle.word_board.proofs.kinds.notes.look_note.Given as goal

abbrev pub ghosts-step : goal.ghosts-step
ghosts-step a = record {
  after = λ n. card_seat_view (side_note_looked a.self.now.side a._about (n == 0));
  told = λ n. (length a.self.now.side.inside.note_slots ≡ apps_of a.self.now.board.setting)
      × (All (λ p. p.place.buffer < pool_buffers a.self.now.board.setting.layout) a.self.now.side.view.pieces)
      × ((n == 0) ≡ false → SawNoteInUse a.self.now.board.setting (nic_gist a.self.now.side.view) a._about);
}
