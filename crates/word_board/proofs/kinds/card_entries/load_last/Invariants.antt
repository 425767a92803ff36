-- The side after the step, by the number that it found.
use Rattle.std.specs.Prelude.{◌∷◌, ◌++◌, []}
use Rattle.board_face.specs.SlotSteps.{next_slot, side_in_hand}
use Rattle.word_rings.specs.Slots.{entry_of_words}
use Rattle.ref_words.specs.Seated.{card_seat_view}
use Rattle.word_board.proofs.kinds.card_entries.load_last.Given as goal

abbrev pub ghosts-step : goal.ghosts-step
ghosts-step a = record {
  after = λ n. card_seat_view (side_in_hand a.self.now.side a._about n
      (entry_of_words (1 ∷ (next_slot a.self.now.side.inside.refill_slots a._about).words ++ n ∷ [])));
  told = λ _. Unit {0};
}
