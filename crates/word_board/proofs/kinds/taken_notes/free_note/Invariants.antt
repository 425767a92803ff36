-- The side after the step, by the number that it found.
use Rattle.board_face.specs.{AppCalls.{TookNote}, AppEvents.{took_note}, SlotSteps.{side_took_note}}
use Rattle.ref_words.specs.{Rings.{loaded_note}, Seated.{app_seat_view}}
use Rattle.word_board.proofs.kinds.taken_notes.free_note.Given as goal

abbrev pub ghosts-step : goal.ghosts-step
ghosts-step a =
    let mine = a.self.now.side in
    let note = loaded_note mine in
    record {
      after = λ n. app_seat_view (side_took_note mine note);
      told = λ _. TookNote mine.view (took_note mine.view note) note note.place;
    }
