-- The card's diary says that it has done nothing.
use Rattle.board_face.specs.Opened.{new_nic}
use Rattle.plain_board.proofs.contents.Contents.open.Given as goal

abbrev pub ghosts-note : goal.ghosts-note
ghosts-note a = record { next = new_nic (record { layout = a._about.0; places = a._about.1 }) }
