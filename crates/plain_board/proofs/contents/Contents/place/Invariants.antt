-- The card's diary says then that it placed the text.
use Rattle.board_face.specs.{Sides.{nic_at}, NicEvents.{placed}}
use Rattle.plain_board.proofs.contents.Contents.place.Given as goal

abbrev pub ghosts-note : goal.ghosts-note
ghosts-note a = record { next = nic_at a.self.now (placed a.self.now.view a._about.0 a._about.1.now) }
