-- The card's diary says then that it took the buffer, or what it said before.
use Rattle.board_face.specs.{Sides.{nic_at}, NicEvents.{took}}
use Rattle.plain_board.proofs.contents.Contents.take.Given as goal

abbrev pub ghosts-note : goal.ghosts-note
ghosts-note a = record { next = a.self.now }

abbrev pub ghosts-note-2 : goal.ghosts-note-2
ghosts-note-2 a = record { next = nic_at a.self.now (took a.self.now.view a._about) }
