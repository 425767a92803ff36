-- The card's diary says then that it closed the buffer.
use Rattle.board_face.specs.{Sides.{nic_at}, NicEvents.{shut}}
use Rattle.plain_board.proofs.contents.Contents.shut.Given as goal

abbrev pub ghosts-note : goal.ghosts-note
ghosts-note a = record { next = nic_at a.self.now (shut a.self.now.view a._about.0.now a._about.1) }
