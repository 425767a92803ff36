-- The card's diary says then that it ended.
use Rattle.board_face.specs.{Sides.{nic_at}, NicEvents.{nic_ended}}
use Rattle.plain_board.proofs.contents.Contents.end.Given as goal

abbrev pub ghosts-note : goal.ghosts-note
ghosts-note a = record { next = nic_at a.self.now (nic_ended a.self.now.view) }
