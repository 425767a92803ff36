-- What the card's diary says by the answer.
use Rattle.board_face.specs.{Sides.{nic_at}, NicEvents.{nic_saw, sent}, declared.views.nic.NicLook.TheVariants.{NoteInUse}}
use Rattle.plain_board.proofs.contents.Contents.send.Given as goal

abbrev pub ghosts-note : goal.ghosts-note
ghosts-note a = record { next = nic_at a.self.now (nic_saw a.self.now.view (NoteInUse a._about)) }

abbrev pub ghosts-note-2 : goal.ghosts-note-2
ghosts-note-2 a = record { next = nic_at a.self.now (sent a.self.now.view a._about.0 a._about.1) }
