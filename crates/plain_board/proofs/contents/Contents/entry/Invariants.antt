-- What the card's diary says by the answer.
use Rattle.board_face.specs.{Sides.{nic_at}, NicEvents.{nic_saw, passed_over}, declared.views.nic.NicLook.TheVariants.{RingEmpty}}
use Rattle.plain_board.proofs.Honouring.{honoured_if}
use Rattle.plain_board.proofs.contents.Contents.entry.Given as goal

abbrev pub ghosts-note : goal.ghosts-note
ghosts-note a = record { next = nic_at a.self.now (nic_saw a.self.now.view (RingEmpty a._about)) }

abbrev pub ghosts-note-2 : goal.ghosts-note-2
ghosts-note-2 a = record { next = nic_at a.self.now (passed_over a.self.now.view a._about.0 a._about.1) }

abbrev pub ghosts-note-3 : goal.ghosts-note-3
ghosts-note-3 a = record { next = nic_at a.self.now (honoured_if a.self.now.view a._about.0 a._about.1 a._about.2 a._about.3) }
