-- The card's diary says then what it saw.
use Rattle.std.specs.Prelude.{if◌then◌else◌}
use Rattle.board_face.specs.{Sides.{nic_at}, NicEvents.{saw_leave, nic_saw}, declared.views.nic.NicLook.TheVariants.{NotLeft}}
use Rattle.plain_board.proofs.contents.Contents.left.Given as goal

abbrev pub ghosts-note : goal.ghosts-note
ghosts-note a = record {
  next = if a._about.1 then nic_at a.self.now (saw_leave a.self.now.view a._about.0) else nic_at a.self.now
      (nic_saw a.self.now.view (NotLeft a._about.0));
}
