-- The card's diary says then that it swept the word, and found what the cache has more.
use Rattle.std.proofs.Common.{length, drop}
use Rattle.board_face.specs.{Sides.{nic_at}, NicEvents.{swept}}
use Rattle.plain_board.proofs.contents.Contents.sweep.Given as goal

abbrev pub ghosts-note : goal.ghosts-note
ghosts-note a = record { next = nic_at a.self.now (swept a.self.now.view a._about.0 (drop (length a.self.now.view.cache) a._about.1.now.items)) }
