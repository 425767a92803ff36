-- The buffers below this one are logged, and the contents stand.
use Rattle.std.specs.Prelude.{◌≡◌}
use Rattle.board_face.specs.Laws.{AllSides, Scrubs}
use Rattle.plain_board.specs.{ScrubLaw.{scrub_logged}, Stand.{sides_of}}
use Rattle.plain_board.proofs.logged.Logged.log_scrub.Given as goal

abbrev pub invariant-loop-buffer : goal.invariant-loop-buffer
invariant-loop-buffer l =
    (l.self.contents ≡ l.fn.self.contents)
    × (l.self.log.room ≡ l.fn.self.log.room)
    × ((after : AllSides) → Scrubs l.app (sides_of l.fn.self.contents) after
    → l.self.log ≡ scrub_logged (sides_of l.fn.self.contents) after l.app l.fn.self.log l.buffer)
