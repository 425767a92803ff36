use Rattle.std.specs.Slots.{slots_items}
use Rattle.word_board.proofs.WordsClosed.{found-word}
use Rattle.word_board.proofs.finish.ClosedWords.user.Goals as goal

pub returns : goal.returns
returns c =
    let found = found-word (slots_items c.self.inside.closed.words) c.user.result c.word.result c.word.ensures in
    rw (← c.self.view_is, ← c.user.ensures.value) found
