-- A board that was just opened is sound.
use Rattle.std.proofs.Common.{rules}
use Rattle.plain_board.proofs.Opening.{IsSound-opened}
use Rattle.plain_board.proofs.contents.Contents.open.Goals as goal

pub invariant_of-result-2 : goal.invariant_of-result-2
invariant_of-result-2 c =
    (IsSound-opened c.args.layout c.args.places c.buffers-buffers.ensures.sound c.requires.some c.requires.few _ (search rules), search rules)

pub returns-clause-sound : goal.returns-clause-sound
returns-clause-sound c = (invariant_of-result-2 c).0
