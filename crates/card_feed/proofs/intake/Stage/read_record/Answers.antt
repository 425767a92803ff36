-- What the file header took, and then the record.
use Rattle.card_feed.proofs.Further.{took-then}
use Rattle.card_feed.proofs.intake.Stage.read_record.Goals as goal

pub returns-clause-further : goal.returns-clause-further
returns-clause-further g c =
    took-then (g.S.Source.left c.args.source.now) (g.S.Source.left c.open.new.source) (g.S.Source.left c.next_record.new.source)
    c.in_ok-open.ensures.further c.next_record.ensures.further
