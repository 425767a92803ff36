-- The next record, the end of the bytes, or what ends the reading before it.
use Rattle.card_feed.{specs.Offered.{WantsRoom}, proofs.{Nexts.{next-all}, Further.{next-further, next-later, next-bytes}}}
use Rattle.card_feed.proofs.reading.next_record.Goals as goal

pub returns-clause-reads : goal.returns-clause-reads
returns-clause-reads g c = λ split first ports frames comes.
    let came = rw c.in-Open.is at comes in
    let said = c.next.ensures in
    rw came.1.1
    (next-all
    (WantsRoom split ports) g.S.Source.left g.S.Source.faults first c.args.source.now c.next.new.source ports c.in-Open.capture came.0 came.1.0 came.1.2
    c.next.new.self c.next.result c.next.new.into.items said.kept (said.gives came.0) (said.cause came.0) (said.memory came.0))

pub returns-clause-bytes : goal.returns-clause-bytes
returns-clause-bytes g c =
    next-bytes g.S.Source.left g.S.Source.faults c.args.source.now c.next.new.source c.in-Open.capture.going c.next.new.self.going c.next.new.into.items c.next.result
    c.in-Open.capture.fault c.next.ensures.gives c.next.ensures.stopped c.next.ensures.most

pub returns-clause-further : goal.returns-clause-further
returns-clause-further g c =
    next-further g.S.Source.left g.S.Source.faults c.args.source.now c.next.new.source c.in-Open.capture.going c.next.new.self.going c.next.new.into.items c.next.result
    c.in-Open.capture.fault c.next.ensures.gives c.next.ensures.stopped

pub returns-clause-later : goal.returns-clause-later
returns-clause-later g c =
    next-later g.S.Source.left g.S.Source.faults c.args.source.now c.next.new.source c.in-Open.capture.going c.next.new.self.going c.next.new.into.items c.next.result
    c.in-Open.capture.fault c.next.ensures.cause c.next.ensures.stopped
