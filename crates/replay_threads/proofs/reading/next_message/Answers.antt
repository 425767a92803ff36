-- A record more than are read ends the reading.
use Rattle.std.proofs.Common.{◌≡◌, arith}
use Rattle.zr_kinds.specs.Limits.{most_records}
use Rattle.replay_threads.proofs.ReaderTurns.{makes-limit}
use Rattle.replay_threads.proofs.reading.next_message.Goals as goal

pub returns-in-Frame-2-clause-makes : goal.returns-in-Frame-2-clause-makes
returns-in-Frame-2-clause-makes g c =
    let limit : c.args.count ≡ most_records = omega arith in
    let read = c.in-Frame-2.ensures in
    makes-limit g.S.Source.left g.S.Source.faults c.args.source.now c.read.new.source c.args.stage.now c.read.new.self c.args.count limit
    c.in-Frame-2.field-0 c.in-Frame-2.field-1 read.reads read.further read.later _
