use Rattle.std.proofs.Common.{sym, ◌∙◌}
use Rattle.tcp_reorder.proofs.Parts.{may_be_taken}
use Rattle.part_runs.proofs.reassembly.offer.Goals as goal

pub take-requires-clause-accepted : goal.take-requires-clause-accepted
take-requires-clause-accepted c =
    (may_be_taken c.loop-gap.queue c.args.seq c.args.len
    (sym c.accepts.ensures.answer ∙ c.if-not-accepts.false) c.in-Some.gap c.in-Some.ensures.first).accepted

pub take-requires-clause-wanted : goal.take-requires-clause-wanted
take-requires-clause-wanted c =
    (may_be_taken c.loop-gap.queue c.args.seq c.args.len (sym c.accepts.ensures.answer ∙ c.if-not-accepts.false) c.in-Some.gap c.in-Some.ensures.first).wanted
