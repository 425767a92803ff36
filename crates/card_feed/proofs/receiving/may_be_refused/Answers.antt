-- So many of its bytes count.
use Rattle.std.proofs.Common.{rules, arith}
use Rattle.frame_headers.specs.Seen.{shown}
use Rattle.card_feed.proofs.Steering.{no_room}
use Rattle.card_feed.proofs.receiving.may_be_refused.Goals as goal

pub returns-in-Some-clause-long : goal.returns-in-Some-clause-long
returns-in-Some-clause-long c = λ _ frame.
    no_room c.args.table.now (shown c.args.segment.now) frame c.args.split c.in-Some.len c.in-Some.ensures.steered
    (c.in-Some.ensures.few frame) (c.in-Some.ensures.counted frame) (search (rules, arith))
