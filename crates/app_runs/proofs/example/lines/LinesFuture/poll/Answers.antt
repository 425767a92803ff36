-- The loan of an item is the only one.
use Rattle.std.proofs.Common.{rules}
use Rattle.zc_poll.specs.Steps.{IsItem}
use Rattle.app_runs.proofs.OneLoan.{one-out}
use Rattle.app_runs.proofs.example.lines.LinesFuture.poll.Goals as goal

pub count_item-lines-requires-clause-only : goal.count_item-lines-requires-clause-only
count_item-lines-requires-clause-only g c =
    let (stands, none) = rw (← c.in-Some.ensures.value) at c.requires in
    let item : IsItem c.in-Some.stream.desk c.poll_next.new.self.desk (g.F.AppFace.seen c.in-Some.stream.face)
    (g.F.AppFace.seen c.poll_next.new.self.face) c.in-Ready-Some-Ok.lent = search rules in
    one-out _ _ _ _ _ item none
