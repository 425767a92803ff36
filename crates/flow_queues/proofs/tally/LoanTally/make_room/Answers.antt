use Rattle.std.{proofs.Common.{rules, ◌≡◌}, specs.{Prelude.{None}, Ordering.{nat_cmp}, Map.{lookup}, BTreeMap.{insert_entry, is_at}}}
use Rattle.flow_queues.proofs.Counts.{adds-new}
use Rattle.flow_queues.proofs.tally.LoanTally.make_room.Goals as goal

pub returns-clause-none : goal.returns-clause-none
returns-clause-none c =
    let absent : lookup (is_at (nat_cmp c.args.flow)) c.args.self.now.counts.entries ≡ None = search rules in
    let is : c.insert.new.self.entries ≡ insert_entry nat_cmp c.args.self.now.counts.entries c.args.flow 0 = search rules in
    rw is (adds-new c.args.flow c.args.self.now.counts.entries absent)
