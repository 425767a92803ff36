use Rattle.std.{proofs.Common.{rules, ◌≡◌, ℕ, ◌+◌, subst}, specs.{Prelude.{Some, None, IsSome}, Ordering.{nat_cmp}, Map.{lookup, set_value}, BTreeMap.{is_at}}}
use Rattle.flow_queues.{specs.Ends.{bytes_written_of}, proofs.{Counts.{adds-more, counted-is}, tally.LoanTally.count.Goals.{in-Some, in_default}}}
use Rattle.flow_queues.proofs.tally.LoanTally.count.Goals as goal

no-some : {P : Type 0} → IsSome {T = ℕ} None → P
no-some there = absurd (cc)

pub returns-clause-adds : goal.returns-clause-adds
returns-clause-adds c = λ fits. elim c.match-get_mut.branch [
  | in-Some w ↦ (
      let here : lookup (is_at (nat_cmp c.args.flow)) c.args.self.now.counts.entries ≡ Some w.in-Some.count.now = search rules in
      let now : c.match-get_mut.self.counts.entries ≡ set_value (is_at (nat_cmp c.args.flow)) c.args.self.now.counts.entries w.saturating_add.result = search rules in
      let is : w.saturating_add.result ≡ bytes_written_of c.args.flow c.args.self.now.counts.entries + c.args.bytes =
      (let had = counted-is c.args.flow c.args.self.now.counts.entries w.in-Some.count.now here in search rules) in
      rw (now, is) (adds-more c.args.flow c.args.bytes c.args.self.now.counts.entries c.requires.there))
  | in_default w ↦ (
      let none : lookup (is_at (nat_cmp c.args.flow)) c.args.self.now.counts.entries ≡ None = search rules in
      no-some (subst IsSome none c.requires.there))
]
