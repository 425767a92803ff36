use Rattle.std.proofs.{Common.{rules, arith}, lemmas.Bool.Decides.{nat_tests}}
use Rattle.run_check.proofs.setting.are_areas.Goals as goal

pub pool_buffers-requires-clause-each : goal.pool_buffers-requires-clause-each
pool_buffers-requires-clause-each c = c.are_each.ensures.0 (search rules)

pub pool_bytes-requires-clause-each : goal.pool_bytes-requires-clause-each
pool_bytes-requires-clause-each c = c.are_each.ensures.0 (search rules)

pub returns-then-pool_buffers-le-MOST_BUFFERS : goal.returns-then-pool_buffers-le-MOST_BUFFERS
returns-then-pool_buffers-le-MOST_BUFFERS c = (
  λ t. record {
    some = grind (arith, nat_tests);
    most = omega arith;
    each = c.are_each.ensures.0 (search rules);
    buffers = omega arith;
    bytes = grind (arith, nat_tests, t);
  },
  λ areas. grind (arith, nat_tests, areas.bytes),
)
