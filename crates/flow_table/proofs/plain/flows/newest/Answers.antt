use Rattle.std.proofs.Common.{arith}
use Rattle.frame_headers.specs.Seen.{shown}
use Rattle.flow_table.{specs.{Flows.{key_of}, Plain.{flow_shown}}, proofs.Newest.{newest_found, newest_passed}}
use Rattle.flow_table.proofs.plain.flows.newest.Goals as goal

pub returns-then-has_key_of : goal.returns-then-has_key_of
returns-then-has_key_of c = newest_found flow_shown _ _ _ _ (omega arith) (omega arith) c.loop-number.invariant.earlier c.if-has_key_of.ensures

pub loop-number-preserved : goal.loop-number-preserved
loop-number-preserved c = record {
  within = omega arith;
  earlier = newest_passed flow_shown (key_of (shown c.args.segment.now)) c.args.flows.now c.loop-number.number _ (omega arith)
      (omega arith) c.loop-number.invariant.earlier c.if-has_key_of.ensures;
}
