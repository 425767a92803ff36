use Rattle.std.proofs.Common.{ap, arith, option_map}
use Rattle.frame_headers.specs.Seen.{shown}
use Rattle.flow_table.{specs.{Flows.{Numbered, key_of}, Kept.{entry_shown}}, proofs.Newest.{newest_found, newest_passed}}
use Rattle.flow_table.proofs.list.newest_among.Goals as goal

pub returns-then-has_key_of : goal.returns-then-has_key_of
returns-then-has_key_of c = ap (option_map (λ (found : Numbered). found.number))
    (newest_found entry_shown _ _ _ _ (omega arith) (omega arith) c.loop-number.invariant.earlier c.if-has_key_of.ensures)

pub loop-number-preserved : goal.loop-number-preserved
loop-number-preserved c = record {
  within = omega arith;
  earlier = newest_passed entry_shown (key_of (shown c.args.segment.now)) c.args.entries.now c.loop-number.number _ (omega arith)
      (omega arith) c.loop-number.invariant.earlier c.if-has_key_of.ensures;
}
