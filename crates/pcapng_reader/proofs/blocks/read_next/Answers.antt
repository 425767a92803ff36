-- Blocks up to the next packet.
use Rattle.std.proofs.{Common.{◌≡◌, [], rules, Err, ap, refl, ◌∙◌}, lemmas.Result.{err_from_is_err_and}}
use Rattle.zr_kinds.specs.declared.fault.Fault.TheVariants.{Memory}
use Rattle.zr_io.proofs.Moved.{Took-nothing}
use Rattle.pcap_reader.proofs.Joined.{Keeps-same, no-fronts}
use Rattle.pcapng_reader.specs.Steps.{told}
use Rattle.pcapng_reader.proofs.Passing.{BreaksBefore, over-nothing, gives-end, gives-startless, gives-stop, wants-at, gives-record, block-alone, passed-more}
use Rattle.pcapng_reader.proofs.blocks.read_next.Goals as goal

pub returns-in_err-start-clause-gives : goal.returns-in_err-start-clause-gives
returns-in_err-start-clause-gives g c =
    let p = err_from_is_err_and c.from_residual.result c.from_residual.ensures.1 in
    rw (p.1, p.2)
    (gives-startless (told c.args.section.now) (told c.loop-start.section) _ _ c.loop-start.invariant.over c.loop-start.invariant.breaks (told c.loop-start.section) _ [] _
    c.in_err-start.ensures.takes)

pub returns-in_err-record-clause-gives : goal.returns-in_err-record-clause-gives
returns-in_err-record-clause-gives g c =
    let p = err_from_is_err_and c.from_residual-in_err-record.result c.from_residual-in_err-record.ensures.1 in
    let start = rw c.in-Some.is at c.in_ok-start.ensures.takes in
    rw (p.1, p.2)
    (gives-stop (told c.args.section.now) (told c.loop-start.section) _ _ c.loop-start.invariant.over c.loop-start.invariant.breaks c.in-Some.start start.0 _ _ start.1
    (told c.read_block.new.section) [] _ c.in_err-record.ensures.takes)

pub returns-in_err-record-clause-memory : goal.returns-in_err-record-clause-memory
returns-in_err-record-clause-memory g c = λ same.
    let p = err_from_is_err_and c.from_residual-in_err-record.result c.from_residual-in_err-record.ensures.1 in
    let start = rw c.in-Some.is at c.in_ok-start.ensures.takes in
    let wanted : c.in_err-record.field-0.0 ≡ Memory = cc (p.1, p.2, same) in
    wants-at (told c.args.section.now) (told c.loop-start.section) _ _ c.loop-start.invariant.over c.loop-start.invariant.breaks c.in-Some.start start.0 _ _ start.1
    (c.in_err-record.ensures.memory (ap Err wanted))

pub returns-in-Some-2-clause-gives : goal.returns-in-Some-2-clause-gives
returns-in-Some-2-clause-gives g c =
    let start = rw c.in-Some.is at c.in_ok-start.ensures.takes in
    let takes = rw c.in-Some-2.is at c.in_ok-record.ensures.takes in (
      takes.1.0,
      gives-record (told c.args.section.now) (told c.loop-start.section) _ _ c.loop-start.invariant.over c.loop-start.invariant.breaks c.in-Some.start start.0 _ _ start.1
          (told c.read_block.new.section) _ _ takes.0 takes.1.1,
      block-alone (told c.args.section.now) (told c.loop-start.section) _ _ c.loop-start.invariant.over c.loop-start.invariant.breaks c.in-Some.start start.0 _ _
          start.1 takes.1.2,
    )

pub loop-start-init : goal.loop-start-init
loop-start-init g c = record {
  over = Took-nothing _ _ _ (Keeps-same _) (over-nothing (told c.args.section.now));
  breaks = Took-nothing _ _ (BreaksBefore (told c.args.section.now)) (Keeps-same _) (no-fronts _);
  still = refl;
}

pub loop-start-preserved : goal.loop-start-preserved
loop-start-preserved g c =
    let start = rw c.in-Some.is at c.in_ok-start.ensures.takes in
    let takes = rw c.in_default-2.is at c.in_ok-record.ensures.takes in
    record {
      over = passed-more (told c.args.section.now) (told c.loop-start.section) _ _ c.loop-start.invariant.over c.loop-start.invariant.breaks c.in-Some.start start.0 _ _ start.1
          (told c.read_block.new.section) takes.1;
      breaks = block-alone (told c.args.section.now) (told c.loop-start.section) _ _ c.loop-start.invariant.over c.loop-start.invariant.breaks c.in-Some.start start.0
          _ _ start.1 takes.2;
      still = c.in_ok-record.ensures.cause.still (search rules) ∙ c.in_ok-start.ensures.cause.still (search rules) ∙ c.loop-start.invariant.still;
    }

pub returns-clause-gives : goal.returns-clause-gives
returns-clause-gives g c =
    let end = rw c.in_default.is at c.in_ok-start.ensures.takes in
    gives-end (told c.args.section.now) (told c.loop-start.section) _ _ c.loop-start.invariant.over c.loop-start.invariant.breaks (told c.loop-start.section) _ [] end.0 end.1
