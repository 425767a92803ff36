-- The source ended, or there were too many bytes.
use Rattle.std.proofs.Common.{◌≡◌, subst, arith}
use Rattle.run_check.{specs.Coming.{ahead, GivesByte}, proofs.Coming.{ended_within, too_long}}
use Rattle.run_check.proofs.lines.Lines.read.Goals as goal

pub returns-in-None-clause-reads : goal.returns-in-None-clause-reads
returns-in-None-clause-reads g c =
    ended_within _ _ _ _ c.loop.invariant.part
    (subst (GivesByte (ahead c.loop.self.bytes (g.S.Source.left c.loop.source)) (ahead c.next.new.self (g.S.Source.left c.next.new.source))) c.in-None.is
    c.in_ok-next.ensures.gives)

pub returns-clause-reads : goal.returns-clause-reads
returns-clause-reads g c =
    let last : c.loop.counter ≡ 129 = omega arith in
    let part = c.loop.invariant.part in
    too_long _ _ _ (rw last at part)
