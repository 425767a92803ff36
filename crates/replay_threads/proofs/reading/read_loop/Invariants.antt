-- The turns so far.
use Rattle.replay_threads.specs.Reader.{ReaderGoes}
use Rattle.replay_threads.proofs.reading.read_loop.Given as goal

abbrev pub invariant-loop : goal.invariant-loop
invariant-loop g l = ReaderGoes g.S.Source.left g.S.Source.faults l.fn.source l.source l.fn.reader l.reader
