-- The turns so far.
use Rattle.replay_threads.specs.Reader.{ReaderGoes}
use Rattle.replay_threads.proofs.reading.read_turns.Given as goal

abbrev pub invariant-loop-looks : goal.invariant-loop-looks
invariant-loop-looks g l = ReaderGoes g.S.Source.left g.S.Source.faults l.fn.source l.source l.fn.reader l.reader
