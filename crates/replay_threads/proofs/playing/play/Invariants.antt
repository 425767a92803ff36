-- The turns so far.
use Rattle.replay_threads.specs.{Cards.{CardGoes}, Reader.{ReaderGoes}, Lanes.{AllGo}}
use Rattle.replay_threads.proofs.playing.play.Given as goal

abbrev pub invariant-loop : goal.invariant-loop
invariant-loop g l =
    ReaderGoes g.S.Source.left g.S.Source.faults l.fn.source l.source l.fn.reader l.reader
    × CardGoes l.fn.card l.card
    × AllGo g.W.Sits.goes l.fn.lanes l.lanes
