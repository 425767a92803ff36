-- One round more.
use Rattle.replay_threads.proofs.{CardTurns.{goes_more, goes_same}, ReaderTurns.{reads_more, reads_same}}
use Rattle.replay_threads.proofs.playing.play_rounds.Goals as goal

pub loop-init : goal.loop-init
loop-init g c = (
  reads_same g.S.Source.left g.S.Source.faults c.args.source.now c.args.reader.now,
  goes_same c.args.card.now c.requires.ready,
  c.lanes_go_on.ensures.same c.args.lanes.now c.requires.fit,
)

pub loop-preserved : goal.loop-preserved
loop-preserved g c = (
  reads_more g.S.Source.left g.S.Source.faults c.args.source.now c.loop.source c.read_on.new.source c.args.reader.now c.loop.reader c.read_on.new.reader
      c.loop.invariant.0 c.read_on.ensures.goes,
  goes_more c.args.card.now c.loop.card c.paced_turn-went.new.card c.loop.invariant.1 c.paced_turn-went.ensures.goes,
  c.lanes_go_on.ensures.more c.args.lanes.now c.loop.lanes c.round-did.new.lanes c.loop.invariant.2 c.round-did.ensures.go,
)
