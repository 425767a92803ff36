-- Turns side by side, and rounds behind them.
use Rattle.replay_threads.proofs.{CardTurns.{goes_more, goes_same}, ReaderTurns.{reads_more, reads_same}}
use Rattle.replay_threads.proofs.playing.play.Goals as goal

pub loop-init : goal.loop-init
loop-init g c = (
  reads_same g.S.Source.left g.S.Source.faults c.args.source.now c.args.reader.now,
  goes_same c.args.card.now c.requires.ready,
  c.lanes_go_on.ensures.same c.args.lanes.now c.requires.fit,
)

pub play_beside-requires-clause-fit : goal.play_beside-requires-clause-fit
play_beside-requires-clause-fit g c κs within = c.lanes_go_on.ensures.again c.args.lanes.now c.loop.lanes c.loop.invariant.2

pub play_rounds-requires-clause-fit : goal.play_rounds-requires-clause-fit
play_rounds-requires-clause-fit g c κs within = c.lanes_go_on.ensures.again c.loop.lanes c.play_beside.new.lanes c.play_beside.ensures.lanes

pub loop-preserved : goal.loop-preserved
loop-preserved g c =
    let left = g.S.Source.left in
    let faults = g.S.Source.faults in (
      reads_more left faults c.args.source.now c.play_beside.new.source c.play_rounds.new.source c.args.reader.now c.play_beside.new.reader
          c.play_rounds.new.reader
          (reads_more left faults c.args.source.now c.loop.source c.play_beside.new.source c.args.reader.now c.loop.reader c.play_beside.new.reader
          c.loop.invariant.0 c.play_beside.ensures.reader)
          c.play_rounds.ensures.reader,
      goes_more c.args.card.now c.play_beside.new.card c.play_rounds.new.card
          (goes_more c.args.card.now c.loop.card c.play_beside.new.card c.loop.invariant.1 c.play_beside.ensures.card) c.play_rounds.ensures.card,
      c.lanes_go_on.ensures.more c.args.lanes.now c.play_beside.new.lanes c.play_rounds.new.lanes
          (c.lanes_go_on.ensures.more c.args.lanes.now c.loop.lanes c.play_beside.new.lanes c.loop.invariant.2 c.play_beside.ensures.lanes)
          c.play_rounds.ensures.lanes,
    )

pub returns-then-play_rounds-clause-reader : goal.returns-then-play_rounds-clause-reader
returns-then-play_rounds-clause-reader g c =
    let left = g.S.Source.left in
    let faults = g.S.Source.faults in
    reads_more left faults c.args.source.now c.play_beside.new.source c.play_rounds.new.source c.args.reader.now c.play_beside.new.reader
    c.play_rounds.new.reader
    (reads_more left faults c.args.source.now c.loop.source c.play_beside.new.source c.args.reader.now c.loop.reader c.play_beside.new.reader
    c.loop.invariant.0 c.play_beside.ensures.reader)
    c.play_rounds.ensures.reader

pub returns-then-play_rounds-clause-card : goal.returns-then-play_rounds-clause-card
returns-then-play_rounds-clause-card g c = goes_more c.args.card.now c.play_beside.new.card c.play_rounds.new.card
    (goes_more c.args.card.now c.loop.card c.play_beside.new.card c.loop.invariant.1 c.play_beside.ensures.card) c.play_rounds.ensures.card

pub returns-then-play_rounds-clause-lanes : goal.returns-then-play_rounds-clause-lanes
returns-then-play_rounds-clause-lanes g c =
    c.lanes_go_on.ensures.more c.args.lanes.now c.play_beside.new.lanes c.play_rounds.new.lanes
    (c.lanes_go_on.ensures.more c.args.lanes.now c.loop.lanes c.play_beside.new.lanes c.loop.invariant.2 c.play_beside.ensures.lanes)
    c.play_rounds.ensures.lanes

pub returns-then-play_rounds-clause-left : goal.returns-then-play_rounds-clause-left
returns-then-play_rounds-clause-left g c = c.play_rounds.ensures.left c.if-play_rounds.true
