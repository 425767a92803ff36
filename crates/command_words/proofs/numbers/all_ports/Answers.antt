-- A word that is a port, one that isn't, and the end.
use Rattle.command_words.proofs.Porting.{all_read, port_missing, port_read}
use Rattle.command_words.proofs.numbers.all_ports.Goals as goal

pub loop-word-preserved : goal.loop-word-preserved
loop-word-preserved c =
    let pushed = c.in_ok-push-in-Some.ensures.items in
    rw pushed (port_read c.args.words.now c.loop-word.word-index _ c.loop-word.ports.items c.in-Some.port c.loop-word-test.true c.in-Some.ensures
    c.loop-word.invariant)

pub returns-in-None : goal.returns-in-None
returns-in-None c = port_missing c.args.words.now c.loop-word.word-index _ c.loop-word.ports.items c.loop-word-test.true c.in-None.ensures c.loop-word.invariant

pub returns : goal.returns
returns c = all_read c.args.words.now c.loop-word.word-index c.loop-word.ports.items c.loop-word-test.false c.loop-word.invariant
