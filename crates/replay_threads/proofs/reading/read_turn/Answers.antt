-- The message that is held may be sent.
use Rattle.std.proofs.Common.{◌≡◌, Some}
use Rattle.replay_threads.proofs.reading.read_turn.Goals as goal

pub send-requires : goal.send-requires
send-requires g c =
    let value = c.in-Some.ensures.value in
    let is : c.args.reader.now.held ≡ Some c.in-Some.message = cc in
    record { follows = c.args.reader.now.held_fits c.in-Some.message is }
