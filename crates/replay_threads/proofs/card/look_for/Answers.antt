-- One look for buffers.
use Rattle.std.proofs.Common.{refl}
use Rattle.replay_threads.proofs.CardTurns.{goes_prepared}
use Rattle.replay_threads.proofs.card.look_for.Goals as goal

pub returns-then-found : goal.returns-then-found
returns-then-found c =
    let was = c.args.card.now in
    let now = record was { feed = c.nic_prepare-found.new.feed; seat = c.nic_prepare-found.new.face } in
    let look = c.nic_prepare-found.ensures in
    record {
      goes = goes_prepared c.args.needed was now c.requires.few c.requires.ready look.ready look.beside refl look.looks.0 look.looks.1 look.knows;
    }

pub returns-else-found : goal.returns-else-found
returns-else-found c =
    let was = c.args.card.now in
    let now = record was { feed = c.nic_prepare-found.new.feed; seat = c.nic_prepare-found.new.face } in
    let look = c.nic_prepare-found.ensures in
    record {
      goes = goes_prepared c.args.needed was now c.requires.few c.requires.ready look.ready look.beside refl look.looks.0 look.looks.1 look.knows;
    }
