-- Nothing was taken, and the step was made.
use Rattle.std.proofs.Common.{inl, refl}
use Rattle.card_feed.specs.declared.arrived.Arrived.TheVariants.{Nothing}
use Rattle.replay_threads.proofs.{CardTurns.{goes_turn, when-so}, Rings.{consumer-same}}
use Rattle.replay_threads.proofs.card.quiet_turn.Goals as goal

pub returns : goal.returns
returns g c =
    let was = c.args.card.now in
    let step = c.nic_step-did.ensures in
    let came_by = record was { turns = c.saturating_add-card.result } in
    let now = record came_by { feed = c.nic_step-did.new.feed; seat = c.nic_step-did.new.face } in
    record {
      goes = goes_turn was came_by now now Nothing c.requires.ready
          (record { seat = refl; feed = refl; ring = consumer-same was.frames; came_is = refl; gone = refl }) _
          step.ready step.beside step.ports refl step.steps (record { board = refl; feed = refl; frames = refl; sees = inl (refl, inl refl) });
      did = λ is. inl (when-so _ c.nic_step-did.result is step.answer);
    }
