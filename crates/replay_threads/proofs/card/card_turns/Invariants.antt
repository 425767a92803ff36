-- The turns so far.
use Rattle.replay_threads.specs.Cards.{CardGoes}
use Rattle.replay_threads.proofs.card.card_turns.Given as goal

abbrev pub invariant-loop-looks : goal.invariant-loop-looks
invariant-loop-looks g l = CardGoes l.fn.card l.card
