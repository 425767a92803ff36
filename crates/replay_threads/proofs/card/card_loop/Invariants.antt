-- The turns so far.
use Rattle.replay_threads.specs.Cards.{CardGoes}
use Rattle.replay_threads.proofs.card.card_loop.Given as goal

abbrev pub invariant-loop : goal.invariant-loop
invariant-loop g l = CardGoes l.fn.card l.card
