-- The messages that are still to be dropped.
use Rattle.std.specs.Prelude.{◌≡◌, ◌+◌, ◌++◌, length}
use Rattle.rtrb.specs.Ring.{known_items, received, sent}
use Rattle.replay_threads.specs.Cards.{CardGoes}
use Rattle.replay_threads.proofs.dropping.drop_rest.Given as goal

abbrev pub invariant-loop : goal.invariant-loop
invariant-loop l = record {
  goes : CardGoes l.fn.card l.card;
  feed : l.card.feed ≡ l.fn.card.feed;
  seat : l.card.seat ≡ l.fn.card.seat;
  left : l.counter + length (known_items l.card.frames) ≡ l.count;
  all : received l.card.frames ++ known_items l.card.frames ≡ sent l.reader.ring;
}
