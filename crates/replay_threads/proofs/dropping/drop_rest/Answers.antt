-- One message less is to be dropped.
use Rattle.std.proofs.Common.{◌≡◌, ◌++◌, length, option_to_list, true, sym, ap, subst, ◌∙◌, arith}
use Rattle.card_feed.specs.{Coming.{is_over}, Feed.{FeedState}}
use Rattle.replay_threads.{specs.Carried.{MayFollow, has_end}, proofs.CardTurns.{goes_drop, goes_more}}
use Rattle.replay_threads.proofs.dropping.drop_rest.Goals as goal

pub invariant_of-reader : goal.invariant_of-reader
invariant_of-reader c =
    let reader = c.args.reader.now in
    let same = sym c.slots_beside-count.ensures.producer.1 in
    record {
      held_fits = λ x is. subst (λ sent. MayFollow sent x) same (reader.held_fits x is);
      counted = subst (λ sent. length (sent ++ option_to_list reader.held) ≡ reader.count) same reader.counted;
      ended = subst (λ sent. is_over reader.stage ≡ has_end (sent ++ option_to_list reader.held)) same reader.ended;
      few = reader.few;
    }

pub loop-preserved : goal.loop-preserved
loop-preserved c =
    let was = c.loop.invariant in
    let drops = c.drop_next.ensures.drops in
    let known = c.drop_next.ensures.known in
    let ended : is_over c.loop.card.feed.stage ≡ true = ap (λ (f : FeedState). is_over f.stage) was.feed ∙ c.requires.over in
    record {
      goes = goes_more c.args.card.now c.loop.card c.drop_next.new.card was.goes (goes_drop c.loop.card c.drop_next.new.card was.goes.ready ended drops);
      feed = drops.feed ∙ was.feed;
      seat = drops.seat ∙ was.seat;
      left = (let left = was.left in omega (arith, left, known));
      all = c.drop_next.ensures.all ∙ was.all;
    }
