-- The two ends of a ring stay its ends.
use Rattle.std.proofs.Common.{refl, sym, ◌∙◌}
use Rattle.rtrb.specs.{Ends.{SameRing}, Ring.{IsPair, SameProducer, SameConsumer}, declared.{end.End.{End}, producer.Producer.{Producer}, consumer.Consumer.{Consumer}}}

module _ {T A P : Type 0} where
  ring-then : (a b c : End T A P) → SameRing a b → SameRing b c → SameRing a c
  ring-then a b c one two = (two.0 ∙ one.0, two.1 ∙ one.1, two.2 ∙ one.2, two.3 ∙ one.3)

  pub consumer-same : (c : Consumer T A P) → SameConsumer c c
  consumer-same c = ((refl, refl, refl, refl), refl)

  pub consumer-then : (a b c : Consumer T A P) → SameConsumer a b → SameConsumer b c → SameConsumer a c
  consumer-then a b c one two = (ring-then a.end b.end c.end one.0 two.0, two.1 ∙ one.1)

  pub producer-same : (p : Producer T A P) → SameProducer p p
  producer-same p = ((refl, refl, refl, refl), refl)

  pub producer-then : (a b c : Producer T A P) → SameProducer a b → SameProducer b c → SameProducer a c
  producer-then a b c one two = (ring-then a.end b.end c.end one.0 two.0, two.1 ∙ one.1)

  pub pair-kept : (p p_now : Producer T A P) (c c_now : Consumer T A P) → IsPair p c → SameProducer p p_now → SameConsumer c c_now → IsPair p_now c_now
  pair-kept p p_now c c_now pair produced consumed = (
    consumed.0.0 ∙ (pair.0 ∙ sym produced.0.0),
    consumed.0.1 ∙ (pair.1 ∙ sym produced.0.1),
    consumed.0.2 ∙ (pair.2 ∙ sym produced.0.2),
    consumed.0.3 ∙ (pair.3 ∙ sym produced.0.3),
  )
