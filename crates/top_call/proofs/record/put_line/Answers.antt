use Rattle.std.{proofs.{Common.{[], ◌∷◌, ◌++◌, ap, sym, ◌∙◌, append_assoc}, lemmas.List.{take_all}}, specs.{Fmt.{decimal}, List.{flat_map}}}
use Rattle.top_call.proofs.Gathering.{joined-behind}
use Rattle.top_call.proofs.record.put_line.Goals as goal

pub returns : goal.returns
returns c =
    let old = c.args.block.now.bytes in
    record {
      bytes = c.push_str-2.ensures.bytes
          ∙ ap (λ l. l ++ 10 ∷ []) (
          c.loop-number.invariant.0
          ∙ ap (λ l. c.push_str.new.self.bytes ++ flat_map (λ n. 32 ∷ decimal n) l)
          (take_all c.loop-number.number-index c.args.numbers.now c.loop-number-test.false)
          ∙ ap (λ l. l ++ flat_map (λ n. 32 ∷ decimal n) c.args.numbers.now) c.push_str.ensures.bytes
          ∙ append_assoc old c.args.word.now _
          ∙ ap (λ l. old ++ l) (sym (joined-behind 32 decimal c.args.word.now c.args.numbers.now))
          )
          ∙ append_assoc old _ (10 ∷ []);
    }
