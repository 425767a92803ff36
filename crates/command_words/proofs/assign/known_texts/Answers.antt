-- One more word is text.
use Rattle.std.{proofs.{Common.{◌≡◌, ◌∙◌, ◌<◌, ℕ, List, subst, ap, inl, inr, sym, arith, get_or, length}, lemmas.List.{get_or_default}}, specs.Borrow.{Bor}}
use Rattle.std.{specs.Str.{IsUtf8}, proofs.lemmas.Bool.{cases_lt}}
use Rattle.command_words.proofs.assign.known_texts.Goals as goal

here : (words : List (Bor (List ℕ))) (i k : ℕ) (d e : Bor (List ℕ)) → k ≡ i → k < length words → IsUtf8 (get_or words i e).now
    → IsUtf8 (get_or words k d).now
here words i k d e at inside text = subst (λ (w : Bor (List ℕ)). IsUtf8 w.now)
    (ap (λ j. get_or words j e) (sym at) ∙ get_or_default words k e d inside) text

pub loop-word-preserved : goal.loop-word-preserved
loop-word-preserved c = λ k d lt inside. elim (cases_lt k c.loop-word.word-index) [
  | inl below ↦ c.loop-word.invariant k d below inside
  | inr past ↦ here c.args.words.now c.loop-word.word-index k d _ (omega arith) inside c.known_text.ensures
]
