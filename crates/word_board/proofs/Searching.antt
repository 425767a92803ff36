-- An application's search for a buffer in the free list, word by word.
use Rattle.std.{proofs.Common.{◌≡◌, ℕ, ◌+◌, ◌<◌, List, [], ◌∷◌, ◌++◌, refl, ap, sym, ◌∙◌, subst, arith, ⊎_elim}, specs.Prelude.{Contains, nat_eq}}
use Rattle.std.proofs.lemmas.Bool.{cases_lt}
use Rattle.board_face.{specs.{Lists.{without}, declared.views.{parts.Setting.{Setting}, app.{AppView.{AppView}, AppSide.{AppSide}}}}, proofs.ListLemmas.{eqb_same}}
use Rattle.ref_words.specs.FreeSteps.{side_word_without}
use Rattle.word_board.{specs.{Spares.{seen_without}, Told.{SawWithout}}, proofs.Quieting.{sees-more}}

-- The words below k have nothing for it, and nothing else was done.
pub record IsSearching (first now : AppSide) (k : ℕ) : Type 0 where
  pub event : now ≡ seen_without first now.inside.words_without
  pub seen : (j : ℕ) → j < k → Contains now.inside.words_without j

pub IsSearching-more : (first now next : AppSide) (k : ℕ) → IsSearching first now k → next ≡ side_word_without now k → IsSearching first next (k + 1)
IsSearching-more first now next k h is = record {
  event = is ∙ (ap (λ x. side_word_without x k) h.event ∙ ap (seen_without first) (sym (ap (λ x. x.inside.words_without) is)));
  seen = λ j small. subst (λ xs. Contains xs j) (sym (ap (λ x. x.inside.words_without) is)) (sees-more now.inside.words_without k h.seen j small);
}

-- one word more was seen to have none
pub seen-more : (setting : Setting) (v : AppView) (k : ℕ) → ((j : ℕ) → j < k → SawWithout setting v j) → SawWithout setting v k
    → (j : ℕ) → j < k + 1 → SawWithout setting v j
seen-more setting v k before here j small =
    ⊎_elim (before j) (λ top. subst (SawWithout setting v) (let same : k ≡ j = omega (arith, small, top) in same) here) (cases_lt j k)

-- what was picked is taken, and no buffer is in hand then
pub hands-once : (b : ℕ) (hands : List ℕ) → hands ≡ [] → without (nat_eq b) (hands ++ b ∷ []) ≡ hands
hands-once b hands bare = rw (bare, eqb_same b) refl
