-- An application looks at a word of the free list.
use Rattle.std.proofs.{Common.{◌≡◌, ℕ, Bool, true, false, List, ◌∷◌, set, refl, sym, arith, subst}, lemmas.List.{set-get_or}}
use Rattle.board_face.specs.{Sides.{IsApp}, Used.{HasFewPicks}, declared.views.{parts.Setting.{Setting}, nic.NicSide.{NicSide}, app.AppSide.{AppSide}}}
use Rattle.ref_words.{specs.{Words.{Words, listed_bit}, FreeSteps.{side_word_without, side_word_looked}, Rule.{RefRule}}, proofs.Frees.{AreKept-app, free_places-hands}}
use Rattle.ref_words.proofs.{SideSteps.{mine}, SlotSteps.{RefRule-slot, no-word}}
use Rattle.ref_words.proofs.AppHands as hands

module _ (setting : Setting) (words : Words) (nic : NicSide) (apps : List AppSide) (a : ℕ) (app : AppSide) (j : ℕ)
    (rule : RefRule setting words nic apps) (here : IsApp apps a app) where
  abbrev now : AppSide
  now = side_word_without app j

  -- the word has nothing for it
  pub without : RefRule setting words nic (set apps a now)
  without = RefRule-slot setting words words nic nic apps (set apps a now) rule (no-word setting words rule.sizes) (record {
    sides = hands.sides setting words nic apps a app rule here app.view.picked app.inside.hands (j ∷ app.inside.words_without)
        (assumption (mine setting nic apps a app rule.sides here HasFewPicks rule.sides.few));
    pool = hands.pools setting words nic apps a app rule here app.view.picked app.inside.hands (j ∷ app.inside.words_without);
    users = hands.users setting words nic apps a app rule here app.view.picked app.inside.hands (j ∷ app.inside.words_without);
    free = λ b. omega (arith, free_places-hands (listed_bit words) b nic apps a app now here);
    kept = AreKept-app (listed_bit words) nic apps a app now here refl rule.kept;
    rings = hands.rings setting words nic apps a app rule here app.view.picked app.inside.hands (j ∷ app.inside.words_without);
  })

  pub looks : (none : Bool) → RefRule setting words nic (set apps a (side_word_looked app j none))
  looks true = without
  looks false = subst (λ xs. RefRule setting words nic xs) (sym same) rule
    where
      same : set apps a app ≡ apps
      same = subst (λ x. set apps a x ≡ apps) here.is (set-get_or apps a app)
