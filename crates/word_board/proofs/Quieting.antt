-- The refill slots that an application saw free, one by one.
use Rattle.std.{proofs.{Common.{◌≡◌, ⊎_elim, ℕ, ◌+◌, ◌<◌, List, [], ◌∷◌, ap, sym, ◌∙◌, arith, subst}, lemmas.Bool.{cases_lt}}, specs.Prelude.{Contains}}
use Rattle.std.proofs.lemmas.List.Elements.{Contains-get_or, Contains-append_right}
use Rattle.board_face.specs.{SlotSteps.{side_slot_free}, declared.views.app.AppSide.{AppSide}}

-- the side with these slots seen free
abbrev pub with_free_slots : AppSide → List ℕ → AppSide
with_free_slots app slots = record app { inside = record app.inside { free_slots = slots } }

-- The slots below k were seen free, and nothing else was done.
pub record AreSeenFree (first now : AppSide) (k : ℕ) : Type 0 where
  pub event : now ≡ with_free_slots first now.inside.free_slots
  pub seen : (s : ℕ) → s < k → Contains now.inside.free_slots s

-- another one was
pub sees-more : (slots : List ℕ) (k : ℕ) → ((s : ℕ) → s < k → Contains slots s) → (s : ℕ) → s < k + 1 → Contains (k ∷ slots) s
sees-more slots k seen s small =
    ⊎_elim
    (λ less. Contains-append_right (k ∷ []) slots s (seen s less))
    (λ top. let same : k ≡ s = omega arith in subst (Contains (k ∷ slots)) same (Contains-get_or (k ∷ slots) 0 s (omega arith)))
    (cases_lt s k)

pub AreSeenFree-more : (first now next : AppSide) (k : ℕ) → AreSeenFree first now k → next ≡ side_slot_free now k → AreSeenFree first next (k + 1)
AreSeenFree-more first now next k h is = record {
  event = is ∙ (ap (λ x. side_slot_free x k) h.event ∙ ap (with_free_slots first) (sym (ap (λ x. x.inside.free_slots) is)));
  seen = λ s small. subst (λ xs. Contains xs s) (sym (ap (λ x. x.inside.free_slots) is)) (sees-more now.inside.free_slots k h.seen s small);
}
