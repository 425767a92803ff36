-- The rings of a board, where one of them moved.
use Rattle.std.{proofs.{Common.{◌≡◌, ⊎_elim, ℕ, ◌<◌, List, length, set, subst}, lemmas.List.{get_or-set_same, get_or-set_other}}, specs.Prelude.{◌≢◌}}
use Rattle.std.proofs.lemmas.Bool.Decides.{eqb_tells}
use Rattle.board_face.specs.{Sides.{IsApp}, Opened.{unseen}, SlotSteps.{next_slot}, declared.views.{parts.{Setting.{Setting}, Slot.{Slot}}, nic.NicSide.{NicSide}}}
use Rattle.board_face.specs.declared.views.app.AppSide.{AppSide}
use Rattle.ref_words.{specs.{Words.{Words}, Rings.{AreRings}}, proofs.RingSteps.{AllRings}}

-- what the card has seen of its next slot for one application changes
pub slot-here : (slots : List Slot) (a : ℕ) (slot : Slot) → a < length slots → next_slot (set slots a slot) a ≡ slot
slot-here slots a slot there = get_or-set_same slots a slot unseen there

pub slot-other : (slots : List Slot) (a : ℕ) (slot : Slot) (k : ℕ) → k ≢ a → next_slot (set slots a slot) k ≡ next_slot slots k
slot-other slots a slot k ne = get_or-set_other slots a k slot unseen ne

-- the rings of one application and those of the others are all
pub rings-parts : (setting : Setting) (words : Words) (nic : NicSide) (apps : List AppSide) (a : ℕ)
    → ((x : AppSide) → IsApp apps a x → AreRings setting words nic x)
    → ((k : ℕ) (x : AppSide) → IsApp apps k x → k ≢ a → AreRings setting words nic x) → AllRings setting words nic apps
rings-parts setting words nic apps a mine others k x is =
    ⊎_elim
    (λ t. let e : k ≡ a = t.1 in mine x (subst (λ n. IsApp apps n x) e is))
    (λ t. let ne : k ≢ a = t.1 in others k x is ne)
    (eqb_tells k a)
