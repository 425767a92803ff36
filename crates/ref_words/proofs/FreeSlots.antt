-- An application sees slots of its refill ring free, and falls quiet once it saw all of them free.
use Rattle.std.proofs.Common.{◌≡◌, ⊎_elim, ℕ, ◌%◌, ◌<◌, Bool, true, false, List, [], ◌∷◌, length, set, get_or, refl, ap, arith, mod-lt}
use Rattle.std.{specs.Prelude.{◌==◌, All, Contains}, proofs.{Math.Nat.{eq-or-lt_of_le}, lemmas.{Bool.{eqb-true}, List.{drop_all, Elements.{All-cons, All-contains}}}}}
use Rattle.board_face.specs.{Sides.{IsApp}, Relay.{dealt_entries}, Returns.{entries_on_way}, SlotSteps.{side_slot_free, side_fell_quiet}}
use Rattle.board_face.specs.declared.views.{parts.Setting.{Setting}, nic.NicSide.{NicSide}, app.{WrittenEntry.{WrittenEntry}, AppSide.{AppSide}}}
use Rattle.ref_words.specs.{Words.{Words, slot_word}, Rings.{IsFreeSlot, AreRings}, RestSteps.{side_slot_in_use, side_any_looked, side_last_looked}, Rule.{RefRule}}
use Rattle.ref_words.proofs.{RingSteps.{rings-others, rings-app}, SlotSteps.{no-word}, AppLooks.{RefRule-app}}

module _ (setting : Setting) (words : Words) (nic : NicSide) (apps : List AppSide) (app : AppSide) (rule : RefRule setting words nic apps)
    (here : IsApp apps app.view.app app) where
  abbrev a : ℕ
  a = app.view.app

  rings : AreRings setting words nic app
  rings = rule.rings a app here

  abbrev slots : List (List ℕ)
  slots = get_or words.refills a []

  abbrev taken : ℕ
  taken = length (dealt_entries a nic)

  -- a slot in use changes nothing but the looks
  in-use : RefRule setting words nic (set apps a (side_slot_in_use app))
  in-use =
      RefRule-app setting words nic apps a app rule here (side_slot_in_use app) refl (rule.sides.returns a app here).settled
      (rule.sides.returns a app here).quiet (λ e. e) words (no-word setting words rule.sizes)
      (rings-app setting words nic apps a app (side_slot_in_use app) here refl refl refl refl refl refl refl rule.rings)

  module _ (s : ℕ) (small : s < setting.places) (flag : slot_word words.refills a s 0 ≡ 0) where
    all-free : All (IsFreeSlot setting.places slots) (s ∷ app.inside.free_slots)
    all-free = All-cons (IsFreeSlot setting.places slots) s app.inside.free_slots (record { within = small; flag = flag }) rings.refills.free_slots

    sees : RefRule setting words nic (set apps a (side_slot_free app s))
    sees =
        let r = rings.refills in
        RefRule-app setting words nic apps a app rule here (side_slot_free app s) refl (rule.sides.returns a app here).settled
        (rule.sides.returns a app here).quiet (λ e. e) words (no-word setting words rule.sizes)
        (rings-others setting words nic apps a app (side_slot_free app s) here
        (record { refills = record { ring = r.ring; free_slots = all-free; raw_slot = r.raw_slot; none_raw = r.none_raw }; notes = rings.notes; left = rings.left })
        (λ k x is ne. rule.rings k x is))

    -- an entry on its way would lie in a slot whose flag is 1
    none : ((k : ℕ) → k < setting.places → Contains (s ∷ app.inside.free_slots) k) → taken < length app.view.written → ⊥
    none all some =
        let ring = rings.refills.ring in
        let k = taken % setting.places in
        let free = All-contains (IsFreeSlot setting.places slots) (s ∷ app.inside.free_slots) k all-free (all k (mod-lt taken ring.some)) in
        let entry : WrittenEntry = record { entry = record { off = 0; len = 0; pad = 0 }; of_loan = true } in
        let full = ap (λ slot. get_or slot 0 0) (ring.full taken entry (omega arith) some) in
        absurd (omega (arith, free.flag, full))

    nothing : ((k : ℕ) → k < setting.places → Contains (s ∷ app.inside.free_slots) k) → entries_on_way nic app ≡ []
    nothing all =
        ⊎_elim (λ e. drop_all taken app.view.written (omega (arith, e))) (λ less. absurd (none all less)) (eq-or-lt_of_le rings.refills.ring.order)

    falls-quiet : ((k : ℕ) → k < setting.places → Contains (s ∷ app.inside.free_slots) k)
        → RefRule setting words nic (set apps a (side_fell_quiet app s))
    falls-quiet all =
        let r = rings.refills in
        RefRule-app setting words nic apps a app rule here (side_fell_quiet app s) refl (rule.sides.returns a app here).settled
        (λ e. nothing all) (λ e. refl) words (no-word setting words rule.sizes)
        (rings-others setting words nic apps a app (side_fell_quiet app s) here
        (record { refills = record { ring = r.ring; free_slots = all-free; raw_slot = r.raw_slot; none_raw = r.none_raw }; notes = rings.notes; left = rings.left })
        (λ k x is ne. rule.rings k x is))

  any : (s : ℕ) → s < setting.places → (free : Bool) → (free ≡ true → slot_word words.refills a s 0 ≡ 0)
      → RefRule setting words nic (set apps a (side_any_looked app s free))
  any s small true flag = sees s small (flag refl)
  any s small false flag = in-use

  last : (s : ℕ) → s < setting.places → (free : Bool) → (free ≡ true → slot_word words.refills a s 0 ≡ 0)
      → ((k : ℕ) → k < setting.places → Contains (s ∷ app.inside.free_slots) k)
      → RefRule setting words nic (set apps a (side_last_looked app s free))
  last s small true flag all = falls-quiet s small (flag refl) all
  last s small false flag all = in-use

  pub any-looked : (s : ℕ) → s < setting.places
      → RefRule setting words nic (set apps a (side_any_looked app s (slot_word words.refills a s 0 == 0)))
  any-looked s small = any s small (slot_word words.refills a s 0 == 0) (λ e. eqb-true _ 0 e)

  pub last-looked : (s : ℕ) → s < setting.places → ((k : ℕ) → k < setting.places → Contains (s ∷ app.inside.free_slots) k)
      → RefRule setting words nic (set apps a (side_last_looked app s (slot_word words.refills a s 0 == 0)))
  last-looked s small all = last s small (slot_word words.refills a s 0 == 0) (λ e. eqb-true _ 0 e) all
