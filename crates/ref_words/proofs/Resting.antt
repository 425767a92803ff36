-- An application looks at the slot of its last raw entry.
use Rattle.std.proofs.Common.{◌≡◌, ⊎_elim, ℕ, suc, ◌+◌, ◌-◌, ◌%◌, ◌<◌, Bool, true, false, List, [], ◌∷◌}
use Rattle.std.{proofs.Common.{◌++◌, length, drop, set, get_or, refl, ap, sym, ◌∙◌, arith, subst, length-append}, specs.Prelude.{◌==◌, All, Some}}
use Rattle.std.proofs.{Math.Seq.{drop-append-add}, lemmas.{Bool.{cases_lt, eqb-true}, List.Elements.{All-drop}}}
use Rattle.board_face.specs.{Sides.{IsApp}, Relay.{dealt_entries}, Returns.{IsOfLoan, entries_on_way}, declared.views.{parts.Setting.{Setting}, nic.NicSide.{NicSide}}}
use Rattle.board_face.specs.declared.views.app.AppSide.{AppSide}
use Rattle.ref_words.{specs.{Words.{Words, slot_word}, Rings.{IsLastRaw, AreRings}, RestSteps.{side_raw_looked}, Rule.{RefRule}}, proofs.RingSteps.{rings-app}}
use Rattle.ref_words.proofs.{SlotSteps.{no-word}, AppLooks.{RefRule-app}}

module _ (setting : Setting) (words : Words) (nic : NicSide) (apps : List AppSide) (app : AppSide) (s : ℕ) (rule : RefRule setting words nic apps)
    (here : IsApp apps app.view.app app) (known : app.inside.raw_slot ≡ Some s) where
  abbrev a : ℕ
  a = app.view.app

  rings : AreRings setting words nic app
  rings = rule.rings a app here

  abbrev taken : ℕ
  taken = length (dealt_entries a nic)

  raw : IsLastRaw setting.places app.view.written s
  raw = rings.refills.raw_slot s known

  -- where its slot is free the card has dealt with the last raw entry
  past : slot_word words.refills a s 0 ≡ 0 → length raw.before < taken
  past flag =
      ⊎_elim
      (λ less. less)
      (λ from.
      let k = length raw.before in
      let full = rings.refills.ring.full k raw.entry from (omega (arith, ap length raw.is, length-append raw.before (raw.entry ∷ raw.behind))) in
      let one : get_or (get_or (get_or words.refills a []) (k % setting.places) []) 0 0 ≡ 1 = ap (λ slot. get_or slot 0 0) full in
      absurd (omega (arith, flag, ap (λ x. slot_word words.refills a x 0) raw.slot, one)))
      (cases_lt (length raw.before) taken)

  -- and only entries of loans are on their way behind it
  at-rest : slot_word words.refills a s 0 ≡ 0 → All IsOfLoan (entries_on_way nic app)
  at-rest flag =
      let k = length raw.before in
      let more = taken - (k + 1) in
      let p = past flag in
      let at : taken ≡ k + suc more = omega (arith, p) in
      let left : drop taken app.view.written ≡ drop more raw.behind = ap (drop taken) raw.is
      ∙ (ap (λ n. drop n (raw.before ++ raw.entry ∷ raw.behind)) at ∙ drop-append-add raw.before (raw.entry ∷ raw.behind) (suc more)) in
      subst (All IsOfLoan) (sym left) (All-drop IsOfLoan more raw.behind raw.others)

  rests : (free : Bool) → (free ≡ true → slot_word words.refills a s 0 ≡ 0) → RefRule setting words nic (set apps a (side_raw_looked app free))
  rests true flag =
      RefRule-app setting words nic apps a app rule here (side_raw_looked app true) refl (λ e. at-rest (flag refl))
      (rule.sides.returns a app here).quiet (λ e. e) words (no-word setting words rule.sizes)
      (rings-app setting words nic apps a app (side_raw_looked app true) here refl refl refl refl refl refl refl rule.rings)
  rests false flag =
      RefRule-app setting words nic apps a app rule here (side_raw_looked app false) refl (rule.sides.returns a app here).settled
      (rule.sides.returns a app here).quiet (λ e. e) words (no-word setting words rule.sizes)
      (rings-app setting words nic apps a app (side_raw_looked app false) here refl refl refl refl refl refl refl rule.rings)

  pub raw-looked : RefRule setting words nic (set apps a (side_raw_looked app (slot_word words.refills a s 0 == 0)))
  raw-looked = rests (slot_word words.refills a s 0 == 0) (λ e. eqb-true _ 0 e)
