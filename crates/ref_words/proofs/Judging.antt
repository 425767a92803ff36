-- The card looks at the user count for the entry in hand.
use Rattle.std.proofs.Common.{◌≡◌, ⊎_elim, ℕ, ◌+◌, ◌-◌, ◌<◌, Bool, true, false, List, ◌∷◌, length, refl, ap, sym, ◌∙◌, arith, subst, length-drop}
use Rattle.std.{specs.Prelude.{◌≢◌, ◌==◌, Some}, proofs.lemmas.Bool.{cases_Bool, cases_lt, Decides.{eqb_tells}}}
use Rattle.zr_kinds.specs.declared.ring.Rqe.{Rqe}
use Rattle.area_layout.specs.Layout.{all_buffers, judged}
use Rattle.board_face.specs.{Sides.{IsApp}, Holders.{lowered_in_hand, returning_in_hand, ended_in, returned_in, owed_in}}
use Rattle.board_face.specs.{Returns.{names, returns, is_some_of, entries_on_way}, Steps.{side_judged}, declared.views.parts.Setting.{Setting}}
use Rattle.board_face.{specs.declared.views.{nic.{Judged.TheVariants.{Not, Stray, Owed}, NicSide.{NicSide}}, app.AppSide.{AppSide}}, proofs.ListLemmas.{eqb_same}}
use Rattle.board_face.proofs.{Tallies.{one_if}, Parts.{owed_count, loans_in, user_count-own, returned_in-count, count-tally}}
use Rattle.ref_words.{specs.{Words.{Words, user_word_of}, Sides.{IsInHand, IsFirstRaw}, Rule.{RefRule}}, proofs.{RingSteps.{rings-card}, SlotSteps.{no-word}}}
use Rattle.ref_words.proofs.{CardLooks.{RefRule-card}, InHand.{in_hand, some-is, if-none}}

-- an application's user count is its loans there, out or owed
pub own-users : (setting : Setting) (words : Words) (nic : NicSide) (apps : List AppSide) (a b : ℕ) (app : AppSide) → RefRule setting words nic apps
    → IsApp apps a app → b < all_buffers setting.layout → user_word_of words a b ≡ loans_in b app + owed_count b nic app
own-users setting words nic apps a b app rule here within =
    rule.users a b (let h = here.there in omega (arith, rule.sides.set.many)) within
    ∙ user_count-own a b nic apps app rule.sides.set.numbers here

module _ (setting : Setting) (words : Words) (nic : NicSide) (apps : List AppSide) (a : ℕ) (entry : Rqe) (b : ℕ) (rule : RefRule setting words nic apps)
    (at : nic.inside.entry ≡ in_hand a entry Not) (named : judged setting.layout entry ≡ Some b) (within : b < all_buffers setting.layout) where
  known : IsInHand nic apps (record { app = a; entry = entry; judged = Not })
  known = rule.sides.hand (record { app = a; entry = entry; judged = Not }) at

  not-lowered : (x c : ℕ) → lowered_in_hand x c nic.inside.entry ≡ 0
  not-lowered x c = ap (lowered_in_hand x c) at ∙ if-none (a == x)

  not-returning : (x c : ℕ) → returning_in_hand x c nic.inside.entry ≡ 0
  not-returning x c = ap (returning_in_hand x c) at ∙ if-none (a == x)

  -- where the user count is above 0, a loan is owed that the entry gives back
  owes : (app : AppSide) → IsApp apps a app → 0 < user_word_of words a b → ended_in b nic app < length (returned_in b app)
  owes app here above =
      let layouts : app.view.setting.layout ≡ setting.layout =
      subst (λ x. x.view.setting.layout ≡ setting.layout) here.is (ap (λ s. s.layout) (rule.sides.set.others a app here.there)) in
      let front = known.first app here in
      let names_it : names app.view.setting.layout b front.first ≡ true =
      ap (λ l. is_some_of (judged l front.first.entry) b) layouts
      ∙ (ap (λ e. is_some_of (judged setting.layout e) b) front.same ∙ (ap (λ o. is_some_of o b) named ∙ eqb_same b)) in
      let users = own-users setting words nic apps a b app rule here within in
      let h = rule.sides.returns a app here in
      let owed : length (owed_in b nic app) ≡ length (returned_in b app) - ended_in b nic app = length-drop (ended_in b nic app) (returned_in b app) in
      ⊎_elim
      (λ of_loan.
      let counted : returns app.view.setting.layout b front.first ≡ true = rw of_loan names_it in
      omega (
        arith,
        rw front.is at (h.owed b),
        count-tally (returns app.view.setting.layout b) (front.first ∷ front.others),
        ap one_if counted,
        owed,
        not-lowered app.view.app b,
      ))
      (λ raw.
      let none = ((rw front.is at (h.clear b)).0 raw names_it).0 in
      omega (arith, users, above, none, count-tally (λ l. l.place.buffer == b) app.view.loans, returned_in-count b app))
      (cases_Bool front.first.of_loan)

  -- where it is 0 nothing is owed there, so the entry came from no loan
  stray-raw : (app : AppSide) → IsApp apps a app → user_word_of words a b ≡ 0 → IsFirstRaw (entries_on_way nic app)
  stray-raw app here zero =
      let layouts : app.view.setting.layout ≡ setting.layout =
      subst (λ x. x.view.setting.layout ≡ setting.layout) here.is (ap (λ s. s.layout) (rule.sides.set.others a app here.there)) in
      let front = known.first app here in
      let names_it : names app.view.setting.layout b front.first ≡ true =
      ap (λ l. is_some_of (judged l front.first.entry) b) layouts
      ∙ (ap (λ e. is_some_of (judged setting.layout e) b) front.same ∙ (ap (λ o. is_some_of o b) named ∙ eqb_same b)) in
      ⊎_elim
      (λ of_loan.
      let counted : returns app.view.setting.layout b front.first ≡ true = rw of_loan names_it in
      absurd (omega (
        arith,
        rw front.is at ((rule.sides.returns a app here).owed b),
        count-tally (returns app.view.setting.layout b) (front.first ∷ front.others),
        ap one_if counted,
        length-drop (ended_in b nic app) (returned_in b app),
        not-lowered app.view.app b,
        own-users setting words nic apps a b app rule here within,
        returned_in-count b app,
        zero,
      )))
      (λ raw. record { first = front.first; others = front.others; is = front.is; raw = raw })
      (cases_Bool front.first.of_loan)

  judge-case : (none : Bool) → (none ≡ false → 0 < user_word_of words a b) → (none ≡ true → user_word_of words a b ≡ 0)
      → RefRule setting words (side_judged nic a entry b none) apps
  judge-case true above zero =
      RefRule-card setting words nic apps rule (side_judged nic a entry b true) refl refl refl (λ x c. if-none (a == x) ∙ sym (not-lowered x c))
      (λ x c. if-none (a == x) ∙ sym (not-returning x c)) words (no-word setting words rule.sizes)
      (λ it is.
      subst
      (IsInHand (side_judged nic a entry b true) apps)
      (some-is (record { app = a; entry = entry; judged = Stray }) it is)
      (record {
        app = known.app;
        first = known.first;
        named = λ c e. absurd (let none : ⊥ = cc in none);
        owed = λ c e. absurd (let none : ⊥ = cc in none);
        lowered = λ c e. absurd (let none : ⊥ = cc in none);
        stray = λ e app here. stray-raw app here (zero refl);
      }))
      (rings-card setting words nic (side_judged nic a entry b true) apps refl refl refl refl rule.rings)
  judge-case false above zero =
      RefRule-card setting words nic apps rule (side_judged nic a entry b false) refl refl refl (λ x c. if-none (a == x) ∙ sym (not-lowered x c))
      (λ x c. if-none (a == x) ∙ sym (not-returning x c)) words (no-word setting words rule.sizes)
      (λ it is.
      subst
      (IsInHand (side_judged nic a entry b false) apps)
      (some-is (record { app = a; entry = entry; judged = Owed b }) it is)
      (record {
        app = known.app;
        first = known.first;
        named = λ c e.
            let same : b ≡ c = cc in subst (λ n. judged nic.view.setting.layout entry ≡ Some n) same (rw rule.sides.set.card named);
        owed = λ c e.
            let same : b ≡ c = cc in
            subst
            (λ n. (n < all_buffers nic.view.setting.layout)
            × ((app : AppSide) → IsApp apps a app → ended_in n (side_judged nic a entry b false) app < length (returned_in n app)))
            same (
              omega (arith, within, ap (λ s. all_buffers s.layout) rule.sides.set.card),
              λ app here. omega (arith, owes app here (above refl), not-lowered app.view.app b, if-none (a == app.view.app)),
            );
        lowered = λ c e. absurd (let none : ⊥ = cc in none);
        stray = λ e. absurd (let none : ⊥ = cc in none);
      }))
      (rings-card setting words nic (side_judged nic a entry b false) apps refl refl refl refl rule.rings)

  pub RefRule-looked : RefRule setting words (side_judged nic a entry b (user_word_of words a b == 0)) apps
  RefRule-looked =
      judge-case (user_word_of words a b == 0)
      (λ e. ⊎_elim
      (λ t. absurd (let both : true ≡ false = sym t.0 ∙ e in let none : ⊥ = cc in none))
      (λ t. let ne = t.1 in some-above (user_word_of words a b) ne)
      (eqb_tells (user_word_of words a b) 0))
      (λ e. ⊎_elim (λ t. t.1) (λ t. absurd (let both : true ≡ false = sym e ∙ t.0 in let none : ⊥ = cc in none)) (eqb_tells (user_word_of words a b) 0))
    where
      some-above : (n : ℕ) → n ≢ 0 → 0 < n
      some-above n ne = ⊎_elim (λ less. less) (λ none. absurd (ne (omega arith))) (cases_lt 0 n)
