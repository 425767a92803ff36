-- What the card deals with: an entry that gave a reference back, or a stray.
use Rattle.std.proofs.Common.{◌≡◌, ⊎_elim, ℕ, ◌+◌, ◌<◌, ◌≤◌, Bool, true, false, List, ◌∷◌, length, refl, ap, sym, ◌∙◌, arith, subst, Some, None}
use Rattle.std.{specs.Prelude.{◌==◌, ◌&&◌, if◌then◌else◌, count_by, IsSome}, proofs.lemmas.{Bool.{cases_Bool, eq-eqb}, List.Elements.{All-head}}}
use Rattle.zr_kinds.specs.declared.ring.Rqe.{Rqe}
use Rattle.area_layout.specs.Layout.{judged}
use Rattle.board_face.specs.{NicCalls.{apps_of}, Holders.{lowered_in_hand, returning_in_hand, owed_in}}
use Rattle.board_face.specs.{Returns.{IsNamed, returns, names, is_some_of, abandoned_in, entries_on_way}, Sides.{IsApp}, SlotSteps.{next_slot, side_dealt}}
use Rattle.board_face.specs.declared.views.{parts.Setting.{Setting}, nic.{Fate.TheVariants.{Honoured, Stray}, Judged.{Judged}}}
use Rattle.board_face.specs.declared.views.{nic.{Judged.TheVariants.{Not, Stray as judged_stray, BothLowered}, NicSide.{NicSide}}, app.AppSide.{AppSide}}
use Rattle.board_face.proofs.{Tallies.{one_if, one_if-le}, Counting.{count-first, weight-and}}
use Rattle.ref_words.{specs.{Words.{Words, with_refill}, Rings.{takes_entry_at}, Sides.{IsInHand, IsFirstRaw}, Rule.{RefRule}}, proofs.InHand.{in_hand, if-none}}
use Rattle.ref_words.proofs.Dealing.{RefRule-dealt}

no-honour : (c : Bool) → one_if (c && false) ≡ (if c then 0 else 0)
no-honour true = refl
no-honour false = refl

module _ (setting : Setting) (words : Words) (nic : NicSide) (apps : List AppSide) (a : ℕ) (entry : Rqe) (rule : RefRule setting words nic apps)
    (is_app : a < apps_of setting) (saw : (next_slot nic.inside.refill_slots a).seen ≡ true) where
  layouts : (app : AppSide) → IsApp apps a app → app.view.setting.layout ≡ setting.layout
  layouts app here = subst (λ x. x.view.setting.layout ≡ setting.layout) here.is (ap (λ s. s.layout) (rule.sides.set.others a app here.there))

  -- ---- honoured

  module _ (b : ℕ) (at : nic.inside.entry ≡ in_hand a entry (BothLowered b)) where
    known : IsInHand nic apps (record { app = a; entry = entry; judged = BothLowered b })
    known = rule.sides.hand (record { app = a; entry = entry; judged = BothLowered b }) at

    named : judged setting.layout entry ≡ Some b
    named = subst (λ s. judged s.layout entry ≡ Some b) rule.sides.set.card (known.named b refl)

    -- the first entry names that buffer and no other
    names-it : (app : AppSide) (here : IsApp apps a app) (c : ℕ) → names app.view.setting.layout c (known.first app here).first ≡ (b == c)
    names-it app here c =
        ap (λ l. is_some_of (judged l (known.first app here).first.entry) c) (layouts app here)
        ∙ (ap (λ e. is_some_of (judged setting.layout e) c) (known.first app here).same ∙ ap (λ o. is_some_of o c) named)

    lowered-here : (app : AppSide) → IsApp apps a app → (c : ℕ) → lowered_in_hand app.view.app c nic.inside.entry ≡ one_if (b == c)
    lowered-here app here c = ap (lowered_in_hand app.view.app c) at ∙ ap (λ z. if z then one_if (b == c) else 0) (eq-eqb a app.view.app (sym here.number))

    still-owed : (app : AppSide) (here : IsApp apps a app) (c : ℕ)
        → count_by (returns app.view.setting.layout c) (known.first app here).others ≤ length (owed_in c nic app)
    still-owed app here c =
        let front = known.first app here in
        let h = rule.sides.returns a app here in
        let all = rw front.is at (h.owed c) in
        let parts = count-first (returns app.view.setting.layout c) front.first front.others in
        ⊎_elim
        (λ is.
        ⊎_elim
        (λ of_loan.
        let counted : returns app.view.setting.layout c front.first ≡ true = rw of_loan (names-it app here c ∙ is) in
        omega (arith, all, parts, ap one_if counted, lowered-here app here c, ap one_if is))
        (λ raw.
        let none = ((rw front.is at (h.clear c)).0 raw (names-it app here c ∙ is)).1 in omega (arith, none))
        (cases_Bool front.first.of_loan))
        (λ isnt. omega (arith, all, parts, lowered-here app here c, ap one_if isnt))
        (cases_Bool (b == c))

    rest-owed : (app : AppSide) (here : IsApp apps a app) (c : ℕ)
        → length (owed_in c nic app) ≤ count_by (returns app.view.setting.layout c) (known.first app here).others + abandoned_in c app
    rest-owed app here c =
        let front = known.first app here in
        let h = rule.sides.returns a app here in
        let all = rw front.is at (h.no_more c) in
        let parts = count-first (returns app.view.setting.layout c) front.first front.others in
        let most = one_if-le (returns app.view.setting.layout c front.first) in
        ⊎_elim
        (λ is. omega (arith, all, parts, most, lowered-here app here c, ap one_if is))
        (λ isnt.
        let none : returns app.view.setting.layout c front.first ≡ false = if-false front.first.of_loan (names app.view.setting.layout c front.first)
        (names-it app here c ∙ isnt) in
        omega (arith, all, parts, ap one_if none, lowered-here app here c, ap one_if isnt))
        (cases_Bool (b == c))
      where
        if-false : (z n : Bool) → n ≡ false → (if z then n else false) ≡ false
        if-false true n isnt = isnt
        if-false false n isnt = refl

    pub honours : RefRule setting (with_refill words a (takes_entry_at setting nic a) 0 0) (side_dealt nic a entry (Honoured b)) apps
    honours = RefRule-dealt setting words nic apps a entry (Honoured b) (λ c. one_if (b == c)) rule is_app (record {
      lowered = λ x c. ap (lowered_in_hand x c) at;
      counted = λ x c. sym (weight-and (a == x) (b == c));
      returning = λ x c. ap (returning_in_hand x c) at ∙ if-none (a == x);
      first = known.first;
      honoured = λ buffer e. let same : b ≡ buffer = cc in subst (λ n. judged setting.layout entry ≡ Some n) same named;
      still = still-owed;
      rest = rest-owed;
      stray = λ app here of_loan. refl;
    }) saw

  -- ---- a stray

  module _ (how : Judged) (at : nic.inside.entry ≡ in_hand a entry how) (lowered : (x c : ℕ)
      → lowered_in_hand x c nic.inside.entry ≡ (if a == x then 0 else 0))
      (returning : (x c : ℕ) → returning_in_hand x c nic.inside.entry ≡ 0)
      (raw : (app : AppSide) → IsApp apps a app → IsFirstRaw (entries_on_way nic app)) where
    taken : IsInHand nic apps (record { app = a; entry = entry; judged = how })
    taken = rule.sides.hand (record { app = a; entry = entry; judged = how }) at

    is-raw : (app : AppSide) (here : IsApp apps a app) → (taken.first app here).first.of_loan ≡ false
    is-raw app here =
        let front = taken.first app here in
        let r = raw app here in
        let same : front.first ∷ front.others ≡ r.first ∷ r.others = sym front.is ∙ r.is in
        let one : front.first ≡ r.first = cc in ap (λ w. w.of_loan) one ∙ r.raw

    none-counted : (app : AppSide) (here : IsApp apps a app) (c : ℕ) → returns app.view.setting.layout c (taken.first app here).first ≡ false
    none-counted app here c = rw (is-raw app here) refl

    pub passes-over : RefRule setting (with_refill words a (takes_entry_at setting nic a) 0 0) (side_dealt nic a entry Stray) apps
    passes-over = RefRule-dealt setting words nic apps a entry Stray (λ c. 0) rule is_app (record {
      lowered = lowered;
      counted = λ x c. no-honour (a == x);
      returning = returning;
      first = taken.first;
      honoured = λ buffer e. absurd (let none : ⊥ = cc in none);
      still = λ app here c.
          let front = taken.first app here in
          omega (
            arith,
            rw front.is at ((rule.sides.returns a app here).owed c),
            count-first (returns app.view.setting.layout c) front.first front.others,
            lowered app.view.app c,
            if-none (a == app.view.app),
          );
      rest = λ app here c.
          let front = taken.first app here in
          omega (
            arith,
            rw front.is at ((rule.sides.returns a app here).no_more c),
            count-first (returns app.view.setting.layout c) front.first front.others,
            ap one_if (none-counted app here c),
          );
      stray = λ app here of_loan. absurd (let wrong : true ≡ false = sym of_loan ∙ is-raw app here in let none : ⊥ = cc in none);
    }) saw

  pub passes-stray : nic.inside.entry ≡ in_hand a entry judged_stray
      → RefRule setting (with_refill words a (takes_entry_at setting nic a) 0 0) (side_dealt nic a entry Stray) apps
  passes-stray at =
      passes-over judged_stray at (λ x c. ap (lowered_in_hand x c) at) (λ x c. ap (returning_in_hand x c) at ∙ if-none (a == x))
      ((rule.sides.hand (record { app = a; entry = entry; judged = judged_stray }) at).stray refl)

  -- an entry that names no buffer came from no loan
  pub passes-void : nic.inside.entry ≡ in_hand a entry Not → judged setting.layout entry ≡ None
      → RefRule setting (with_refill words a (takes_entry_at setting nic a) 0 0) (side_dealt nic a entry Stray) apps
  passes-void at void =
      passes-over Not at (λ x c. ap (lowered_in_hand x c) at) (λ x c. ap (returning_in_hand x c) at ∙ if-none (a == x)) first-raw
    where
      no-loan : (c : Bool) → (c ≡ true → IsSome (judged setting.layout entry)) → c ≡ false
      no-loan true some = absurd (let wrong : false ≡ true = rw void at (some refl) in let none : ⊥ = cc in none)
      no-loan false some = refl

      first-raw : (app : AppSide) → IsApp apps a app → IsFirstRaw (entries_on_way nic app)
      first-raw app here =
          let front = (rule.sides.hand (record { app = a; entry = entry; judged = Not }) at).first app here in
          let named = All-head (IsNamed app.view.setting.layout) front.first front.others (rw front.is at (rule.sides.returns a app here).named) in
          record {
            first = front.first;
            others = front.others;
            is = front.is;
            raw = no-loan front.first.of_loan (λ of_loan.
                subst (λ e. IsSome (judged setting.layout e)) front.same
                (subst (λ l. IsSome (judged l front.first.entry)) (layouts app here) (named of_loan)));
          }
