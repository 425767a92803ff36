-- A loan is given back, or a raw entry written.
use Rattle.std.proofs.{Common.{◌≡◌, ℕ, zero, suc, ◌%◌, ◌<◌, true, false, List, [], length, set, refl, ap, sym, ◌∙◌, arith, Some, ⊎_elim}, lemmas.Bool.{cases_Bool}}
use Rattle.std.proofs.lemmas.List.Elements.{All-push, All-nil}
use Rattle.zr_kinds.specs.declared.{place.Place.{Place}, ring.Rqe.{Rqe}}
use Rattle.area_layout.{specs.Layout.{judged, LiesIn}, proofs.Words.{place_judged}}
use Rattle.board_face.specs.{AppCalls.{HasLoan, NamesNoLoan}, AppEvents.{entry_of}, Counts.{EndedWereReturned}, Returns.{IsOfLoan}, Sides.{IsApp}}
use Rattle.board_face.specs.{SlotSteps.{side_gave, side_pushed}, declared.views.{parts.Setting.{Setting}, nic.NicSide.{NicSide}, app.WrittenEntry.{WrittenEntry}}}
use Rattle.board_face.{specs.declared.views.app.AppSide.{AppSide}, proofs.AppLemmas.{app_count-gave, user_part-gave, EndedWereReturned-abandoned}}
use Rattle.board_face.proofs.{ArePlacedLemmas.{app_places-gave}, LiesLemmas.{loan-lies}, WrittenLemmas.{AreReturns-gave, AreReturns-pushed, returned-more}}
use Rattle.word_rings.specs.Slots.{entry_body}
use Rattle.ref_words.{specs.{Words.{Words, with_refill}, Rings.{EntryFits, writes_entry_at}, Rule.{RefRule}}, proofs.SideSteps.{mine, own-setting}}
use Rattle.ref_words.proofs.Writing.{RefRule-written, last-raw-stays, few}

module _ (setting : Setting) (words : Words) (nic : NicSide) (apps : List AppSide) (app : AppSide) (rule : RefRule setting words nic apps)
    (here : IsApp apps app.view.app app) where
  abbrev a : ℕ
  a = app.view.app

  sound : (b : ℕ) → EndedWereReturned b nic app
  sound b = mine setting nic apps a app rule.sides here (EndedWereReturned b nic) (rule.sides.returned b)

  settings : app.view.setting ≡ setting
  settings = own-setting setting nic apps a app rule.sides here

  pub gives : (place : Place) → HasLoan app.view place → app.inside.refill_slot.seen ≡ true
      → app.inside.refill_slot.words ≡ entry_body (entry_of app.view.setting.layout place)
      → EntryFits (record { entry = entry_of app.view.setting.layout place; of_loan = true })
      → RefRule setting (with_refill words a (writes_entry_at setting app) 0 1) nic (set apps a (side_gave app place))
  gives place out saw words_are fits =
      let w : WrittenEntry = record { entry = entry_of app.view.setting.layout place; of_loan = true } in
      let now = side_gave app place in
      let lies = loan-lies nic apps a app here place (rule.sides.placed place.buffer) (rule.sides.by_one place.buffer).inside out in
      let layouts : nic.view.setting.layout ≡ app.view.setting.layout = ap (λ s. s.layout) (rule.sides.set.card ∙ sym settings) in
      let inside : LiesIn app.view.setting.layout place = rw (← layouts) lies.0 in
      let named : judged app.view.setting.layout (entry_of app.view.setting.layout place) ≡ Some place.buffer =
      place_judged app.view.setting.layout place place.len (rw settings rule.layout) inside (let i = inside.bytes in let some = lies.1 in omega arith) in
      let unlent : app.view.loans ≡ [] → ⊥ = λ none. let there = (rw none at out).1 in omega arith in
      let unscrubbed : app.view.scrubbed ≡ false =
      ⊎_elim (λ done. absurd (unlent (rule.sides.scrubbed a app here done).loans)) (λ isnt. isnt) (cases_Bool app.view.scrubbed) in
      let was = rule.rings a app here in
      let r = AreReturns-gave nic app (few setting words nic apps app rule here) place out named sound
      (λ e. absurd (let wrong : false ≡ true = sym unscrubbed ∙ e in let none : ⊥ = cc in none)) (rule.sides.returns a app here) in
      RefRule-written setting words nic apps app rule here now w (record {
        same = refl;
        fits = fits;
        places = λ b test. omega (arith, app_places-gave b test nic app place out (sound b));
        counts = λ b. app_count-gave b nic app place out (sound b);
        users = λ x b. user_part-gave x b nic app place out (sound b);
        returned = λ b. assumption (EndedWereReturned-abandoned b nic app place (sound b));
        came_back = λ b. omega (arith, returned-more b app place);
        returns = assumption r;
        unbegun = mark-none (λ some. unlent ((rule.sides.scrub a app here).loans some));
        unscrubbed = unscrubbed;
        raw_slot = λ s e. last-raw-stays setting.places s app.view.written w refl (was.refills.raw_slot s e);
        none_raw = λ e. All-push IsOfLoan app.view.written w (was.refills.none_raw e) refl;
      }) saw words_are
    where
      mark-none : (0 < app.inside.scrub_mark → ⊥) → app.inside.scrub_mark ≡ 0
      mark-none never = none-of app.inside.scrub_mark never
        where
          none-of : (n : ℕ) → (0 < n → ⊥) → n ≡ 0
          none-of zero never = refl
          none-of (suc n) never = absurd (never (omega arith))

  pub pushes : (entry : Rqe) → NamesNoLoan app.view entry → app.view.scrubbed ≡ false → app.inside.scrub_mark ≡ 0
      → app.inside.refill_slot.seen ≡ true → app.inside.refill_slot.words ≡ entry_body entry
      → EntryFits (record { entry = entry; of_loan = false })
      → RefRule setting (with_refill words a (writes_entry_at setting app) 0 1) nic (set apps a (side_pushed app entry))
  pushes entry unlent unscrubbed unbegun saw words_are fits =
      let w : WrittenEntry = record { entry = entry; of_loan = false } in
      let r = AreReturns-pushed nic app (few setting words nic apps app rule here) entry unlent unscrubbed (rule.sides.returns a app here) in
      RefRule-written setting words nic apps app rule here (side_pushed app entry) w (record {
        same = refl;
        fits = fits;
        places = λ b test. omega arith;
        counts = λ b. refl;
        users = λ x b. refl;
        returned = λ b. assumption (sound b);
        came_back = λ b. omega arith;
        returns = assumption r;
        unbegun = unbegun;
        unscrubbed = unscrubbed;
        raw_slot = λ s e. record {
          before = app.view.written;
          entry = w;
          behind = [];
          is = refl;
          raw = refl;
          others = All-nil _;
          slot = sym (let same : length app.view.written % app.view.setting.places ≡ s = cc in same)
              ∙ ap (λ t. length app.view.written % t.places) settings;
        };
        none_raw = λ e. absurd (let none : ⊥ = cc in none);
      }) saw words_are
