-- An application lends a held piece.
use Rattle.std.{proofs.{Common.{◌≡◌, ⊎_elim, ℕ, ◌+◌, ◌^◌, ◌<◌, List, set, refl, sym, ◌∙◌, arith, []}, lemmas.Bool.{cases_lt}}, specs.Prelude.{true, false, ◌==◌, ◌&&◌}}
use Rattle.area_layout.specs.Layout.{all_buffers}
use Rattle.board_face.specs.{AppEvents.{reserve_of}, Sides.{IsApp}, Counts.{pool_count, user_count, EndedWereReturned}, declared.views.parts.Setting.{Setting}}
use Rattle.board_face.specs.{declared.views.{nic.NicSide.{NicSide}, app.AppSide.{AppSide}}, AppCalls.{HasHeld, CanLend}}
use Rattle.board_face.proofs.{AppLemmas.{pool_count-app, user_count-app, app_count-lent, user_part-lent}, ArePlacedLemmas.{ArePlaced-lent}}
use Rattle.board_face.proofs.{MadeLastLemmas.{IsMadeLast-lent}, IsFilledByOneLemmas.{IsFilledByOne-lent}, FillingsFitLemmas.{FillingsFit-same}}
use Rattle.board_face.{specs.{AppEvents.{lent}, Sides.{app_at}, Returns.{loans_out, entries_on_way, IsClear}}, proofs.FreeLemmas.{user_count-le}}
use Rattle.board_face.proofs.{ReturnLemmas.{IsClear-of_loans}, Tallies.{one_if}, Counting.{weight-same}}
use Rattle.zr_kinds.specs.declared.place.Place.{Place}
use Rattle.ref_words.{specs.{Words.{Words, user_word_of, listed_bit}, Rule.{RefRule}}, proofs.{RingSteps.{rings-app}, Frees.{AreKept-app, free_places-hands}}}
use Rattle.ref_words.proofs.{InHand.{same-if, other-pair}, SideSteps.{own-was, mine, SidesRule-app, is-app, in-area}, UserSteps.{IsUserStep}, Beginning.{few-holders}}
use Rattle.ref_words.proofs.LineLemmas.{AreByLine-lent}

module _ (setting : Setting) (words : Words) (nic : NicSide) (apps : List AppSide) (a : ℕ) (app : AppSide) (place : Place)
    (rule : RefRule setting words nic apps) (here : IsApp apps a app) (out : HasHeld app.view place) (can : CanLend app.view)
    (unbegun : app.inside.scrub_mark ≡ 0) where
  abbrev now : AppSide
  now = app_at app (lent app.view place)

  abbrev apps' : List AppSide
  apps' = set apps a now

  same_pool : (b : ℕ) → pool_count b nic apps' ≡ pool_count b nic apps
  same_pool b = omega (arith, pool_count-app b nic apps a app now here, app_count-lent b nic app place out)

  more-users : (x b : ℕ) → user_count x b nic apps' ≡ user_count x b nic apps + one_if ((app.view.app == x) && (place.buffer == b))
  more-users x b = omega (arith, user_count-app x b nic apps a app now here, user_part-lent x b nic app place)

  one : one_if ((app.view.app == a) && (place.buffer == place.buffer)) ≡ 1
  one = same-if app.view.app a place.buffer place.buffer (sym here.number) ∙ weight-same place.buffer

  -- a buffer with a loan lies in the area
  within : place.buffer < all_buffers nic.view.setting.layout
  within =
      ⊎_elim
      (λ small. small)
      (λ past. absurd (omega (
        arith,
        (rule.sides.by_one place.buffer).inside past,
        same_pool place.buffer,
        more-users a place.buffer,
        one,
        user_count-le a place.buffer nic apps',
      )))
      (cases_lt place.buffer (all_buffers nic.view.setting.layout))

  there : place.buffer < all_buffers setting.layout
  there = in-area rule.sides within

  pub few : user_word_of words a place.buffer + 1 < 2 ^ 64
  few =
      omega (
        arith,
        rule.users a place.buffer (is-app rule.sides here) there,
        user_count-le a place.buffer nic apps,
        rule.pool place.buffer there,
        few-holders setting words nic apps place.buffer rule there,
      )

  pub step : IsUserStep setting words nic nic apps apps' a place.buffer (user_word_of words a place.buffer + 1)
  step = record {
    app = is-app rule.sides here;
    there = there;
    sides = SidesRule-app setting nic apps a app rule.sides here now (record {
      placed = λ b. ArePlaced-lent b nic apps a app place here out (rule.sides.placed b);
      lines = λ b. AreByLine-lent b nic apps a app place here out (rule.sides.lines b);
      by_one = λ b. IsFilledByOne-lent b nic apps a app place here out (rule.sides.by_one b);
      fit = FillingsFit-same nic apps a app now here refl rule.sides.fit;
      made = IsMadeLast-lent nic apps a app place here out rule.sides.made;
      returned = λ b. assumption (mine setting nic apps a app rule.sides here (EndedWereReturned b nic) (rule.sides.returned b));
      reserve = record { unheld = λ free. same_pool (reserve_of app.view) ∙ (rule.sides.reserves a app here).unheld free };
      unheld = λ b past ne none. same_pool b ∙ none;
      scrubbed = λ done. absurd (let wrong : true ≡ false = sym done ∙ can.counted in let no : ⊥ = cc in no);
      own = let was = own-was setting nic apps a app rule.sides here in
          let clear : (b : ℕ) → IsClear app.view.setting.layout b (loans_out b now) (entries_on_way nic now) = λ b.
          IsClear-of_loans app.view.setting.layout b (loans_out b now) (entries_on_way nic now) (was.returns.settled can.settled) in
          let loans : 0 < app.inside.scrub_mark → now.view.loans ≡ [] = λ some. absurd (omega (arith, unbegun, some)) in
          assumption (was, clear, loans);
    });
    here = omega (arith, rule.users a place.buffer (is-app rule.sides here) there, more-users a place.buffer, one);
    others = λ x c other. omega (arith, more-users x c, other-pair app.view.app x place.buffer c (λ e f. other (sym e ∙ here.number, sym f)));
    pool = same_pool;
    free = λ b. omega (arith, free_places-hands (listed_bit words) b nic apps a app now here);
    kept = AreKept-app (listed_bit words) nic apps a app now here refl rule.kept;
    rings = rings-app setting words nic apps a app now here refl refl refl refl refl refl refl rule.rings;
  }
