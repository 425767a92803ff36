-- An application cuts a held piece in two.
use Rattle.std.{proofs.{Common.{◌≡◌, ⊎_elim, ℕ, ◌+◌, ◌<◌, ◌≤◌, List, set, refl, sym, arith}, lemmas.Bool.{cases_lt}}, specs.Prelude.{◌==◌}}
use Rattle.zr_kinds.specs.declared.place.Place.{Place}
use Rattle.area_layout.specs.Layout.{all_buffers}
use Rattle.board_face.specs.{AppEvents.{reserve_of}, Sides.{IsApp}, Counts.{pool_count, EndedWereReturned}, declared.views.parts.Setting.{Setting}}
use Rattle.board_face.specs.{declared.views.{nic.NicSide.{NicSide}, app.AppSide.{AppSide}}, AppEvents.{cut, released}, AppCalls.{HasHeld}, Sides.{app_at}}
use Rattle.board_face.proofs.{AppLemmas.{pool_count-app, user_count-app, app_count-cut, app_count-released}, ArePlacedLemmas.{ArePlaced-cut}}
use Rattle.board_face.proofs.{MadeLastLemmas.{IsMadeLast-cut}, IsFilledByOneLemmas.{IsFilledByOne-cut}, FillingsFitLemmas.{FillingsFit-same}, Tallies.{one_if}}
use Rattle.board_face.proofs.Counting.{weight-other, weight-same}
use Rattle.ref_words.{specs.{Words.{Words, pool_word_of, listed_bit}, Rule.{RefRule}}, proofs.RingSteps.{rings-app}}
use Rattle.ref_words.proofs.{Frees.{AreFreeOnce-more, AreKept-app, free_places-hands}, SideSteps.{own-was, mine, SidesRule-app, in-area}, PoolSteps.{IsPoolStep}}
use Rattle.ref_words.proofs.LineLemmas.{AreByLine-cut}

module _ (setting : Setting) (words : Words) (nic : NicSide) (apps : List AppSide) (a : ℕ) (app : AppSide) (place : Place) (at : ℕ)
    (rule : RefRule setting words nic apps) (here : IsApp apps a app) (out : HasHeld app.view place) (front : 0 < at) (rest : at < place.len) where
  abbrev now : AppSide
  now = app_at app (cut app.view place at)

  abbrev apps' : List AppSide
  apps' = set apps a now

  more : (b : ℕ) → pool_count b nic apps' ≡ pool_count b nic apps + one_if (place.buffer == b)
  more b = omega (arith, pool_count-app b nic apps a app now here, app_count-cut b nic app place at out)

  -- the piece is a holder
  held : (b : ℕ) → one_if (place.buffer == b) ≤ pool_count b nic apps
  held b =
      let less : AppSide = app_at app (released app.view place) in
      omega (arith, pool_count-app b nic apps a app less here, app_count-released b nic app place out)

  within : place.buffer < all_buffers nic.view.setting.layout
  within =
      ⊎_elim
      (λ small. small)
      (λ past. absurd (omega (arith, (rule.sides.by_one place.buffer).inside past, held place.buffer, weight-same place.buffer)))
      (cases_lt place.buffer (all_buffers nic.view.setting.layout))

  pub there : place.buffer < all_buffers setting.layout
  there = in-area rule.sides within

  pub step : IsPoolStep setting words nic nic apps apps' place.buffer (pool_word_of words place.buffer + 1)
  step = record {
    there = there;
    sides = SidesRule-app setting nic apps a app rule.sides here now (record {
      placed = λ b. ArePlaced-cut b nic apps a app place at here out front rest (rule.sides.placed b);
      lines = λ b. AreByLine-cut b nic apps a app place at here out (omega (arith, rest)) (rule.sides.lines b);
      by_one = λ b. IsFilledByOne-cut b nic apps a app place at here out (rule.sides.by_one b);
      fit = FillingsFit-same nic apps a app now here refl rule.sides.fit;
      made = IsMadeLast-cut nic apps a app place at here out rest rule.sides.made;
      returned = λ b. assumption (mine setting nic apps a app rule.sides here (EndedWereReturned b nic) (rule.sides.returned b));
      reserve = record {
        unheld = λ free. omega (arith, more (reserve_of app.view), held (reserve_of app.view), (rule.sides.reserves a app here).unheld free);
      };
      unheld = λ b past ne none. omega (arith, more b, held b, none);
      scrubbed = λ done. assumption (rule.sides.scrubbed a app here done);
      own = assumption (own-was setting nic apps a app rule.sides here);
    });
    here = omega (arith, rule.pool place.buffer there, more place.buffer, weight-same place.buffer);
    others = λ b other. omega (arith, more b, weight-other place.buffer b (λ e. other (sym e)));
    users = λ x b. omega (arith, user_count-app x b nic apps a app now here);
    free = AreFreeOnce-more (listed_bit words) nic nic apps apps' place.buffer refl more held
        (λ b. omega (arith, free_places-hands (listed_bit words) b nic apps a app now here)) rule.free;
    kept = AreKept-app (listed_bit words) nic apps a app now here refl rule.kept;
    rings = rings-app setting words nic apps a app now here refl refl refl refl refl refl refl rule.rings;
  }
