-- An application gives a held piece up. A buffer of the pool that came to be free by that is in its hands.
use Rattle.std.proofs.Common.{◌≡◌, ⊎_elim, ℕ, ◌+◌, ◌-◌, ◌<◌, ◌≤◌, Bool, true, false, List, [], ◌∷◌, ◌++◌, set, refl, ap, sym, ◌∙◌, arith}
use Rattle.std.{specs.Prelude.{◌==◌, ◌&&◌, nat_lt, nat_eq, count_by, if◌then◌else◌}, proofs.lemmas.Bool.{lt-ltb, le-ltb, cases_lt}}
use Rattle.zr_kinds.{specs.declared.place.Place.{Place}, proofs.Booleans.{and-true}}
use Rattle.area_layout.specs.Layout.{all_buffers, pool_buffers}
use Rattle.board_face.specs.{AppEvents.{reserve_of}, Sides.{IsApp}, Counts.{pool_count, EndedWereReturned}, declared.views.parts.Setting.{Setting}}
use Rattle.board_face.specs.{declared.views.{nic.NicSide.{NicSide}, app.AppSide.{AppSide}}, AppCalls.{HasHeld}, Steps.{side_released}}
use Rattle.board_face.proofs.{AppLemmas.{pool_count-app, user_count-app, app_count-released}, PlacesByEvent.{app_places-released}, ArePlacedLemmas.{ArePlaced-app}}
use Rattle.board_face.proofs.{MadeLastLemmas.{IsMadeLast-app}, IsFilledByOneLemmas.{IsFilledByOne-app}, FillingsFitLemmas.{FillingsFit-same}, Tallies.{one_if}}
use Rattle.board_face.proofs.Counting.{count-push, weight-other, weight-same, weight-swap}
use Rattle.ref_words.{specs.{Words.{Words, pool_word_of, listed_bit}, Rule.{RefRule}}, proofs.{RingSteps.{rings-app}, Counting.{if_so, if_so-weight, and-false}}}
use Rattle.ref_words.proofs.{Frees.{AreFreeOnce-fewer, AreKept-app, free_places-hands}, SideSteps.{own-was, mine, own-setting, SidesRule-app, in-area}}
use Rattle.ref_words.proofs.{PoolSteps.{IsPoolStep}, Shutting.{last-is}, LineLemmas.{AreByLine-app}}

-- a buffer that came to be free stands in the hands
pub hands-case : (came : Bool) (hands : List ℕ) (i b : ℕ)
    → count_by (nat_eq b) (if came then hands ++ i ∷ [] else hands) ≡ count_by (nat_eq b) hands + if_so came (one_if (i == b))
hands-case true hands i b = omega (arith, count-push b i hands, weight-swap b i)
hands-case false hands i b = omega arith

module _ (setting : Setting) (words : Words) (nic : NicSide) (apps : List AppSide) (a : ℕ) (app : AppSide) (place : Place)
    (rule : RefRule setting words nic apps) (here : IsApp apps a app) (out : HasHeld app.view place) where
  abbrev last : Bool
  last = pool_word_of words place.buffer == 1

  abbrev now : AppSide
  now = side_released app place last

  abbrev apps' : List AppSide
  apps' = set apps a now

  abbrev came : Bool
  came = last && nat_lt place.buffer (pool_buffers app.view.setting.layout)

  less : (b : ℕ) → pool_count b nic apps' + one_if (place.buffer == b) ≡ pool_count b nic apps
  less b = omega (arith, pool_count-app b nic apps a app now here, app_count-released b nic app place out)

  -- a buffer with a holder lies in the area
  within : place.buffer < all_buffers nic.view.setting.layout
  within =
      ⊎_elim
      (λ small. small)
      (λ past. absurd (omega (arith, (rule.sides.by_one place.buffer).inside past, less place.buffer, weight-same place.buffer)))
      (cases_lt place.buffer (all_buffers nic.view.setting.layout))

  pub there : place.buffer < all_buffers setting.layout
  there = in-area rule.sides within

  counted : pool_count place.buffer nic apps' + 1 ≡ pool_word_of words place.buffer
  counted = omega (arith, rule.pool place.buffer there, less place.buffer, weight-same place.buffer)

  pub enough : 1 ≤ pool_word_of words place.buffer
  enough = let c = counted in omega arith

  pools : pool_buffers app.view.setting.layout ≡ pool_buffers nic.view.setting.layout
  pools = ap (λ s. pool_buffers s.layout) (own-setting setting nic apps a app rule.sides here ∙ sym rule.sides.set.card)

  pub step : IsPoolStep setting words nic nic apps apps' place.buffer (pool_word_of words place.buffer - 1)
  step = record {
    there = there;
    sides = SidesRule-app setting nic apps a app rule.sides here now (record {
      placed = λ b. ArePlaced-app b nic apps a app now here (λ test. omega (arith, app_places-released b test nic app place out)) (rule.sides.placed b);
      lines = λ b. AreByLine-app b nic apps a app now here refl (λ test. omega (arith, app_places-released b test nic app place out)) (rule.sides.lines b);
      by_one = λ b. IsFilledByOne-app b nic apps a app now here (omega arith) (omega (arith, app_count-released b nic app place out)) (rule.sides.by_one b);
      fit = FillingsFit-same nic apps a app now here refl rule.sides.fit;
      made = IsMadeLast-app nic apps a app now here (λ b test. omega (arith, app_places-released b test nic app place out)) rule.sides.made;
      returned = λ b. assumption (mine setting nic apps a app rule.sides here (EndedWereReturned b nic) (rule.sides.returned b));
      reserve = record { unheld = λ free. omega (arith, less (reserve_of app.view), (rule.sides.reserves a app here).unheld free) };
      unheld = λ b past ne none. omega (arith, less b, none);
      scrubbed = λ done. assumption (rule.sides.scrubbed a app here done);
      own = assumption (own-was setting nic apps a app rule.sides here);
    });
    here = let c = counted in omega arith;
    others = λ b other. omega (arith, less b, weight-other place.buffer b (λ e. other (sym e)));
    users = λ x b. omega (arith, user_count-app x b nic apps a app now here);
    free = AreFreeOnce-fewer (listed_bit words) nic nic apps apps' place.buffer 1 came refl (omega arith)
        (λ b. omega (arith, less b, if_so-weight (place.buffer == b)))
        (λ b. omega (arith, free_places-hands (listed_bit words) b nic apps a app now here, hands-case came app.inside.hands place.buffer b))
        (λ small. and-true last _ (lt-ltb place.buffer (pool_buffers app.view.setting.layout) (omega (arith, small, pools)))
        ∙ last-is (pool_word_of words place.buffer) (pool_count place.buffer nic apps') 1 counted)
        (λ past. and-false last _ (le-ltb place.buffer (pool_buffers app.view.setting.layout) (omega (arith, past, pools)))) rule.free;
    kept = AreKept-app (listed_bit words) nic apps a app now here refl rule.kept;
    rings = rings-app setting words nic apps a app now here refl refl refl refl refl refl refl rule.rings;
  }
