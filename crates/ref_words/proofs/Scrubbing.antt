-- What a scrub took of a buffer's user count is taken from its pool count.
use Rattle.std.proofs.Common.{◌≡◌, ⊎_elim, ℕ, ◌+◌, ◌-◌, ◌<◌, ◌≤◌, Bool, List, length, set, get_or, refl, ap, sym, ◌∙◌, arith}
use Rattle.std.{specs.Prelude.{◌≢◌, ◌==◌, ◌&&◌, nat_lt, slice_index}, proofs.lemmas.Bool.{lt-ltb, le-ltb, cases_lt, Decides.{eqb_tells}}}
use Rattle.std.proofs.lemmas.List.{length-set, get_or_past, get_or-set_same, get_or-set_other}
use Rattle.area_layout.specs.Layout.{all_buffers, pool_buffers}
use Rattle.board_face.specs.{AppEvents.{reserve_of}, Sides.{IsApp}, Counts.{pool_count, EndedWereReturned}, declared.views.parts.Setting.{Setting}}
use Rattle.board_face.{specs.{declared.views.{nic.NicSide.{NicSide}, app.AppSide.{AppSide}}, Steps.{side_owes_lowered}}, proofs.NicLemmas.{app_count-stretch}}
use Rattle.board_face.proofs.{AppLemmas.{pool_count-app, user_count-app}, PlacesByEvent.{app_places-stretch}, ArePlacedLemmas.{ArePlaced-app}}
use Rattle.board_face.proofs.{MadeLastLemmas.{IsMadeLast-app}, IsFilledByOneLemmas.{IsFilledByOne-app}, FillingsFitLemmas.{FillingsFit-same}}
use Rattle.ref_words.{specs.{Words.{Words, pool_word_of, listed_bit}, Rule.{RefRule}}, proofs.{RingSteps.{rings-app}, Counting.{if_so, and-false}}}
use Rattle.ref_words.proofs.{Frees.{AreFreeOnce-fewer, AreKept-app, free_places-hands}, SideSteps.{own-was, mine, own-setting, SidesRule-app}, PoolSteps.{IsPoolStep}}
use Rattle.ref_words.proofs.{Shutting.{last-is}, Releasing.{hands-case}, LineLemmas.{AreByLine-app}}
use Rattle.zr_kinds.proofs.Booleans.{and-true}

module _ (setting : Setting) (words : Words) (nic : NicSide) (apps : List AppSide) (a : ℕ) (app : AppSide) (b n : ℕ)
    (rule : RefRule setting words nic apps) (here : IsApp apps a app) (there : b < all_buffers setting.layout)
    (owes : slice_index app.inside.scrub_owes b ≡ n) (some : 0 < n) where
  abbrev last : Bool
  last = pool_word_of words b == n

  abbrev now : AppSide
  now = side_owes_lowered app b last

  abbrev apps' : List AppSide
  apps' = set apps a now

  abbrev came : Bool
  came = last && nat_lt b (pool_buffers app.view.setting.layout)

  -- the list of what is owed has this buffer
  listed : b < length app.inside.scrub_owes
  listed =
      ⊎_elim
      (λ less. less)
      (λ past. absurd (omega (arith, owes, some, get_or_past app.inside.scrub_owes b 0 past)))
      (cases_lt b (length app.inside.scrub_owes))

  owes-now : (c : ℕ) → slice_index now.inside.scrub_owes c + if_so (b == c) n ≡ slice_index app.inside.scrub_owes c
  owes-now c =
      ⊎_elim
      (λ t. let e : b ≡ c = t.1 in
      omega (
        arith,
        ap (λ x. if_so x n) t.0,
        ap (λ x. get_or (set app.inside.scrub_owes b 0) x 0) (sym e),
        get_or-set_same app.inside.scrub_owes b 0 0 listed,
        ap (λ x. get_or app.inside.scrub_owes x 0) e,
        owes,
      ))
      (λ t. let ne : b ≢ c = t.1 in omega (arith, ap (λ x. if_so x n) t.0, get_or-set_other app.inside.scrub_owes b c 0 0 (λ e. ne (sym e))))
      (eqb_tells b c)

  sound : (c : ℕ) → EndedWereReturned c nic app
  sound c = mine setting nic apps a app rule.sides here (EndedWereReturned c nic) (rule.sides.returned c)

  sound-now : (c : ℕ) → EndedWereReturned c nic now
  sound-now c = let r = sound c in record { ended = r.ended; returning = omega (arith, r.returning, owes-now c) }

  less : (c : ℕ) → pool_count c nic apps' + if_so (b == c) n ≡ pool_count c nic apps
  less c =
      omega (
        arith,
        pool_count-app c nic apps a app now here,
        app_count-stretch c (if_so (b == c) n) nic nic app now.inside refl (sound c) (sound-now c) (omega (arith, owes-now c)),
      )

  same-n : if_so (b == b) n ≡ n
  same-n = omega (arith, owes-now b, owes, get_or-set_same app.inside.scrub_owes b 0 0 listed)

  counted : pool_count b nic apps' + n ≡ pool_word_of words b
  counted = omega (arith, rule.pool b there, less b, same-n)

  pub enough : n ≤ pool_word_of words b
  enough = let c = counted in omega arith

  pools : pool_buffers app.view.setting.layout ≡ pool_buffers nic.view.setting.layout
  pools = ap (λ s. pool_buffers s.layout) (own-setting setting nic apps a app rule.sides here ∙ sym rule.sides.set.card)

  none-other : (c : ℕ) → c ≢ b → if_so (b == c) n ≡ 0
  none-other c other = ⊎_elim (λ t. absurd (other (sym t.1))) (λ t. ap (λ x. if_so x n) t.0) (eqb_tells b c)

  pub step : IsPoolStep setting words nic nic apps apps' b (pool_word_of words b - n)
  step = record {
    there = there;
    sides = SidesRule-app setting nic apps a app rule.sides here now (record {
      placed = λ c. ArePlaced-app c nic apps a app now here
          (λ test. app_places-stretch c test nic nic app now.inside refl (sound c).returning (sound-now c).returning (omega (arith, owes-now c)))
          (rule.sides.placed c);
      lines = λ c. AreByLine-app c nic apps a app now here refl
          (λ test. app_places-stretch c test nic nic app now.inside refl (sound c).returning (sound-now c).returning (omega (arith, owes-now c)))
          (rule.sides.lines c);
      by_one = λ c. IsFilledByOne-app c nic apps a app now here (omega arith) (omega (arith, less c, pool_count-app c nic apps a app now here))
          (rule.sides.by_one c);
      fit = FillingsFit-same nic apps a app now here refl rule.sides.fit;
      made = IsMadeLast-app nic apps a app now here
          (λ c test. app_places-stretch c test nic nic app now.inside refl (sound c).returning (sound-now c).returning (omega (arith, owes-now c)))
          rule.sides.made;
      returned = sound-now;
      reserve = record { unheld = λ free. omega (arith, less (reserve_of app.view), (rule.sides.reserves a app here).unheld free) };
      unheld = λ c past ne none. omega (arith, less c, none);
      scrubbed = λ done. assumption (rule.sides.scrubbed a app here done);
      own = assumption (own-was setting nic apps a app rule.sides here, length-set app.inside.scrub_owes b 0);
    });
    here = let c = counted in omega arith;
    others = λ c other. omega (arith, less c, none-other c other);
    users = λ x c. omega (arith, user_count-app x c nic apps a app now here);
    free = AreFreeOnce-fewer (listed_bit words) nic nic apps apps' b n came refl some less
        (λ c. omega (arith, free_places-hands (listed_bit words) c nic apps a app now here, hands-case came app.inside.hands b c))
        (λ small. and-true last _ (lt-ltb b (pool_buffers app.view.setting.layout) (omega (arith, small, pools)))
        ∙ last-is (pool_word_of words b) (pool_count b nic apps') n counted)
        (λ past. and-false last _ (le-ltb b (pool_buffers app.view.setting.layout) (omega (arith, past, pools)))) rule.free;
    kept = AreKept-app (listed_bit words) nic apps a app now here refl rule.kept;
    rings = rings-app setting words nic apps a app now here refl refl refl refl refl refl refl rule.rings;
  }
