-- The card takes the buffer that entered its cache last.
use Rattle.std.{proofs.Common.{◌≡◌, ⊎_elim, ℕ, ◌+◌, ◌<◌, List, [], ◌∷◌, ◌++◌, refl, ap, sym, ◌∙◌, arith}, specs.Prelude.{◌==◌, nat_eq, count_by}}
use Rattle.std.proofs.lemmas.Bool.{cases_lt}
use Rattle.area_layout.specs.Layout.{all_buffers, pool_buffers}
use Rattle.board_face.specs.{NicEvents.{took}, NicCalls.{HasNothingIn}, Sides.{nic_at}, Counts.{pool_count}, FreeOnce.{free_places}, Used.{picked_buffers}}
use Rattle.board_face.{specs.declared.views.{parts.Setting.{Setting}, nic.NicSide.{NicSide}, app.AppSide.{AppSide}}, proofs.NicLemmas.{pool_count-took, user_count-nic}}
use Rattle.board_face.proofs.{FreeLemmas.{free_places-took, IsFreeOnce-cached}, ArePlacedLemmas.{ArePlaced-took}, MadeLastLemmas.{IsMadeLast-nic}}
use Rattle.board_face.proofs.{IsFilledByOneLemmas.{IsFilledByOne-took}, FillingsFitLemmas.{FillingsFit-took}, Tallies.{one_if}, Parts.{pool_count-parts}}
use Rattle.board_face.proofs.Counting.{All-none, count-append, count-push, weight-other, weight-same, weight-swap}
use Rattle.ref_words.{specs.{Words.{Words, pool_word_of, listed_bit}, Rule.{RefRule}}, proofs.{RingSteps.{rings-card}, Frees.{AreFreeOnce-taken}}}
use Rattle.ref_words.proofs.{CardSteps.{SidesRule-card}, PoolSteps.{IsPoolStep}, LineLemmas.{AreByLine-like}}

module _ (setting : Setting) (words : Words) (nic : NicSide) (apps : List AppSide) (b : ℕ) (rule : RefRule setting words nic apps)
    (last : nic.view.cache ≡ (took nic.view b).cache ++ b ∷ []) where
  abbrev now : NicSide
  now = nic_at nic (took nic.view b)

  gone : (x : ℕ) → free_places (listed_bit words) x now apps + one_if (x == b) ≡ free_places (listed_bit words) x nic apps
  gone x = free_places-took (listed_bit words) x nic apps b last

  -- what is cached is of the pool
  small : b < pool_buffers nic.view.setting.layout
  small =
      ⊎_elim
      (λ less. less)
      (λ past. absurd (omega (arith, rule.free.reserves b past, gone b, weight-same b)))
      (cases_lt b (pool_buffers nic.view.setting.layout))

  pools : pool_buffers nic.view.setting.layout ≡ pool_buffers setting.layout
  pools = ap (λ s. pool_buffers s.layout) rule.sides.set.card

  there : b < all_buffers setting.layout
  there = let s = small in omega (arith, pools)

  unheld : pool_count b nic apps ≡ 0
  unheld = IsFreeOnce-cached (listed_bit words) b nic apps (took nic.view b).cache last (rule.free.pool b small)

  pub none : pool_word_of words b ≡ 0
  none = rule.pool b there ∙ unheld

  pub apart : HasNothingIn nic.view b
  apart =
      let parts = pool_count-parts b nic apps in
      let zero = unheld in
      record {
        owns = All-none (λ o. o.buffer) b nic.view.owns (omega (arith, parts, zero));
        pieces = All-none (λ p. p.place.buffer) b nic.view.pieces (omega (arith, parts, zero));
      }

  more : (x : ℕ) → pool_count x now apps ≡ pool_count x nic apps + one_if (b == x)
  more x = pool_count-took x nic apps b

  cache-less : (x : ℕ) → count_by (nat_eq x) nic.view.cache ≡ count_by (nat_eq x) now.view.cache + one_if (x == b)
  cache-less x = ap (count_by (nat_eq x)) last ∙ count-push x b now.view.cache

  used-more : (x : ℕ) → count_by (nat_eq x) (nic.view.used ++ b ∷ []) ≡ count_by (nat_eq x) nic.view.used + one_if (x == b)
  used-more x = count-push x b nic.view.used

  pub step : IsPoolStep setting words nic now apps apps b (pool_word_of words b + 1)
  step = record {
    there = there;
    sides = SidesRule-card setting nic now apps rule.sides (record {
      placed = λ x. ArePlaced-took x nic apps b unheld (rule.sides.placed x);
      lines = λ x. AreByLine-like x nic apps now (λ test. refl) (λ test app. refl) (rule.sides.lines x);
      by_one = λ x. IsFilledByOne-took x nic apps b (let s = small in omega arith) unheld (rule.sides.by_one x);
      fit = FillingsFit-took nic apps b (rw rule.sides.set.card rule.layout) small rule.sides.fit;
      made = IsMadeLast-nic nic (took nic.view b) apps refl refl refl rule.sides.made;
      taken = λ k x here. assumption (rule.sides.taken k x here);
      unheld = λ x past none. omega (arith, more x, none, weight-other b x (λ e. absurd (let s = small in omega (arith, e))));
      own = assumption rule.sides;
    });
    here = omega (arith, more b, none, unheld, weight-same b);
    others = λ x other. omega (arith, more x, weight-other b x (λ e. other (sym e)));
    users = λ a x. user_count-nic a x nic (took nic.view b) apps refl;
    free = AreFreeOnce-taken (listed_bit words) nic now apps apps b refl unheld more (λ x. omega (arith, gone x, weight-swap x b)) rule.free;
    kept = record {
      kept = λ x within. omega (
        arith,
        rule.kept.kept x within,
        cache-less x,
        used-more x,
        count-append x nic.view.used (picked_buffers apps),
        count-append x (nic.view.used ++ b ∷ []) (picked_buffers apps),
      );
      swept = λ x within swept. omega (
        arith,
        rule.kept.swept x within swept,
        cache-less x,
        used-more x,
        count-append x nic.view.used (picked_buffers apps),
        count-append x (nic.view.used ++ b ∷ []) (picked_buffers apps),
      );
    };
    rings = rings-card setting words nic now apps refl refl refl refl rule.rings;
  }
