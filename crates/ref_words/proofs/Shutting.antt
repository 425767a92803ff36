-- The card gives its own reference to a buffer up.
use Rattle.std.{proofs.Common.{◌≡◌, ⊎_elim, ℕ, ◌+◌, ◌-◌, ◌<◌, ◌≤◌, Bool, List, refl, ap, sym, ◌∙◌, arith}, specs.Prelude.{◌==◌, ◌&&◌, nat_lt, if◌then◌else◌}}
use Rattle.std.proofs.lemmas.{List.Elements.{All-contains}, Bool.{lt-ltb, Decides.{eqb_tells}}}
use Rattle.area_layout.specs.Layout.{all_buffers, pool_buffers}
use Rattle.board_face.specs.{NicCalls.{HasOwn}, NicEvents.{shut}, Counts.{pool_count}, FreeOnce.{free_places}, Steps.{side_shut, hands_after}}
use Rattle.board_face.specs.declared.views.{parts.{Setting.{Setting}, Filling.{Filling}}, nic.NicSide.{NicSide}, app.AppSide.{AppSide}}
use Rattle.board_face.proofs.{NicLemmas.{pool_count-shut, user_count-nic}, ArePlacedLemmas.{ArePlaced-shut}, MadeLastLemmas.{IsMadeLast-nic}}
use Rattle.board_face.proofs.{IsFilledByOneLemmas.{IsFilledByOne-shut}, FillingsFitLemmas.{FillingsFit-shut}, ListLemmas.{not-eqb}, Tallies.{one_if}}
use Rattle.board_face.proofs.Counting.{weight-other, weight-same, weight-swap}
use Rattle.ref_words.{specs.{Words.{Words, pool_word_of, listed_bit}, Rule.{RefRule}}, proofs.{RingSteps.{rings-card}, Counting.{cached-or-in_hand, if_so}}}
use Rattle.ref_words.proofs.Counting.{if_so-weight}
use Rattle.ref_words.proofs.{Frees.{AreFreeOnce-fewer, AreKept-card, cache-grows}, CardSteps.{SidesRule-card}, PoolSteps.{IsPoolStep}, LineLemmas.{AreByLine-like}}
use Rattle.zr_kinds.proofs.Booleans.{and-true}

-- a count of w is lowered by w to 0, and no greater one
pub last-is : (n m w : ℕ) → m + w ≡ n → (n == w) ≡ (m == 0)
last-is n m w sum =
    ⊎_elim
    (λ t. let e : n ≡ w = t.1 in let none : m ≡ 0 = omega arith in t.0 ∙ sym (ap (λ x. x == 0) none))
    (λ t. let ne = t.1 in t.0 ∙ sym (not-eqb m 0 (λ z. ne (omega arith))))
    (eqb_tells n w)

-- where a buffer of the card came to be free it stands in its cache or hands
pub free-gave_up : (words : Words) (nic : NicSide) (apps : List AppSide) (i : ℕ) (last came : Bool)
    → (last && nat_lt i (pool_buffers nic.view.setting.layout)) ≡ came → (b : ℕ) → (now : NicSide)
    → now.view.cache ≡ (shut nic.view (record { buffer = i; start = 0; size = 0 }) last).cache → now.inside.hands ≡ hands_after nic i last
    → free_places (listed_bit words) b now apps ≡ free_places (listed_bit words) b nic apps + if_so came (one_if (i == b))
free-gave_up words nic apps i last came is b now cache hands =
    let free = last && nat_lt i (pool_buffers nic.view.setting.layout) in
    let moved = cached-or-in_hand free nic.view.cache nic.inside.hands i b in
    let one : (if free then one_if (b == i) else 0) ≡ if_so came (one_if (i == b)) = rw (is, weight-swap b i) refl in
    rw (cache, hands) (omega (arith, moved, one))

module _ (setting : Setting) (words : Words) (nic : NicSide) (apps : List AppSide) (own : Filling) (rule : RefRule setting words nic apps)
    (out : HasOwn nic.view own) where
  abbrev last : Bool
  last = pool_word_of words own.buffer == 1

  abbrev now : NicSide
  now = side_shut nic own last

  within : own.buffer < pool_buffers nic.view.setting.layout
  within = All-contains (λ (o : Filling). o.buffer < pool_buffers nic.view.setting.layout) nic.view.owns own rule.sides.fit.of_pool out

  there : own.buffer < all_buffers setting.layout
  there = let p = within in omega (arith, ap (λ s. pool_buffers s.layout) rule.sides.set.card)

  less : (b : ℕ) → pool_count b now apps + one_if (own.buffer == b) ≡ pool_count b nic apps
  less b = pool_count-shut b nic apps own last out

  counted : pool_count own.buffer now apps + 1 ≡ pool_word_of words own.buffer
  counted = omega (arith, rule.pool own.buffer there, less own.buffer, weight-same own.buffer)

  pub enough : 1 ≤ pool_word_of words own.buffer
  enough = let c = counted in omega arith

  pub step : IsPoolStep setting words nic now apps apps own.buffer (pool_word_of words own.buffer - 1)
  step = record {
    there = there;
    sides = SidesRule-card setting nic now apps rule.sides (record {
      placed = λ b. assumption (ArePlaced-shut b nic apps own last (rule.sides.placed b));
      lines = λ b. AreByLine-like b nic apps now (λ test. refl) (λ test app. refl) (rule.sides.lines b);
      by_one = λ b. assumption (IsFilledByOne-shut b nic apps own last out (rule.sides.by_one b));
      fit = assumption (FillingsFit-shut nic apps own last rule.sides.fit);
      made = let m = IsMadeLast-nic nic (shut nic.view own last) apps refl refl refl rule.sides.made in record { last = m.last };
      taken = λ k x here. assumption (rule.sides.taken k x here);
      unheld = λ b past none. omega (arith, less b, none);
      own = assumption rule.sides;
    });
    here = let c = counted in omega arith;
    others = λ b other. omega (arith, less b, weight-other own.buffer b (λ e. other (sym e)));
    users = λ a b. user_count-nic a b nic (shut nic.view own last) apps refl;
    free = AreFreeOnce-fewer (listed_bit words) nic now apps apps own.buffer 1 last refl (omega arith)
        (λ b. omega (arith, less b, if_so-weight (own.buffer == b)))
        (λ b. free-gave_up words nic apps own.buffer last last (and-true last _ (lt-ltb own.buffer
        (pool_buffers nic.view.setting.layout) within)) b now refl refl)
        (λ _. last-is (pool_word_of words own.buffer) (pool_count own.buffer now apps) 1 counted)
        (λ past. absurd (let p = within in omega arith)) rule.free;
    kept = AreKept-card (listed_bit words) nic now apps refl refl refl
        (λ b. cache-grows (last && nat_lt own.buffer (pool_buffers nic.view.setting.layout)) nic.view.cache own.buffer b) rule.kept;
    rings = rings-card setting words nic now apps refl refl refl refl rule.rings;
  }
