-- The card begins a piece.
use Rattle.std.{proofs.Common.{◌≡◌, ℕ, ◌+◌, ◌^◌, ◌<◌, ◌≤◌, false, List, [], refl, ap, sym, arith}, specs.Prelude.{◌==◌, Some, None}}
use Rattle.std.proofs.lemmas.List.Elements.{All-contains}
use Rattle.area_layout.{specs.Layout.{all_buffers, pool_buffers, size_of}, proofs.Words.{words_apart}}
use Rattle.board_face.specs.{NicCalls.{HasOwn}, Tokens.{next_place}, Counts.{pool_count, user_count}, Steps.{side_begun}, declared.views.parts.Setting.{Setting}}
use Rattle.board_face.specs.declared.views.{parts.Filling.{Filling}, nic.NicSide.{NicSide}, app.AppSide.{AppSide}}
use Rattle.board_face.proofs.{NicLemmas.{pool_count-begun, pool_count-shut}, ArePlacedLemmas.{ArePlaced-begun}, MadeLastLemmas.{IsMadeLast-begun}}
use Rattle.board_face.proofs.{IsFilledByOneLemmas.{IsFilledByOne-begun}, FillingsFitLemmas.{FillingsFit-begun}, FewLemmas.{pool_count-few}, Tallies.{one_if}}
use Rattle.board_face.proofs.{Parts.{user_part, user_count-parts}, Counting.{weight-other, weight-same}}
use Rattle.board_face.proofs.Tallies as tallies
use Rattle.ref_words.{specs.{Words.{Words, pool_word_of, listed_bit}, Rule.{RefRule}}, proofs.{RingSteps.{rings-card}, Frees.{AreFreeOnce-more, AreKept-card}}}
use Rattle.ref_words.proofs.{CardSteps.{SidesRule-card}, PoolSteps.{IsPoolStep}, LineLemmas.{AreByLine-begun}}

-- a buffer within the area has so many holders at most
pub holders-few : (setting : Setting) (words : Words) (nic : NicSide) (apps : List AppSide) (b : ℕ) → RefRule setting words nic apps
    → b < all_buffers setting.layout → pool_word_of words b ≤ 65537
holders-few setting words nic apps b rule there =
    omega (
      arith,
      rule.pool b there,
      ((words_apart setting.layout rule.layout).size b).most,
      ap (λ s. size_of s.layout b) rule.sides.set.card,
      pool_count-few b nic apps (rule.sides.placed b) (rule.sides.by_one b),
    )

-- no count of a buffer within the area wraps when one is added
pub few-holders : (setting : Setting) (words : Words) (nic : NicSide) (apps : List AppSide) (b : ℕ) → RefRule setting words nic apps
    → b < all_buffers setting.layout → pool_word_of words b + 1 < 2 ^ 64
few-holders setting words nic apps b rule there = omega (arith, holders-few setting words nic apps b rule there)

module _ (setting : Setting) (words : Words) (nic : NicSide) (apps : List AppSide) (own : Filling) (n : ℕ) (rule : RefRule setting words nic apps)
    (out : HasOwn nic.view own) (some_bytes : 0 < n) (within : own.start + n ≤ own.size) (idle : nic.inside.making ≡ None) where
  abbrev now : NicSide
  now = side_begun nic own n

  of_pool : own.buffer < pool_buffers nic.view.setting.layout
  of_pool = All-contains (λ (o : Filling). o.buffer < pool_buffers nic.view.setting.layout) nic.view.owns own rule.sides.fit.of_pool out

  pub there : own.buffer < all_buffers setting.layout
  there = let p = of_pool in omega (arith, ap (λ s. pool_buffers s.layout) rule.sides.set.card)

  more : (b : ℕ) → pool_count b now apps ≡ pool_count b nic apps + one_if (own.buffer == b)
  more b = pool_count-begun b nic apps own n [] out idle

  -- a buffer that the card fills has a holder
  held : (b : ℕ) → one_if (own.buffer == b) ≤ pool_count b nic apps
  held b = omega (arith, pool_count-shut b nic apps own false out)

  same_users : (a b : ℕ) → user_count a b now apps ≡ user_count a b nic apps
  same_users a b =
      let same : tallies.total (user_part a b now) apps ≡ tallies.total (user_part a b nic) apps = refl in
      omega (arith, user_count-parts a b now apps, user_count-parts a b nic apps)

  pub step : IsPoolStep setting words nic now apps apps own.buffer (pool_word_of words own.buffer + 1)
  step = record {
    there = there;
    sides = SidesRule-card setting nic now apps rule.sides (record {
      placed = λ b. ArePlaced-begun b nic apps own n [] out some_bytes within idle rule.sides.fit (rule.sides.by_one b) (rule.sides.placed b);
      lines = λ b. AreByLine-begun b nic apps own n [] out idle rule.sides.fit (rule.sides.placed b) (rule.sides.lines b);
      by_one = λ b. IsFilledByOne-begun b nic apps own n [] out idle (rule.sides.by_one b);
      fit = FillingsFit-begun nic apps own n (Some (record { place = next_place own n; bytes = [] })) out within rule.sides.fit;
      made = IsMadeLast-begun nic apps own n [] out idle (rule.sides.placed own.buffer);
      taken = λ k x here. assumption (rule.sides.taken k x here);
      unheld = λ b past none. omega (arith, more b, none, held b);
      own = assumption rule.sides;
    });
    here = omega (arith, rule.pool own.buffer there, more own.buffer, weight-same own.buffer);
    others = λ b other. omega (arith, more b, weight-other own.buffer b (λ e. other (sym e)));
    users = same_users;
    free = AreFreeOnce-more (listed_bit words) nic now apps apps own.buffer refl more held (λ b. refl) rule.free;
    kept = AreKept-card (listed_bit words) nic now apps refl refl refl (λ b. omega arith) rule.kept;
    rings = rings-card setting words nic now apps refl refl refl refl rule.rings;
  }
