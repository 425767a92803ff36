-- The pool count is lowered for the entry in hand, whose user count was lowered before.
use Rattle.std.proofs.Common.{◌≡◌, ℕ, ◌+◌, ◌-◌, ◌<◌, ◌≤◌, Bool, List, length, get_or, drop, refl, ap, sym, ◌∙◌, arith, subst}
use Rattle.std.{specs.Prelude.{◌==◌, ◌&&◌, nat_lt, if◌then◌else◌, Contains}, proofs.lemmas.{List.Elements.{All-contains}, Bool.{lt-ltb, le-ltb}}}
use Rattle.zr_kinds.{specs.declared.ring.Rqe.{Rqe}, proofs.Booleans.{and-true}}
use Rattle.area_layout.specs.Layout.{all_buffers, pool_buffers}
use Rattle.board_face.specs.{AppEvents.{reserve_of}, Sides.{IsApp}, Opened.{new_app}}
use Rattle.board_face.specs.Holders.{lowered_in_hand, returning_in_hand, ended_in, returning_count, returned_in, owed_in}
use Rattle.board_face.specs.{Counts.{pool_count, user_count, EndedWereReturned}, Steps.{side_both_lowered}, declared.views.parts.Setting.{Setting}}
use Rattle.board_face.specs.declared.views.{nic.{Judged.TheVariants.{UserLowered, BothLowered}, NicSide.{NicSide}}, app.AppSide.{AppSide}}
use Rattle.board_face.proofs.{Tallies.{one_if, total-agree}, Parts.{user_part, user_count-parts, loans_in, came_back_in}, NicLemmas.{pool_count-stretch}}
use Rattle.board_face.proofs.{ArePlacedLemmas.{ArePlaced-stretch}, MadeLastLemmas.{IsMadeLast-stretch}, IsFilledByOneLemmas.{IsFilledByOne-fewer}}
use Rattle.board_face.proofs.{SideLemmas.{IsApp-at}, Counting.{weight-and, weight-other, weight-same}}
use Rattle.ref_words.specs.{Words.{Words, pool_word_of, listed_bit}, Sides.{IsInHand}, Rule.{RefRule}}
use Rattle.ref_words.proofs.{CardSteps.{AreReturns-owed, IsScrubbedSoFar-owed, HasNoneOwed-owed}, RingSteps.{rings-card}, Counting.{if_so-weight, and-false}}
use Rattle.ref_words.proofs.{Frees.{AreFreeOnce-fewer, AreKept-card, cache-grows}, PoolSteps.{IsPoolStep}, Shutting.{last-is, free-gave_up}}
use Rattle.ref_words.proofs.{InHand.{in_hand, some-is, if-none, same-if, other-if}, SideSteps.{in-area}, LineLemmas.{AreByLine-stretch}}

module _ (setting : Setting) (words : Words) (nic : NicSide) (apps : List AppSide) (a : ℕ) (entry : Rqe) (b : ℕ) (rule : RefRule setting words nic apps)
    (at : nic.inside.entry ≡ in_hand a entry (UserLowered b)) where
  abbrev last : Bool
  last = pool_word_of words b == 1

  abbrev now : NicSide
  now = side_both_lowered nic a entry b last

  abbrev came : Bool
  came = last && nat_lt b (pool_buffers nic.view.setting.layout)

  known : IsInHand nic apps (record { app = a; entry = entry; judged = UserLowered b })
  known = rule.sides.hand (record { app = a; entry = entry; judged = UserLowered b }) at

  sound : (c k : ℕ) (d : AppSide) → k < length apps → EndedWereReturned c nic (get_or apps k d)
  sound c = rule.sides.returned c

  -- the entry is lowered as before, and returning no more
  ends : (c : ℕ) (x : AppSide) → ended_in c now x ≡ ended_in c nic x
  ends c x =
      let was : lowered_in_hand x.view.app c nic.inside.entry ≡ lowered_in_hand x.view.app c (in_hand a entry (UserLowered b)) = ap
      (lowered_in_hand x.view.app c) at in
      omega (arith, was)

  returns : (c : ℕ) (x : AppSide) → returning_count c now x + one_if ((a == x.view.app) && (b == c)) ≡ returning_count c nic x
  returns c x =
      let was : returning_in_hand x.view.app c nic.inside.entry ≡ returning_in_hand x.view.app c (in_hand a entry (UserLowered b)) = ap
      (returning_in_hand x.view.app c) at in
      let none : returning_in_hand x.view.app c now.inside.entry ≡ 0 = if-none (a == x.view.app) in
      omega (arith, was, none, weight-and (a == x.view.app) (b == c))

  app : AppSide
  app = get_or apps a (new_app setting a)

  mine : IsApp apps a app
  unfolding app
  mine = IsApp-at apps a (new_app setting a) rule.sides.set.numbers known.app

  sound-now : (c k : ℕ) (d : AppSide) → k < length apps → EndedWereReturned c now (get_or apps k d)
  sound-now c k d small =
      let x = get_or apps k d in
      let was = sound c k d small in
      record { ended = omega (arith, ends c x, was.ended); returning = omega (arith, ends c x, returns c x, was.returning) }

  sound-mine : (c : ℕ) → EndedWereReturned c nic app
  sound-mine c = subst (EndedWereReturned c nic) mine.is (sound c a app mine.there)

  less : (c : ℕ) → pool_count c now apps + one_if (b == c) ≡ pool_count c nic apps
  less c =
      let sound' : EndedWereReturned c now app = subst (EndedWereReturned c now) mine.is (sound-now c a app mine.there) in
      pool_count-stretch c (one_if (b == c)) nic now apps a app refl refl refl refl rule.sides.set.numbers mine
      (λ x ne. ends c x)
      (λ x ne. omega (arith, returns c x, other-if a x.view.app b c ne))
      (sound-mine c) sound' (omega (arith, ends c app, returns c app, same-if a app.view.app b c mine.number))

  users-same : (x c : ℕ) → user_count x c now apps ≡ user_count x c nic apps
  users-same x c =
      let each : (y : AppSide) → user_part x c now y ≡ user_part x c nic y = λ y.
      ap (λ h. if y.view.app == x then loans_in c y + (came_back_in c y - h) else 0) (ends c y) in
      omega (arith, user_count-parts x c now apps, user_count-parts x c nic apps, total-agree (user_part x c now) (user_part x c nic) each apps)

  owed : (c : ℕ) (x : AppSide) → length (owed_in c now x) ≡ length (owed_in c nic x)
  owed c x = ap (λ h. length (drop h (returned_in c x))) (ends c x)

  there : b < all_buffers setting.layout
  there = in-area rule.sides (known.lowered b refl)

  counted : pool_count b now apps + 1 ≡ pool_word_of words b
  counted = omega (arith, rule.pool b there, less b, weight-same b)

  pub enough : 1 ≤ pool_word_of words b
  enough = let c = counted in omega arith

  small-before : (c : ℕ) (x : AppSide) → Contains apps x → returning_count c nic x ≤ ended_in c nic x
  small-before c x has = (All-contains (EndedWereReturned c nic) apps x (rule.sides.returned c) has).returning

  small-now : (c : ℕ) (x : AppSide) → Contains apps x → returning_count c now x ≤ ended_in c now x
  small-now c x has = omega (arith, small-before c x has, ends c x, returns c x)

  later : (c : ℕ) (x : AppSide) → Contains apps x → ended_in c nic x + returning_count c now x ≤ ended_in c now x + returning_count c nic x
  later c x has = omega (arith, ends c x, returns c x)

  pub step : IsPoolStep setting words nic now apps apps b (pool_word_of words b - 1)
  step = record {
    there = there;
    sides = record {
      set = assumption rule.sides.set;
      lists = rule.sides.lists;
      placed = λ c. ArePlaced-stretch c nic now apps refl refl refl refl refl (small-before c) (small-now c) (later c) (rule.sides.placed c);
      lines = λ c. AreByLine-stretch c nic now apps refl refl refl (small-before c) (small-now c) (later c) (rule.sides.lines c);
      by_one = λ c. IsFilledByOne-fewer c nic now apps apps refl (omega arith) (omega arith) (omega (arith, less c)) (rule.sides.by_one c);
      fit = assumption rule.sides.fit;
      made = IsMadeLast-stretch nic now apps refl refl refl small-before small-now later rule.sides.made;
      returned = λ c k d small. sound-now c k d small;
      reserves = λ k x here. record { unheld = λ free. omega (arith, less (reserve_of x.view), (rule.sides.reserves k x here).unheld free) };
      few = rule.sides.few;
      dealt = λ k x here. assumption (rule.sides.dealt k x here);
      honoured = rule.sides.honoured;
      slots = assumption rule.sides.slots;
      entries = rule.sides.entries;
      notes = rule.sides.notes;
      taken = λ k x here. assumption (rule.sides.taken k x here);
      proper = rule.sides.proper;
      returns = λ k x here.
          let low : (c : ℕ) → lowered_in_hand x.view.app c nic.inside.entry ≡ lowered_in_hand x.view.app c now.inside.entry = λ c. ap
          (lowered_in_hand x.view.app c) at in
          AreReturns-owed nic now x refl (λ c. omega (arith, low c, owed c x)) (rule.sides.returns k x here);
      hand = λ it is.
          subst
          (IsInHand now apps)
          (some-is (record { app = a; entry = entry; judged = BothLowered b }) it is)
          (record {
            app = known.app;
            first = known.first;
            named = known.named;
            owed = λ c e. absurd (let none : ⊥ = cc in none);
            lowered = λ c e. absurd (let none : ⊥ = cc in none);
            stray = λ e. absurd (let none : ⊥ = cc in none);
          });
      scrub = λ k x here. IsScrubbedSoFar-owed nic now x (λ c. omega (arith, owed c x)) (rule.sides.scrub k x here);
      scrubbed = λ k x here done. HasNoneOwed-owed nic now x (λ c. omega (arith, owed c x)) (rule.sides.scrubbed k x here done);
    };
    here = let c = counted in omega arith;
    others = λ c other. omega (arith, less c, weight-other b c (λ e. other (sym e)));
    users = users-same;
    free = AreFreeOnce-fewer (listed_bit words) nic now apps apps b 1 came refl (omega arith)
        (λ c. omega (arith, less c, if_so-weight (b == c)))
        (λ c. free-gave_up words nic apps b last came refl c now refl refl)
        (λ small. and-true last _ (lt-ltb b (pool_buffers nic.view.setting.layout) small) ∙ last-is (pool_word_of words b) (pool_count b now apps) 1 counted)
        (λ past. and-false last _ (le-ltb b (pool_buffers nic.view.setting.layout) past)) rule.free;
    kept = AreKept-card (listed_bit words) nic now apps refl refl refl (λ c. cache-grows came nic.view.cache b c) rule.kept;
    rings = rings-card setting words nic now apps refl refl refl refl rule.rings;
  }
