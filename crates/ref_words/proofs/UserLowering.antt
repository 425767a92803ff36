-- The user count is lowered for the entry in hand: the loan that was owed is returning.
use Rattle.std.proofs.Common.{◌≡◌, ⊎_elim, ℕ, ◌+◌, ◌-◌, ◌<◌, ◌≤◌, List, length, get_or, refl, ap, sym, ◌∙◌, arith, subst, length-drop}
use Rattle.std.{specs.Prelude.{◌≢◌, ◌==◌, ◌&&◌, if◌then◌else◌, Contains}, proofs.lemmas.{List.Elements.{All-contains}, Bool.Decides.{eqb_tells}}}
use Rattle.zr_kinds.specs.declared.ring.Rqe.{Rqe}
use Rattle.area_layout.specs.Layout.{all_buffers}
use Rattle.board_face.specs.{AppEvents.{reserve_of}, NicCalls.{apps_of}, Sides.{IsApp}, Opened.{new_app}}
use Rattle.board_face.specs.Holders.{lowered_in_hand, returning_in_hand, ended_in, returning_count, returned_in, owed_in}
use Rattle.board_face.specs.{Counts.{pool_count, user_count, EndedWereReturned}, Steps.{side_user_lowered}, declared.views.parts.Setting.{Setting}}
use Rattle.board_face.{specs.declared.views.{nic.{Judged.TheVariants.{Owed, UserLowered}, NicSide.{NicSide}}, app.AppSide.{AppSide}}, proofs.Tallies.{one_if}}
use Rattle.board_face.proofs.{Parts.{user_part, user_count-parts, total-shift, owed_count, loans_in, came_back_in, returned_in-count}, NicLemmas.{pool_count-stretch}}
use Rattle.board_face.proofs.{ArePlacedLemmas.{ArePlaced-stretch}, MadeLastLemmas.{IsMadeLast-stretch}, IsFilledByOneLemmas.{IsFilledByOne-fewer}}
use Rattle.board_face.proofs.{SideLemmas.{IsApp-at}, Counting.{user_case, weight-and, weight-same}}
use Rattle.ref_words.specs.{Words.{Words, user_word_of, listed_bit}, Sides.{IsInHand}, Rule.{RefRule}}
use Rattle.ref_words.proofs.{CardSteps.{AreReturns-owed, IsScrubbedSoFar-owed, HasNoneOwed-owed}, RingSteps.{rings-card}, Frees.{AreKept-card}, UserSteps.{IsUserStep}}
use Rattle.ref_words.proofs.{InHand.{in_hand, some-is, if-none, same-if, other-if, other-pair}, SideSteps.{in-area}, LineLemmas.{AreByLine-stretch}}

module _ (setting : Setting) (words : Words) (nic : NicSide) (apps : List AppSide) (a : ℕ) (entry : Rqe) (b : ℕ) (rule : RefRule setting words nic apps)
    (at : nic.inside.entry ≡ in_hand a entry (Owed b)) where
  abbrev now : NicSide
  now = side_user_lowered nic a entry b

  known : IsInHand nic apps (record { app = a; entry = entry; judged = Owed b })
  known = rule.sides.hand (record { app = a; entry = entry; judged = Owed b }) at

  not-lowered : (x c : ℕ) → lowered_in_hand x c nic.inside.entry ≡ 0
  not-lowered x c = ap (lowered_in_hand x c) at ∙ if-none (a == x)

  ends : (c : ℕ) (x : AppSide) → ended_in c now x ≡ ended_in c nic x + one_if ((a == x.view.app) && (b == c))
  ends c x = omega (arith, not-lowered x.view.app c, weight-and (a == x.view.app) (b == c))

  returns : (c : ℕ) (x : AppSide) → returning_count c now x ≡ returning_count c nic x + one_if ((a == x.view.app) && (b == c))
  returns c x =
      let was : returning_in_hand x.view.app c nic.inside.entry ≡ 0 = ap (returning_in_hand x.view.app c) at ∙ if-none (a == x.view.app) in
      omega (arith, was, weight-and (a == x.view.app) (b == c))

  app : AppSide
  app = get_or apps a (new_app setting a)

  mine : IsApp apps a app
  unfolding app
  mine = IsApp-at apps a (new_app setting a) rule.sides.set.numbers known.app

  sound-at : (c k : ℕ) (x : AppSide) → IsApp apps k x → EndedWereReturned c nic x
  sound-at c k x here = subst (EndedWereReturned c nic) here.is (rule.sides.returned c k x here.there)

  -- the application owes something in the buffer
  owes : (c k : ℕ) (x : AppSide) → IsApp apps k x → ended_in c nic x + one_if ((a == x.view.app) && (b == c)) ≤ length (returned_in c x)
  owes c k x here =
      ⊎_elim
      (λ t. let e : k ≡ a = t.1 in
      let m : IsApp apps a x = subst (λ n. IsApp apps n x) e here in
      ⊎_elim
      (λ u. let f : b ≡ c = u.1 in
      let more : ended_in c nic x < length (returned_in c x) = subst (λ n. ended_in n nic x < length (returned_in n x)) f ((known.owed b refl).1 x m) in
      omega (arith, more, same-if a x.view.app b c m.number, ap one_if u.0))
      (λ u. omega (arith, (sound-at c k x here).ended, same-if a x.view.app b c m.number, ap one_if u.0))
      (eqb_tells b c))
      (λ t. omega (arith, (sound-at c k x here).ended, other-if a x.view.app b c (λ e. t.1 (sym here.number ∙ e))))
      (eqb_tells k a)

  sound-now : (c k : ℕ) (x : AppSide) → IsApp apps k x → EndedWereReturned c now x
  sound-now c k x here = record {
    ended = omega (arith, ends c x, owes c k x here);
    returning = omega (arith, ends c x, returns c x, (sound-at c k x here).returning);
  }

  same_pool : (c : ℕ) → pool_count c now apps ≡ pool_count c nic apps
  same_pool c =
      omega (
        arith,
        pool_count-stretch c 0 nic now apps a app refl refl refl refl rule.sides.set.numbers mine
            (λ x ne. omega (arith, ends c x, other-if a x.view.app b c ne))
            (λ x ne. omega (arith, returns c x, other-if a x.view.app b c ne))
            (sound-at c a app mine) (sound-now c a app mine) (omega (arith, ends c app, returns c app)),
      )

  fewer_users : (x c : ℕ) → user_count x c now apps + one_if ((a == x) && (b == c)) ≡ user_count x c nic apps
  fewer_users x c =
      let w = one_if ((a == x) && (b == c)) in
      let owed : owed_count c nic app ≡ owed_count c now app + one_if (b == c) =
      omega (arith, ends c app, same-if a app.view.app b c mine.number, owes c a app mine, returned_in-count c app) in
      let split = user_case (app.view.app == x) (loans_in c app) (owed_count c nic app) (owed_count c now app) (one_if (b == c)) owed in
      let joined : (if app.view.app == x then one_if (b == c) else 0) ≡ w =
      ap (λ n. if n == x then one_if (b == c) else 0) mine.number ∙ weight-and (a == x) (b == c) in
      let target : user_part x c nic app ≡ user_part x c now app + w = omega (arith, split, joined) in
      let others : (y : AppSide) → y.view.app ≢ a → user_part x c nic y ≡ user_part x c now y = λ y ne.
      ap (λ h. if y.view.app == x then loans_in c y + (came_back_in c y - h) else 0) (omega (arith, ends c y, other-if a y.view.app b c ne)) in
      let less = total-shift 0 (user_part x c nic) (user_part x c now) w a others apps rule.sides.set.numbers a app known.app (omega arith)
      (rw mine.is target) in
      omega (arith, user_count-parts x c now apps, user_count-parts x c nic apps, less)

  there : b < all_buffers setting.layout
  there = in-area rule.sides (known.owed b refl).0

  is-app : a < apps_of setting
  is-app = let k = known.app in omega (arith, rule.sides.set.many)

  and-one : one_if ((a == a) && (b == b)) ≡ 1
  and-one = same-if a a b b refl ∙ weight-same b

  pub owed : 0 < user_word_of words a b
  owed = omega (arith, rule.users a b is-app there, fewer_users a b, and-one)

  small-before : (c : ℕ) (x : AppSide) → Contains apps x → returning_count c nic x ≤ ended_in c nic x
  small-before c x has = (All-contains (EndedWereReturned c nic) apps x (rule.sides.returned c) has).returning

  small-now : (c : ℕ) (x : AppSide) → Contains apps x → returning_count c now x ≤ ended_in c now x
  small-now c x has = omega (arith, small-before c x has, ends c x, returns c x)

  later : (c : ℕ) (x : AppSide) → Contains apps x → ended_in c nic x + returning_count c now x ≤ ended_in c now x + returning_count c nic x
  later c x has = omega (arith, ends c x, returns c x)

  -- one loan of the buffer is owed no more
  fewer : (c k : ℕ) (x : AppSide) → IsApp apps k x
      → length (owed_in c now x) + one_if ((a == x.view.app) && (b == c)) ≡ length (owed_in c nic x)
  fewer c k x here =
      omega (
        arith,
        ends c x,
        length-drop (ended_in c nic x) (returned_in c x),
        length-drop (ended_in c now x) (returned_in c x),
        owes c k x here,
      )

  pub step : IsUserStep setting words nic now apps apps a b (user_word_of words a b - 1)
  step = record {
    app = is-app;
    there = there;
    sides = record {
      set = assumption rule.sides.set;
      lists = rule.sides.lists;
      placed = λ c. ArePlaced-stretch c nic now apps refl refl refl refl refl (small-before c) (small-now c) (later c) (rule.sides.placed c);
      lines = λ c. AreByLine-stretch c nic now apps refl refl refl (small-before c) (small-now c) (later c) (rule.sides.lines c);
      by_one = λ c. IsFilledByOne-fewer c nic now apps apps refl (omega arith) (omega arith) (omega (arith, same_pool c)) (rule.sides.by_one c);
      fit = assumption rule.sides.fit;
      made = IsMadeLast-stretch nic now apps refl refl refl small-before small-now later rule.sides.made;
      returned = λ c k d small. sound-now c k (get_or apps k d) (IsApp-at apps k d rule.sides.set.numbers small);
      reserves = λ k x here. record { unheld = λ free. same_pool (reserve_of x.view) ∙ (rule.sides.reserves k x here).unheld free };
      few = rule.sides.few;
      dealt = λ k x here. assumption (rule.sides.dealt k x here);
      honoured = rule.sides.honoured;
      slots = assumption rule.sides.slots;
      entries = rule.sides.entries;
      notes = rule.sides.notes;
      taken = λ k x here. assumption (rule.sides.taken k x here);
      proper = rule.sides.proper;
      returns = λ k x here.
          AreReturns-owed nic now x refl
          (λ c. omega (arith, not-lowered x.view.app c, fewer c k x here, weight-and (a == x.view.app) (b == c)))
          (rule.sides.returns k x here);
      hand = λ it is.
          subst
          (IsInHand now apps)
          (some-is (record { app = a; entry = entry; judged = UserLowered b }) it is)
          (record {
            app = known.app;
            first = known.first;
            named = known.named;
            owed = λ c e. absurd (let none : ⊥ = cc in none);
            lowered = λ c e. let same : b ≡ c = cc in subst (λ n. n < all_buffers nic.view.setting.layout) same (known.owed b refl).0;
            stray = λ e. absurd (let none : ⊥ = cc in none);
          });
      scrub = λ k x here. IsScrubbedSoFar-owed nic now x (λ c. omega (arith, fewer c k x here)) (rule.sides.scrub k x here);
      scrubbed = λ k x here done. HasNoneOwed-owed nic now x (λ c. omega (arith, fewer c k x here)) (rule.sides.scrubbed k x here done);
    };
    here = omega (arith, rule.users a b is-app there, fewer_users a b, and-one);
    others = λ x c other. omega (arith, fewer_users x c, other-pair a x b c (λ e f. other (sym e, sym f)));
    pool = same_pool;
    free = λ c. refl;
    kept = AreKept-card (listed_bit words) nic now apps refl refl refl (λ c. omega arith) rule.kept;
    rings = rings-card setting words nic now apps refl refl refl refl rule.rings;
  }
