-- An entry is a stray.
use Rattle.std.proofs.Common.{◌≡◌, ℕ, ◌+◌, ◌-◌, ◌≤◌, true, false, List, [], ◌∷◌, ◌++◌, length, set, get_or, refl, ap, sym}
use Rattle.std.{proofs.Common.{◌∙◌, subst, arith, ⊎_elim, Option, Some, None}, specs.Prelude.{◌≢◌, count_by, ◌==◌, if◌then◌else◌, IsSome, IfSome}}
use Rattle.std.proofs.lemmas.{List.{length-set, Elements.{All-head, All-push, All-weaker, All-contains}}, Bool.{cases_Bool, cases_lt, Decides.{eqb_tells}}}
use Rattle.zr_kinds.specs.declared.ring.Rqe.{Rqe}
use Rattle.area_layout.specs.Layout.{all_buffers, judged}
use Rattle.board_face.specs.{NicEvents.{passed_over, looks_by_stray}, NicCalls.{PassedOver}, Looks.{NicRose}, Judged.{IsHonouredAsNamed}}
use Rattle.board_face.{specs.{declared.views.nic.{NicLook.TheVariants.{NotOwed}, NicView.{NicView}}, Sides.{nic_at, IsApp}}, proofs.LookLemmas.{NicRose-nic_saw}}
use Rattle.board_face.specs.{Holders.{lowered_in_hand, owed_in}, Counts.{pool_count, user_count, EndedWereReturned}, declared.views.nic.Dealt.{Dealt}}
use Rattle.board_face.{specs.declared.views.{nic.{Fate.TheVariants.{Stray}, NicSide.{NicSide}}, app.AppSide.{AppSide}}, proofs.ListLemmas.{eqb_same}}
use Rattle.board_face.proofs.{NicLemmas.{pool_count-passed_over, user_count-passed_over, ended_in-passed_over}, FreeLemmas.{user_count-le}}
use Rattle.board_face.proofs.{FillingsFitLemmas.{FillingsFit-nic}, IsFilledByOneLemmas.{IsFilledByOne-passed_over}, OwnBufferLemmas.{LieInOwn-nic}}
use Rattle.board_face.proofs.{AreShownLemmas.{AreShown-passed_over}, Tallies.{one_if}, Counting.{count-first}, Parts.{owed-count}}
use Rattle.board_parts.specs.Counts.{user_at}
use Rattle.plain_board.specs.{Stand.{Stand, byte_of}, Returns.{AreReturns, returns, abandoned_in, is_some_of, IsNamed}, Sound.{IsSound, refills_of}}
use Rattle.plain_board.proofs.{Card.{IsSet-nic, none-lowered}, Popping.{same-app, other-number, ring_then, AreRelayed-popped, AreBooked-popped}}
use Rattle.plain_board.proofs.{Dealing.{HasFront, HasFront-relayed, AreReturns-dealt, AreReturns-other, ArePhased-dealt}, Reserves.{own-users}}

some-of : (o : Option ℕ) → IsSome o → (i : ℕ) × (o ≡ Some i)
some-of None h = absurd (let none : ⊥ = cc in none)
some-of (Some i) h = (i, refl)

module _ (board : Stand) (a : ℕ) (x : AppSide) (e : Rqe) (es : List Rqe) (sound : IsSound board) (here : IsApp board.apps a x)
    (found : refills_of board.arrays a ≡ e ∷ es)
    (none : IfSome (judged board.arrays.layout e) (λ i. get_or board.arrays.users (user_at board.arrays.layout a i) 0 ≡ 0)) where
  same_layout : x.view.setting.layout ≡ board.arrays.layout
  same_layout = subst (λ app. app.view.setting.layout ≡ board.arrays.layout) here.is (ap (λ s. s.layout) (sound.set.roles a x here.there))

  front : HasFront board.nic x e
  front = HasFront-relayed board.nic x _ e es (rw found at (sound.relayed.relayed a x here))

  -- no entry is in hand
  idle : (b : ℕ) → lowered_in_hand x.view.app b board.nic.inside.entry ≡ 0
  idle = none-lowered _ board.nic board.apps sound.set x.view.app

  -- the entry came from no loan: of a loan something would be owed
  is_raw : front.first.of_loan ≡ false
  is_raw =
      let h = sound.returns a x here in
      ⊎_elim
      (λ of_loan.
      let named : IsNamed x.view.setting.layout front.first = All-head (IsNamed x.view.setting.layout) front.first front.others (rw front.way at h.named) in
      let it = some-of (judged x.view.setting.layout front.first.entry) (named of_loan) in
      let i = it.0 in
      let names_it : is_some_of (judged x.view.setting.layout front.first.entry) i ≡ true = ap (λ o. is_some_of o i) it.1 ∙ eqb_same i in
      let counted : returns x.view.setting.layout i front.first ≡ true = rw of_loan names_it in
      let owed : 1 ≤ user_count a i board.nic board.apps =
      omega (
        arith,
        own-users board a x sound here i,
        rw front.way at (h.owed i),
        idle i,
        count-first (returns x.view.setting.layout i) front.first front.others,
        ap one_if counted,
        owed-count i board.nic x,
      ) in
      let is : judged board.arrays.layout e ≡ Some i =
      ap (λ l. judged l e) (sym same_layout) ∙ (ap (λ entry. judged x.view.setting.layout entry) (sym front.entry) ∙ it.1) in
      let unowed : get_or board.arrays.users (user_at board.arrays.layout a i) 0 ≡ 0 = rw is at none in
      absurd (⊎_elim
      (λ inside. omega (arith, owed, unowed, sound.counted.users a i here.there inside))
      (λ past. omega (arith, owed, user_count-le a i board.nic board.apps, sound.counted.beyond i past))
      (cases_lt i (all_buffers board.arrays.layout))))
      (λ raw. raw)
      (cases_Bool front.first.of_loan)

  abbrev pub stray_dealt : Dealt
  stray_dealt = record { app = a; entry = e; fate = Stray }

  abbrev pub nic_passed : NicSide
  nic_passed = nic_at board.nic (passed_over board.nic.view a e)

  still_owed : (b : ℕ) → count_by (returns x.view.setting.layout b) front.others ≤ length (owed_in b nic_passed x)
  still_owed b = omega (
    arith,
    rw front.way at ((sound.returns a x here).owed b),
    idle b,
    count-first (returns x.view.setting.layout b) front.first front.others,
    owed-count b board.nic x,
    owed-count b nic_passed x,
    ended_in-passed_over b board.nic a e x,
  )

  no_more : (b : ℕ) → length (owed_in b nic_passed x) ≤ count_by (returns x.view.setting.layout b) front.others + abandoned_in b x
  no_more b =
      let raw : returns x.view.setting.layout b front.first ≡ false = rw is_raw refl in
      omega (
        arith,
        rw front.way at ((sound.returns a x here).no_more b),
        count-first (returns x.view.setting.layout b) front.first front.others,
        ap one_if raw,
        owed-count b board.nic x,
        owed-count b nic_passed x,
        ended_in-passed_over b board.nic a e x,
      )

  returns_then : (k : ℕ) (y : AppSide) → IsApp board.apps k y → AreReturns nic_passed y
  returns_then k y it =
      ⊎_elim
      (λ t. let same : k ≡ a = t.1 in
      let is : y ≡ x = same-app board.apps a x y here (subst (λ n. IsApp board.apps n y) same it) in
      subst (AreReturns nic_passed) (sym is)
      (AreReturns-dealt board.nic (passed_over board.nic.view a e) x stray_dealt refl front (sym here.number) (sound.returns a x here) idle still_owed no_more
      (λ of_loan. absurd (let raw = is_raw in let none : ⊥ = cc in none))))
      (λ t. let ne : k ≢ a = t.1 in
      let other = other-number board.apps a k y it ne in
      AreReturns-other board.nic (passed_over board.nic.view a e) y stray_dealt refl (λ same. other (sym same)) (λ b. ended_in-passed_over b board.nic a e y)
      (sound.returns k y it))
      (eqb_tells k a)

  pub IsSound-passed_over : IsSound (record {
    arrays = record board.arrays {
      refills = set board.arrays.refills a (ring_then board a);
      raw = set board.arrays.raw a (get_or board.arrays.raw a 0 - 1);
    };
    nic = nic_passed;
    apps = board.apps;
  })
  IsSound-passed_over =
      let v = passed_over board.nic.view a e in
      let same : (b : ℕ) → pool_count b nic_passed board.apps
      ≡ pool_count b board.nic board.apps = λ b. pool_count-passed_over b board.nic board.apps a e in
      record {
        sizes = assumption (
          length-set board.arrays.refills a (ring_then board a) ∙ sound.sizes.refills,
          length-set board.arrays.raw a (get_or board.arrays.raw a 0 - 1) ∙ sound.sizes.raw,
          sound.sizes,
        );
        cached = sound.cached;
        set = IsSet-nic _ board.nic v board.apps refl sound.set;
        counted = record {
          pool = λ b within. sound.counted.pool b within ∙ sym (same b);
          users = λ c b app within. sound.counted.users c b app within ∙ sym (user_count-passed_over c b board.nic board.apps a e);
          beyond = λ b past. same b ∙ sound.counted.beyond b past;
          returned = λ b. All-weaker (EndedWereReturned b board.nic) (EndedWereReturned b nic_passed)
              (λ app h. record {
                ended = rw (ended_in-passed_over b board.nic a e app) h.ended;
                returning = rw (ended_in-passed_over b board.nic a e app) h.returning;
              }) board.apps (sound.counted.returned b);
        };
        free = record {
          pool = λ b within. sound.free.pool b within ∙ ap (λ p. if p == 0 then 1 else 0) (sym (same b));
          reserves = λ b past. sound.free.reserves b past;
        };
        relayed = AreRelayed-popped board a x e es sound here found v stray_dealt refl refl refl refl _ refl refl refl;
        returns = returns_then;
        flags = assumption sound.flags;
        kept = assumption sound.kept;
        due = sound.due;
        filled = FillingsFit-nic board.nic v board.apps refl refl sound.filled;
        by_one = λ b. IsFilledByOne-passed_over b board.nic board.apps a e (sound.by_one b);
        shown = AreShown-passed_over (byte_of board.arrays) board.nic board.apps a e
            (λ b app has. (All-contains (EndedWereReturned b board.nic) board.apps app (sound.counted.returned b) has).returning) sound.shown;
        notes = sound.notes;
        own_buffers = LieInOwn-nic board.nic v board.apps refl refl refl sound.own_buffers;
        judged = All-push (IsHonouredAsNamed board.nic.view.setting.layout) board.nic.view.dealt stray_dealt sound.judged
            (λ b honoured. absurd (let none : ⊥ = cc in none));
        booked = AreBooked-popped board a x e es sound here found v stray_dealt refl refl refl refl _ refl refl refl refl front;
        phased = ArePhased-dealt board.nic v board.apps stray_dealt refl refl refl refl refl sound.phased;
      }

-- ---- what the answer says

look-case : (v : NicView) (a : ℕ) (e : Rqe) (o : Option ℕ)
    → IfSome o (λ i. NicRose (NotOwed a i) v (record v {
      dealt = v.dealt ++ record { app = a; entry = e; fate = Stray } ∷ [];
      looks = looks_by_stray o a v.looks;
    }))
look-case v a e None = tt
look-case v a e (Some i) = record { rose = (NicRose-nic_saw v (NotOwed a i)).rose }

pub PassedOver-passed_over : (v : NicView) (a : ℕ) (e : Rqe) → PassedOver v (passed_over v a e) a
PassedOver-passed_over v a e = record { entry = e; event = refl; look = look-case v a e (judged v.setting.layout e) }
