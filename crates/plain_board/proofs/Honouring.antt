-- An entry gives a reference back.
use Rattle.std.proofs.Common.{◌≡◌, ℕ, ◌+◌, ◌-◌, ◌*◌, ◌<◌, ◌≤◌, Bool, true, false, List, ◌∷◌, length, set, get_or, refl, ap}
use Rattle.std.{proofs.Common.{sym, ◌∙◌, subst, arith, ⊎_elim, inl, inr, Some}, specs.Prelude.{◌≢◌, ◌&&◌, nat_eq, nat_lt, count_by, ◌==◌, if◌then◌else◌, All}}
use Rattle.std.proofs.lemmas.{List.{get_or_default, length-set, get_or-set_same, get_or-set_other, Elements.{All-push, All-contains}}, Nat.{mul-add-lt}}
use Rattle.std.proofs.lemmas.Bool.{cases_Bool, cases_lt, ltb-true, lt-ltb, Decides.{eqb_tells}}
use Rattle.zr_kinds.{specs.declared.ring.Rqe.{Rqe}, proofs.{Lists.{counts-set}, Booleans.{and-true}}}
use Rattle.area_layout.specs.Layout.{pool_buffers, all_buffers, judged}
use Rattle.board_face.specs.{NicEvents.{honoured, gave_up, holder_look}, Looks.{NicRose}, Judged.{IsHonouredAsNamed}, NicCalls.{FreedEntry, HonouredEntry}}
use Rattle.board_face.{specs.declared.views.nic.NicLook.TheVariants.{Owed}, proofs.LookLemmas.{NicRose-nic_saw, NicRose-before, NicRose-later, NicLooksStay-nic_saw}}
use Rattle.board_face.specs.{Sides.{nic_at, IsApp}, Holders.{lowered_in_hand, ended_in, owed_in, returned_in}, Counts.{pool_count, user_count, EndedWereReturned}}
use Rattle.board_face.specs.{FreeOnce.{free_places}, declared.views.nic.{Dealt.{Dealt}, Fate.TheVariants.{Honoured}, NicView.{NicView}, NicSide.{NicSide}}}
use Rattle.board_face.{specs.declared.views.app.AppSide.{AppSide}, proofs.ListLemmas.{eqb_same, not-eqb}}
use Rattle.board_face.proofs.NicLemmas.{Owes, pool_count-honoured, user_count-honoured, honoured-other, honoured-target}
use Rattle.board_face.proofs.{Parts.{returned_in-count, loans_in, owed_count, count-tally, user_count-own, owed-count}, Tallies.{one_if}}
use Rattle.board_face.proofs.{FillingsFitLemmas.{FillingsFit-nic}, IsFilledByOneLemmas.{IsFilledByOne-honoured, IsFilledByOne-gave_up}, OwnBufferLemmas.{LieInOwn-nic}}
use Rattle.board_face.proofs.{AreShownLemmas.{AreShown-honoured, AreShown-gave_up}, SideLemmas.{IsApp-at}}
use Rattle.board_face.proofs.Counting.{weight-same, weight-other, weight-none, count-first, once-freed}
use Rattle.board_parts.specs.{Free.{listed_in}, Counts.{user_at}}
use Rattle.plain_board.specs.{Stand.{Stand, byte_of}, Returns.{AreReturns, is_some_of, returns, names, abandoned_in}, Sound.{IsSound, refills_of}}
use Rattle.plain_board.proofs.{Lists.{same-or-other, same-user}, Card.{IsSet-nic, none-lowered}}
use Rattle.plain_board.proofs.{Freeing.{and-right, cache_after, listed_after, places-after, cache-grows, cache-short, length-listed_after}, Shutting.{used-nowhere}}
use Rattle.plain_board.proofs.Popping.{same-app, other-number, ring_then, AreRelayed-popped, AreBooked-popped}
use Rattle.plain_board.proofs.{Dealing.{HasFront, HasFront-relayed, AreReturns-dealt, AreReturns-other, ArePhased-dealt}, AppFrames.{pools}}

-- the entry gave its reference back, which was the last of its buffer, or not
abbrev pub honoured_if : NicView → ℕ → Rqe → ℕ → Bool → NicView
honoured_if v a e i last = gave_up (honoured v a e i) i last

pub nothing : (last : Bool) {f w : ℕ} → w ≡ 0 → f + (if last then w else 0) ≡ f
nothing true none = omega (arith, none)
nothing false none = omega arith

pub and-one : (a i : ℕ) → one_if ((a == a) && (i == i)) ≡ 1
and-one a i = rw (eqb_same a, eqb_same i) refl

and-case : (c d : Bool) → d ≡ false → one_if (c && d) ≡ 0
and-case true d e = ap one_if e
and-case false d e = refl

pub and-none : (a c i b : ℕ) → ((c ≡ a) × (b ≡ i) → ⊥) → one_if ((a == c) && (i == b)) ≡ 0
and-none a c i b apart =
    ⊎_elim
    (λ t. and-case (a == c) (i == b) (not-eqb i b (λ e. apart (sym t.1, sym e))))
    (λ t. let other : (a == c) ≡ false = t.0 in ap (λ z. one_if (z && (i == b))) other)
    (eqb_tells a c)

module _ (board : Stand) (a i : ℕ) (x : AppSide) (e : Rqe) (es : List Rqe) (sound : IsSound board) (here : IsApp board.apps a x)
    (found : refills_of board.arrays a ≡ e ∷ es)
    (named : judged board.arrays.layout e ≡ Some i) (inside : i < all_buffers board.arrays.layout)
    (some : 0 < get_or board.arrays.users (user_at board.arrays.layout a i) 0) where
  pub same_layout : x.view.setting.layout ≡ board.arrays.layout
  same_layout = subst (λ app. app.view.setting.layout ≡ board.arrays.layout) here.is (ap (λ s. s.layout) (sound.set.roles a x here.there))

  pub front : HasFront board.nic x e
  front = HasFront-relayed board.nic x _ e es (rw found at (sound.relayed.relayed a x here))

  pub returned : (b : ℕ) → EndedWereReturned b board.nic x
  returned b = subst (EndedWereReturned b board.nic) here.is (sound.counted.returned b a x here.there)

  first_judged : judged x.view.setting.layout front.first.entry ≡ Some i
  first_judged = ap (λ l. judged l front.first.entry) same_layout ∙ (ap (λ entry. judged board.arrays.layout entry) front.entry ∙ named)

  names_it : names x.view.setting.layout i front.first ≡ true
  names_it = ap (λ o. is_some_of o i) first_judged ∙ eqb_same i

  users_here : get_or board.arrays.users (user_at board.arrays.layout a i) 0 ≡ loans_in i x + owed_count i board.nic x
  users_here =
      sound.counted.users a i here.there inside
      ∙ user_count-own a i board.nic board.apps x sound.set.numbers here

  -- no entry is in hand
  idle : (b : ℕ) → lowered_in_hand x.view.app b board.nic.inside.entry ≡ 0
  idle = none-lowered _ board.nic board.apps sound.set x.view.app

  pub owes_some : 1 ≤ owed_count i board.nic x
  owes_some =
      let h = sound.returns a x here in
      ⊎_elim
      (λ of_loan. let counted : returns x.view.setting.layout i front.first ≡ true = rw of_loan names_it in
      omega (
        arith,
        rw front.way at (h.owed i),
        idle i,
        count-first (returns x.view.setting.layout i) front.first front.others,
        ap one_if counted,
        owed-count i board.nic x,
      ))
      (λ raw. let none = ((rw front.way at (h.clear i)).0 raw names_it).0 in
      omega (arith, users_here, some, none, count-tally (λ l. l.place.buffer == i) x.view.loans))
      (cases_Bool front.first.of_loan)

  pub owes_one : 1 ≤ length (owed_in i board.nic x)
  owes_one = omega (arith, owes_some, owed-count i board.nic x)

  pub owes : Owes i board.nic x
  owes = record { owes = omega (arith, owes_some); returning = (returned i).returning }

  abbrev nic_honoured : NicSide
  nic_honoured = nic_at board.nic (honoured board.nic.view a e i)

  abbrev pub nic_then : Bool → NicSide
  nic_then last = nic_at board.nic (honoured_if board.nic.view a e i last)

  pub less : (last : Bool) (b : ℕ) → pool_count b (nic_then last) board.apps + one_if (i == b) ≡ pool_count b board.nic board.apps
  less last b = pool_count-honoured b board.nic board.apps a i e x sound.set.numbers here owes

  pub fewer : (last : Bool) (c b : ℕ) → user_count c b (nic_then last) board.apps + one_if ((a == c) && (i == b)) ≡ user_count c b board.nic board.apps
  fewer last c b = user_count-honoured c b board.nic board.apps a i e x sound.set.numbers here owes

  pub is_held : 0 < get_or board.arrays.pool i 0
  is_held = omega (arith, less true i, weight-same i, sound.counted.pool i inside)

  unlisted : i < pool_buffers board.arrays.layout → listed_in board.arrays.listed i ≡ false
  unlisted of_pool =
      let nowhere = used-nowhere (pool_count i board.nic board.apps) _ (sound.free.pool i (rw (pools sound) of_pool))
      (omega (arith, is_held, sound.counted.pool i inside)) in
      weight-none (listed_in board.arrays.listed i) (omega (arith, nowhere))

  -- whether the buffer came to be free
  abbrev pub came : Bool → Bool
  came last = last && nat_lt i (pool_buffers board.nic.view.setting.layout)

  pub came-code : (last : Bool) → (last && nat_lt i (pool_buffers board.arrays.layout)) ≡ came last
  came-code last = ap (λ n. last && nat_lt i n) (sym (pools sound))

  pub came-zero : (last : Bool) (n : ℕ) → last ≡ (n == 0) → i < pool_buffers board.arrays.layout → came last ≡ (n == 0)
  came-zero last n is of_pool = and-true last _ (lt-ltb i (pool_buffers board.nic.view.setting.layout) (rw (pools sound) of_pool)) ∙ is

  pub came-pool : (last : Bool) → came last ≡ true → i < pool_buffers board.arrays.layout
  came-pool last free = let of_pool = ltb-true i (pool_buffers board.nic.view.setting.layout) (and-right last _ free) in let p = pools sound in omega arith

  places_if : (free : Bool) → (free ≡ true → i < pool_buffers board.arrays.layout) → (b : ℕ)
      → one_if (listed_in (listed_after free board.arrays.cache board.arrays.listed i) b) + count_by (nat_eq b) (cache_after free board.arrays.cache i)
      ≡ one_if (listed_in board.arrays.listed b) + count_by (nat_eq b) board.arrays.cache + (if free then one_if (i == b) else 0)
  places_if true of_pool b = places-after true board.arrays.cache board.arrays.listed i b (omega (arith, of_pool refl, sound.sizes.listed))
      (unlisted (of_pool refl))
  places_if false of_pool b = omega arith

  free_then : (last : Bool) → (came last ≡ true → i < pool_buffers board.arrays.layout) → (b : ℕ)
      → free_places (listed_in (listed_after (came last) board.arrays.cache board.arrays.listed i)) b (nic_then last) board.apps
      ≡ free_places (listed_in board.arrays.listed) b board.nic board.apps + (if came last then one_if (i == b) else 0)
  free_then last of_pool b = omega (
    arith,
    places_if (came last) of_pool b,
    ap (count_by (nat_eq b)) sound.cached,
    ap (λ cache. count_by (nat_eq b) (cache_after (came last) cache i)) sound.cached,
  )

  -- ---- what each application owes then

  ended_then : (last : Bool) (b : ℕ) → ended_in b (nic_then last) x ≡ ended_in b board.nic x + one_if (i == b)
  ended_then last b = honoured-target b board.nic a i e x here.number

  ended_others : (last : Bool) (b : ℕ) (app : AppSide) → app.view.app ≢ a → ended_in b (nic_then last) app ≡ ended_in b board.nic app
  ended_others last b app other = honoured-other b board.nic a i e app other

  returned_then : (last : Bool) (b : ℕ) → EndedWereReturned b (nic_then last) x
  returned_then last b = record {
    ended = ⊎_elim
        (λ same. subst (λ y. ended_in y (nic_then last) x ≤ length (returned_in y x)) (sym same.1)
        (omega (arith, ended_then last i, weight-same i, owes.owes, returned_in-count i x)))
        (λ other. omega (arith, ended_then last b, other, (returned b).ended))
        (same-or-other b i);
    returning = omega (arith, ended_then last b, (returned b).returning);
  }

  all_returned : (last : Bool) (b : ℕ) → All (EndedWereReturned b (nic_then last)) board.apps
  all_returned last b k d within =
      let app = get_or board.apps k d in
      let it = IsApp-at board.apps k d sound.set.numbers within in
      ⊎_elim
      (λ t. let same : k ≡ a = t.1 in
      let is : app ≡ x = ap (λ n. get_or board.apps n d) same ∙ (get_or_default board.apps a d x here.there ∙ here.is) in
      subst (EndedWereReturned b (nic_then last)) (sym is) (returned_then last b))
      (λ t. let ne : app.view.app ≢ a = λ e. t.1 (sym it.number ∙ e) in
      let before = sound.counted.returned b k d within in
      record { ended = rw (ended_others last b app ne) before.ended; returning = rw (ended_others last b app ne) before.returning })
      (eqb_tells k a)

  -- ---- the board

  abbrev pub the_dealt : Dealt
  the_dealt = record { app = a; entry = e; fate = Honoured i }

  -- its buffer is the one that the entry names
  as_named : IsHonouredAsNamed board.nic.view.setting.layout the_dealt
  as_named b honoured = ap (λ s. judged s.layout e) sound.set.card ∙ (named ∙ ap Some (let same : i ≡ b = cc in same))

  users_then : (last : Bool) (m : ℕ) → m ≡ get_or board.arrays.users (user_at board.arrays.layout a i) 0 - 1 → (c b : ℕ) → c < length board.apps
      → b < all_buffers board.arrays.layout
      → get_or (set board.arrays.users (user_at board.arrays.layout a i) m) (user_at board.arrays.layout c b) 0 ≡ user_count c b (nic_then last) board.apps
  users_then last m is c b app within =
      let users = board.arrays.users in
      let spot = user_at board.arrays.layout a i in
      let there : spot < length users = let many = sound.set.many in let h = here.there in let size = sound.sizes.users in omega
      (arith, mul-add-lt a (all_buffers board.arrays.layout) i board.arrays.layout.reserves (omega arith) inside, size) in
      ⊎_elim
      (λ t. let both = same-user (all_buffers board.arrays.layout) c a b i within inside t.1 in
      subst (λ c'. get_or (set users spot m) (user_at board.arrays.layout c' b) 0 ≡ user_count c' b (nic_then last) board.apps) (sym both.0)
      (subst (λ b'. get_or (set users spot m) (user_at board.arrays.layout a b') 0 ≡ user_count a b' (nic_then last) board.apps) (sym both.1)
      (get_or-set_same users spot m 0 there ∙ omega (arith, is, fewer last a i, and-one a i, sound.counted.users a i here.there inside))))
      (λ t. let ne : user_at board.arrays.layout c b ≢ spot = t.1 in
      let apart = and-none a c i b (λ both. ne (ap (λ n. n * all_buffers board.arrays.layout + b) both.0
      ∙ ap (λ n. a * all_buffers board.arrays.layout + n) both.1)) in
      get_or-set_other users spot (user_at board.arrays.layout c b) m 0 ne ∙ omega (arith, fewer last c b, apart, sound.counted.users c b app within))
      (eqb_tells (user_at board.arrays.layout c b) spot)

  still_owed : (last : Bool) (b : ℕ) → count_by (returns x.view.setting.layout b) front.others ≤ length (owed_in b (nic_then last) x)
  still_owed last b =
      let h = sound.returns a x here in
      let test = returns x.view.setting.layout b in
      let before = rw front.way at (h.owed b) in
      ⊎_elim
      (λ same. ⊎_elim
      (λ of_loan. let counted : returns x.view.setting.layout i front.first ≡ true = rw of_loan names_it in
      subst (λ y. count_by (returns x.view.setting.layout y) front.others ≤ length (owed_in y (nic_then last) x)) (sym same.1)
      (omega (
        arith,
        rw front.way at (h.owed i),
        idle i,
        count-first (returns x.view.setting.layout i) front.first front.others,
        ap one_if counted,
        owed-count i board.nic x,
        owed-count i (nic_then last) x,
        ended_then last i,
        weight-same i,
      )))
      (λ raw. let none = ((rw front.way at (h.clear i)).0 raw names_it).1 in
      subst (λ y. count_by (returns x.view.setting.layout y) front.others ≤ length (owed_in y (nic_then last) x)) (sym same.1) (omega (arith, none)))
      (cases_Bool front.first.of_loan))
      (λ other. omega (
        arith,
        before,
        idle b,
        count-first test front.first front.others,
        owed-count b board.nic x,
        owed-count b (nic_then last) x,
        ended_then last b,
        other,
      ))
      (same-or-other b i)

  -- the entry gives back no more than one loan, in its buffer
  gives-case : (of_loan names_b : Bool) (b : ℕ) → names_b ≡ (i == b) → one_if (if of_loan then names_b else false) ≤ one_if (i == b)
  gives-case true names_b b is = omega (arith, ap one_if is)
  gives-case false names_b b is = omega arith

  gives-one : (b : ℕ) → one_if (returns x.view.setting.layout b front.first) ≤ one_if (i == b)
  gives-one b = gives-case front.first.of_loan (names x.view.setting.layout b front.first) b (ap (λ o. is_some_of o b) first_judged)

  no_more : (last : Bool) (b : ℕ) → length (owed_in b (nic_then last) x) ≤ count_by (returns x.view.setting.layout b) front.others + abandoned_in b x
  no_more last b =
      omega (
        arith,
        rw front.way at ((sound.returns a x here).no_more b),
        count-first (returns x.view.setting.layout b) front.first front.others,
        gives-one b,
        owed-count b board.nic x,
        owed-count b (nic_then last) x,
        ended_then last b,
      )

  returns_then : (last : Bool) (k : ℕ) (y : AppSide) → IsApp board.apps k y → AreReturns (nic_then last) y
  returns_then last k y it =
      ⊎_elim
      (λ t. let same : k ≡ a = t.1 in
      let is : y ≡ x = same-app board.apps a x y here (subst (λ n. IsApp board.apps n y) same it) in
      subst (AreReturns (nic_then last)) (sym is)
      (AreReturns-dealt board.nic (honoured_if board.nic.view a e i last) x the_dealt refl front (sym here.number) (sound.returns a x here) idle
      (still_owed last) (no_more last) (λ of_loan. refl)))
      (λ t. let ne : k ≢ a = t.1 in
      let other = other-number board.apps a k y it ne in
      AreReturns-other board.nic (honoured_if board.nic.view a e i last) y the_dealt refl (λ same. other (sym same)) (λ b. ended_others last b y other)
      (sound.returns k y it))
      (eqb_tells k a)

  once_then : (last : Bool) (n : ℕ) → n ≡ pool_count i (nic_then last) board.apps → (i < pool_buffers board.arrays.layout → came last ≡ (n == 0))
      → (came last ≡ true → i < pool_buffers board.arrays.layout)
      → (b : ℕ) → b < pool_buffers board.arrays.layout
      → free_places (listed_in (listed_after (came last) board.arrays.cache board.arrays.listed i)) b (nic_then last) board.apps
      ≡ (if pool_count b (nic_then last) board.apps == 0 then 1 else 0)
  once_then last n now is of_pool b within =
      let before = sound.free.pool b (rw (pools sound) within) in
      ⊎_elim
      (λ inside. once-freed (came last) (pool_count b board.nic board.apps) _ (free_places (listed_in board.arrays.listed) b board.nic board.apps) _
      (one_if (i == b)) (one_if (i == b)) n before (less last b) (free_then last of_pool b)
      (⊎_elim (λ same. inr (omega (arith, same.0), same.0, ap (λ y. pool_count y (nic_then last) board.apps) same.1 ∙ sym now, is inside))
      (λ other. inl (other, other)) (same-or-other b i)))
      (λ beyond. let apart : one_if (i == b) ≡ 0 = weight-other i b (λ e. absurd (omega arith)) in
      let kept : pool_count b (nic_then last) board.apps ≡ pool_count b board.nic board.apps = omega (arith, less last b, apart) in
      free_then last of_pool b ∙ (nothing (came last) apart ∙ (before ∙ ap (λ p. if p == 0 then 1 else 0) (sym kept))))
      (cases_lt i (pool_buffers board.arrays.layout))

  pub IsSound-honoured : (last : Bool) (n m : ℕ) → n ≡ get_or board.arrays.pool i 0 - 1
      → m ≡ get_or board.arrays.users (user_at board.arrays.layout a i) 0 - 1
      → (i < pool_buffers board.arrays.layout → came last ≡ (n == 0)) → (came last ≡ true → i < pool_buffers board.arrays.layout)
      → IsSound (record {
        arrays = record board.arrays {
          pool = set board.arrays.pool i n;
          users = set board.arrays.users (user_at board.arrays.layout a i) m;
          cache = cache_after (came last) board.arrays.cache i;
          listed = listed_after (came last) board.arrays.cache board.arrays.listed i;
          refills = set board.arrays.refills a (ring_then board a);
          raw = set board.arrays.raw a (get_or board.arrays.raw a 0 - 1);
        };
        nic = nic_then last;
        apps = board.apps;
      })
  IsSound-honoured last n m many some_users is of_pool =
      let now : n ≡ pool_count i (nic_then last) board.apps = omega (arith, less last i, weight-same i, sound.counted.pool i inside) in
      record {
        sizes = assumption (
          length-set board.arrays.pool i n ∙ sound.sizes.pool,
          length-set board.arrays.users (user_at board.arrays.layout a i) m ∙ sound.sizes.users,
          length-listed_after (came last) board.arrays.cache board.arrays.listed i ∙ sound.sizes.listed,
          cache-short (came last) board.arrays.cache i sound.sizes.cache,
          length-set board.arrays.refills a (ring_then board a) ∙ sound.sizes.refills,
          length-set board.arrays.raw a (get_or board.arrays.raw a 0 - 1) ∙ sound.sizes.raw,
          sound.sizes,
        );
        cached = ap (λ cache. cache_after (came last) cache i) sound.cached;
        set = IsSet-nic _ board.nic (honoured_if board.nic.view a e i last) board.apps refl sound.set;
        counted = record {
          pool = counts-set (all_buffers board.arrays.layout) board.arrays.pool (λ b. pool_count b board.nic board.apps)
              (λ b. pool_count b (nic_then last) board.apps) i n (omega (arith, sound.sizes.pool)) sound.counted.pool now
              (λ b other. omega (arith, less last b, weight-other i b (λ e. other (sym e))));
          users = users_then last m some_users;
          beyond = λ b past. omega (arith, less last b, sound.counted.beyond b past);
          returned = all_returned last;
        };
        free = record {
          pool = λ b within. once_then last n now is of_pool b (rw (← pools sound) within);
          reserves = λ b past. let past' : pool_buffers board.arrays.layout ≤ b = rw (← pools sound) past in free_then last of_pool b
              ∙ beyond_pool (came last) of_pool b past' (sound.free.reserves b past);
        };
        relayed = AreRelayed-popped board a x e es sound here found (honoured_if board.nic.view a e i last) the_dealt refl refl refl refl _ refl refl refl;
        returns = returns_then last;
        flags = assumption sound.flags;
        kept = record {
          kept = λ b within. omega (
            arith,
            sound.kept.kept b within,
            places_if (came last) of_pool b,
            ap (count_by (nat_eq b)) sound.cached,
            ap (λ cache. count_by (nat_eq b) (cache_after (came last) cache i)) sound.cached,
          );
          swept = λ b within gone. omega (arith, sound.kept.swept b within gone, cache-grows (came last) board.nic.view.cache i b);
        };
        due = sound.due;
        filled = FillingsFit-nic board.nic (honoured_if board.nic.view a e i last) board.apps refl refl sound.filled;
        by_one = λ b. IsFilledByOne-gave_up b nic_honoured board.apps i last
            (IsFilledByOne-honoured b board.nic board.apps a i e x sound.set.numbers here owes (sound.by_one b));
        shown = AreShown-gave_up (byte_of board.arrays) nic_honoured board.apps i last
            (AreShown-honoured (byte_of board.arrays) board.nic board.apps a i e
            (λ b app has. (All-contains (EndedWereReturned b board.nic) board.apps app (sound.counted.returned b) has).returning) sound.shown);
        notes = sound.notes;
        own_buffers = LieInOwn-nic board.nic (honoured_if board.nic.view a e i last) board.apps refl refl refl sound.own_buffers;
        judged = All-push (IsHonouredAsNamed board.nic.view.setting.layout) board.nic.view.dealt the_dealt sound.judged as_named;
        booked = AreBooked-popped board a x e es sound here found
            (honoured_if board.nic.view a e i last) the_dealt refl refl refl refl _ refl refl refl refl front;
        phased = ArePhased-dealt board.nic (honoured_if board.nic.view a e i last) board.apps the_dealt refl refl refl refl refl sound.phased;
      }
    where
      beyond_pool : (free : Bool) → (free ≡ true → i < pool_buffers board.arrays.layout) → (b : ℕ) → pool_buffers board.arrays.layout ≤ b
          → {f : ℕ} → f ≡ 0 → f + (if free then one_if (i == b) else 0) ≡ 0
      beyond_pool true of_pool b past empty = omega (arith, of_pool refl, empty, weight-other i b (λ e. absurd (omega (arith, of_pool refl))))
      beyond_pool false of_pool b past empty = omega (arith, empty)

-- ---- what the answer says

looked : (v : NicView) (a i : ℕ) (e : Rqe) (last : Bool) → NicRose (Owed a i) v (honoured_if v a e i last)
looked v a i e last =
    let w = honoured v a e i in
    NicRose-before v w (honoured_if v a e i last) (Owed a i) (record { rose = (NicRose-nic_saw v (Owed a i)).rose })
    (record { later = λ look. (NicLooksStay-nic_saw w (holder_look last i)).later look })

held : (v : NicView) (a i : ℕ) (e : Rqe) (last : Bool) → NicRose (holder_look last i) v (honoured_if v a e i last)
held v a i e last =
    let w = honoured v a e i in
    NicRose-later v w (honoured_if v a e i last) (holder_look last i) (record { later = λ look. (NicLooksStay-nic_saw v (Owed a i)).later look })
    (record { rose = (NicRose-nic_saw w (holder_look last i)).rose })

pub FreedEntry-honoured : (v : NicView) (a i : ℕ) (e : Rqe) → judged v.setting.layout e ≡ Some i → i < pool_buffers v.setting.layout
    → FreedEntry v (honoured_if v a e i true) a
FreedEntry-honoured v a i e named of_pool = record {
  entry = e;
  buffer = i;
  names = named;
  of_pool = of_pool;
  event = refl;
  look = looked v a i e true;
  holders = held v a i e true;
}

pub HonouredEntry-honoured : (v : NicView) (a i : ℕ) (e : Rqe) (last : Bool) → judged v.setting.layout e ≡ Some i
    → (last ≡ true → pool_buffers v.setting.layout ≤ i) → HonouredEntry v (honoured_if v a e i last) a
HonouredEntry-honoured v a i e last named reserve = record {
  entry = e;
  buffer = i;
  last = last;
  names = named;
  reserve = reserve;
  event = refl;
  look = looked v a i e last;
  holders = held v a i e last;
}
