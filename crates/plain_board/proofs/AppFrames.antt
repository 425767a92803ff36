-- What an event of one application leaves: all that it doesn't say of itself is as before.
use Rattle.std.proofs.Common.{◌≡◌, ℕ, ◌+◌, ◌<◌, ◌≤◌, Bool, List, length, map, set, get_or, refl, ap, sym, ◌∙◌, subst, arith, inl, inr, ⊎_elim}
use Rattle.std.specs.{Prelude.{◌≢◌, ◌⊎◌, nat_eq, count_by, All}, List.{flat_map}}
use Rattle.std.proofs.{lemmas.List.{get_or-set_same, get_or-set_other, length-set, map-set, set-set, Elements.{All-set}}, Math.Seq.{map-set_same}}
use Rattle.std.proofs.lemmas.Bool.Decides.{eqb_tells}
use Rattle.area_layout.specs.Layout.{all_buffers, pool_buffers}
use Rattle.board_face.specs.{Sides.{IsApp, side_in}, Counts.{pool_count, user_count, EndedWereReturned}, FreeOnce.{AreFreeOnce, free_places}, Relay.{Relayed}}
use Rattle.board_face.specs.{Texts.{unsplit_bytes}, Used.{picked_buffers, used_buffers, HasFewPicks, PicksAreGiven}, OwnBuffers.{AppLiesInOwn, LieInOwn}}
use Rattle.board_face.{specs.declared.views.{nic.NicSide.{NicSide}, app.AppSide.{AppSide}}, proofs.{ListLemmas.{not-eqb}, SideLemmas.{AreNumbered-set, IsApp-at}}}
use Rattle.board_face.proofs.{AppLemmas.{pool_count-app, user_count-app}, Parts.{app_count, user_part, count-tally}, OwnBufferLemmas.{LieInOwn-app, LieInOwn-side}}
use Rattle.board_face.{proofs.{Tallies.{one_if, tally, tally-flat, total-set}, Counting.{count-append}}, specs.Blank.{blank_app}}
use Rattle.board_parts.specs.Counts.{user_at}
use Rattle.plain_board.specs.{declared.others.Others.{Others}, Stand.{Arrays, Stand, setting_of_arrays, side_of}, Returns.{AreReturns, entries_on_way, loans_out}}
use Rattle.plain_board.specs.Returns.{reach_of}
use Rattle.plain_board.specs.Sound.{IsSound, IsRing, IsSet, IsAppAtRest, AreCounted, AreRelayed, AreFlags, AreKept, AreDue, AreBooked, IsPhased, ArePhased}
use Rattle.plain_board.specs.Sound.{notes_of, refills_of, taken_of}

-- the card's pool is the board's
pub pools : {board : Stand} → IsSound board → pool_buffers board.nic.view.setting.layout ≡ pool_buffers board.arrays.layout
pools sound = ap (λ s. pool_buffers s.layout) sound.set.card

-- how often a buffer was picked as a spare
abbrev pub times_picked : ℕ → List AppSide → ℕ
times_picked b apps = count_by (nat_eq b) (picked_buffers apps)

-- how often it was used
pub times_used : (b : ℕ) (nic : NicSide) (apps : List AppSide)
    → count_by (nat_eq b) (used_buffers nic apps) ≡ count_by (nat_eq b) nic.view.used + times_picked b apps
times_used b nic apps = count-append b nic.view.used (picked_buffers apps)

module _ (board : Stand) (a : ℕ) (x now : AppSide) (sound : IsSound board) (here : IsApp board.apps a x) where
  -- each application is as before, but this one
  pub at-then : (k : ℕ) (y : AppSide) → IsApp (set board.apps a now) k y → ((k ≡ a) × (y ≡ now)) ⊎ ((k ≢ a) × IsApp board.apps k y)
  at-then k y it =
      ⊎_elim
      (λ t. let same : k ≡ a = t.1 in inl (
        same,
        sym it.is
            ∙ (ap (λ n. get_or (set board.apps a now) n y) same ∙ get_or-set_same board.apps a now y here.there),
      ))
      (λ t. let ne : k ≢ a = t.1 in inr (
        ne,
        record {
          there = let h = it.there in omega (arith, length-set board.apps a now);
          is = sym (get_or-set_other board.apps a k now y ne) ∙ it.is;
          number = it.number;
        },
      ))
      (eqb_tells k a)

  pub IsSet-app : now.view.setting ≡ x.view.setting → now.view.app ≡ x.view.app → IsAppAtRest now
      → IsSet (setting_of_arrays board.arrays) board.nic (set board.apps a now)
  IsSet-app setting number rest = record {
    card = sound.set.card;
    card_rest = sound.set.card_rest;
    many = length-set board.apps a now ∙ sound.set.many;
    numbers = AreNumbered-set 0 board.apps a now (let n = here.number in omega (arith, number)) sound.set.numbers;
    roles = All-set (λ app. app.view.setting ≡ setting_of_arrays board.arrays) board.apps a now
        (setting ∙ subst (λ app. app.view.setting ≡ setting_of_arrays board.arrays) here.is (sound.set.roles a x here.there)) sound.set.roles;
    roles_rest = All-set IsAppAtRest board.apps a now rest sound.set.roles_rest;
  }

  -- the application was at rest before
  pub was-at_rest : IsAppAtRest x
  was-at_rest = subst IsAppAtRest here.is (sound.set.roles_rest a x here.there)

  -- its setting is the board's
  pub has-setting : x.view.setting ≡ setting_of_arrays board.arrays
  has-setting = subst (λ app. app.view.setting ≡ setting_of_arrays board.arrays) here.is (sound.set.roles a x here.there)

  part-other : (k b : ℕ) (app : AppSide) → app.view.app ≢ k → user_part k b board.nic app ≡ 0
  part-other k b app other = rw (not-eqb app.view.app k other) refl

  pub AreCounted-app : (arr : Arrays) → arr.layout ≡ board.arrays.layout → now.view.app ≡ x.view.app
      → ((b : ℕ) → b < all_buffers board.arrays.layout → get_or arr.pool b 0 + app_count b board.nic x
      ≡ get_or board.arrays.pool b 0 + app_count b board.nic now)
      → ((b : ℕ) → b < all_buffers board.arrays.layout → get_or arr.users (user_at board.arrays.layout a b) 0 + user_part a b board.nic x
      ≡ get_or board.arrays.users (user_at board.arrays.layout a b) 0 + user_part a b board.nic now)
      → ((k b : ℕ) → k ≢ a → k < length board.apps → b < all_buffers board.arrays.layout
      → get_or arr.users (user_at board.arrays.layout k b) 0 ≡ get_or board.arrays.users (user_at board.arrays.layout k b) 0)
      → ((b : ℕ) → all_buffers board.arrays.layout ≤ b → app_count b board.nic now ≤ app_count b board.nic x)
      → ((b : ℕ) → EndedWereReturned b board.nic now)
      → AreCounted arr board.nic (set board.apps a now)
  AreCounted-app arr layout number pool users others few returned = record {
    pool = λ b within. let inside : b < all_buffers board.arrays.layout = rw (← layout) within in
        omega (arith, pool b inside, sound.counted.pool b inside, pool_count-app b board.nic board.apps a x now here);
    users = λ k b app within. let inside : b < all_buffers board.arrays.layout = rw (← layout) within in
        let there : k < length board.apps = omega (arith, app, length-set board.apps a now) in
        ⊎_elim
        (λ t. let same : k ≡ a = t.1 in
        let at_a : get_or arr.users (user_at board.arrays.layout a b) 0 ≡ user_count a b board.nic (set board.apps a now) =
        omega (arith, users b inside, sound.counted.users a b here.there inside, user_count-app a b board.nic board.apps a x now here) in
        rw (layout, same) at_a)
        (λ t. let ne : k ≢ a = t.1 in
        let one : user_part k b board.nic x ≡ 0 = part-other k b x (λ e. ne (sym e ∙ here.number)) in
        let two : user_part k b board.nic now ≡ 0 = part-other k b now (λ e. ne (sym e ∙ (number ∙ here.number))) in
        let at_k : get_or arr.users (user_at board.arrays.layout k b) 0 ≡ user_count k b board.nic (set board.apps a now) =
        omega (arith, others k b ne there inside, sound.counted.users k b there inside, user_count-app k b board.nic board.apps a x now here, one, two) in
        rw layout at_k)
        (eqb_tells k a);
    beyond = λ b past. let past' : all_buffers board.arrays.layout ≤ b = rw (← layout) past in
        omega (arith, few b past', sound.counted.beyond b past', pool_count-app b board.nic board.apps a x now here);
    returned = λ b. All-set (EndedWereReturned b board.nic) board.apps a now (returned b) (sound.counted.returned b);
  }

  -- of the application before
  pub was-returned : (b : ℕ) → EndedWereReturned b board.nic x
  was-returned b = subst (EndedWereReturned b board.nic) here.is (sound.counted.returned b a x here.there)

  pub AreRelayed-app : (arr : Arrays) → arr.places ≡ board.arrays.places
      → Relayed board.nic now (map taken_of (notes_of arr a)) (refills_of arr a)
      → ((k : ℕ) → k ≢ a → notes_of arr k ≡ notes_of board.arrays k) → ((k : ℕ) → k ≢ a → refills_of arr k ≡ refills_of board.arrays k)
      → All (IsRing arr.places) arr.notes → All (IsRing arr.places) arr.refills
      → AreRelayed arr board.nic (set board.apps a now)
  AreRelayed-app arr places mine notes refills note_rooms refill_rooms = record {
    relayed = λ k y it. ⊎_elim
        (λ t. rw (t.0, t.1) mine)
        (λ t. rw (notes k t.0, refills k t.0) (sound.relayed.relayed k y t.1))
        (at-then k y it);
    notes = note_rooms;
    refills = refill_rooms;
  }

  -- the same where the rings are as before
  pub AreRelayed-kept : (arr : Arrays) → arr.places ≡ board.arrays.places → arr.notes ≡ board.arrays.notes → arr.refills ≡ board.arrays.refills
      → Relayed board.nic now (map taken_of (notes_of board.arrays a)) (refills_of board.arrays a) → AreRelayed arr board.nic (set board.apps a now)
  AreRelayed-kept arr places notes refills mine =
      AreRelayed-app arr places (rw (notes, refills) mine) (λ k ne. rw notes refl) (λ k ne. rw refills refl) (rw (notes, places) sound.relayed.notes)
      (rw (refills, places) sound.relayed.refills)

  -- what lay in its slots before
  pub was-relayed : Relayed board.nic x (map taken_of (notes_of board.arrays a)) (refills_of board.arrays a)
  was-relayed = sound.relayed.relayed a x here

  pub returns-app : AreReturns board.nic now → (k : ℕ) (y : AppSide) → IsApp (set board.apps a now) k y → AreReturns board.nic y
  returns-app mine k y it = ⊎_elim (λ t. subst (AreReturns board.nic) (sym t.1) mine) (λ t. sound.returns k y t.1) (at-then k y it)

  pub AreFlags-app : (arr : Arrays) → arr.ended ≡ board.arrays.ended → arr.left ≡ set board.arrays.left a now.view.left
      → AreFlags arr board.nic (set board.apps a now)
  AreFlags-app arr ended left = record {
    ended = ended ∙ sound.flags.ended;
    left = left ∙ (ap (λ flags. set flags a now.view.left) sound.flags.left ∙ sym (map-set (λ app. app.view.left) board.apps a now));
  }

  pub AreFlags-kept : (arr : Arrays) → arr.ended ≡ board.arrays.ended → arr.left ≡ board.arrays.left → now.view.left ≡ x.view.left
      → AreFlags arr board.nic (set board.apps a now)
  AreFlags-kept arr ended left same = record {
    ended = ended ∙ sound.flags.ended;
    left = left ∙ (sound.flags.left ∙ sym (map-set_same (λ app. app.view.left) board.apps a now x (same ∙ ap (λ app. app.view.left) (sym here.is))));
  }

  hands-count : (b : ℕ) → IsAppAtRest now → count_by (nat_eq b) (flat_map (λ app. app.inside.hands) (set board.apps a now))
      ≡ count_by (nat_eq b) (flat_map (λ app. app.inside.hands) board.apps)
  hands-count b rest =
      let hands : AppSide → List ℕ = λ app. app.inside.hands in
      let before = was-at_rest in
      omega (
        arith,
        count-tally (nat_eq b) (flat_map hands (set board.apps a now)),
        count-tally (nat_eq b) (flat_map hands board.apps),
        tally-flat (nat_eq b) hands (set board.apps a now),
        tally-flat (nat_eq b) hands board.apps,
        total-set (λ app. tally (nat_eq b) (hands app)) board.apps a x now here.there here.is,
        ap (tally (nat_eq b)) rest.hands,
        ap (tally (nat_eq b)) before.hands,
      )

  -- free places change by the free list alone
  pub free_places-side : (listed listed' : ℕ → Bool) (b : ℕ) → IsAppAtRest now
      → free_places listed' b board.nic (set board.apps a now) + one_if (listed b) ≡ free_places listed b board.nic board.apps + one_if (listed' b)
  free_places-side listed listed' b rest = omega (arith, hands-count b rest)

  -- where its holdings have the number that they had, and no buffer is listed or taken off the list
  pub AreFreeOnce-app : (listed : ℕ → Bool) → IsAppAtRest now → ((b : ℕ) → app_count b board.nic now ≡ app_count b board.nic x)
      → AreFreeOnce listed board.nic board.apps → AreFreeOnce listed board.nic (set board.apps a now)
  AreFreeOnce-app listed rest same free = record {
    pool = λ b within. let kept : pool_count b board.nic (set board.apps a now)
        ≡ pool_count b board.nic board.apps = omega (arith, same b, pool_count-app b board.nic board.apps a x now here) in
        rw kept (omega (arith, free_places-side listed listed b rest, free.pool b within));
    reserves = λ b past. omega (arith, free_places-side listed listed b rest, free.reserves b past);
  }

  -- picks of this application, and those of all
  pub times_picked-app : (b : ℕ) → times_picked b (set board.apps a now) + count_by (nat_eq b) x.view.picked
      ≡ times_picked b board.apps + count_by (nat_eq b) now.view.picked
  times_picked-app b =
      let picks : AppSide → List ℕ = λ app. app.view.picked in
      omega (
        arith,
        count-tally (nat_eq b) (flat_map picks (set board.apps a now)),
        count-tally (nat_eq b) (flat_map picks board.apps),
        tally-flat (nat_eq b) picks (set board.apps a now),
        tally-flat (nat_eq b) picks board.apps,
        total-set (λ app. tally (nat_eq b) (picks app)) board.apps a x now here.there here.is,
        count-tally (nat_eq b) x.view.picked,
        count-tally (nat_eq b) now.view.picked,
      )

  -- where no buffer left the free list
  pub AreKept-app : (listed listed' : ℕ → Bool) → now.view.picked ≡ x.view.picked → ((b : ℕ) → one_if (listed b) ≤ one_if (listed' b))
      → AreKept listed board.nic board.apps → AreKept listed' board.nic (set board.apps a now)
  AreKept-app listed listed' picks more kept = record {
    kept = λ b within. omega (
      arith,
      kept.kept b within,
      more b,
      times_used b board.nic board.apps,
      times_used b board.nic (set board.apps a now),
      times_picked-app b,
      ap (count_by (nat_eq b)) picks,
    );
    swept = λ b within gone. omega (
      arith,
      kept.swept b within gone,
      times_used b board.nic board.apps,
      times_used b board.nic (set board.apps a now),
      times_picked-app b,
      ap (count_by (nat_eq b)) picks,
    );
  }

  pub AreDue-app : PicksAreGiven now → now.view.spares ≤ unsplit_bytes (map (λ t. t.note) now.view.taken) → AreDue (set board.apps a now)
  AreDue-app picks due = record {
    picked = All-set PicksAreGiven board.apps a now picks sound.due.picked;
    few = All-set HasFewPicks board.apps a now (record { picks = omega arith; spares = due }) sound.due.few;
  }

  -- of the application before
  pub was-given : PicksAreGiven x
  was-given = subst PicksAreGiven here.is (sound.due.picked a x here.there)

  pub was-due : x.view.spares ≤ unsplit_bytes (map (λ t. t.note) x.view.taken)
  was-due = (subst HasFewPicks here.is (sound.due.few a x here.there)).spares

  -- its own part of what the arrays keep of it
  pub record IsBooked (arr : Arrays) : Type 0 where
    pub loans : (b : ℕ) → b < all_buffers board.arrays.layout → get_or arr.loans (user_at board.arrays.layout a b) 0 ≡ loans_out b now
    pub filled : All (λ s. get_or arr.filled s.own.buffer 0 ≡ length s.bytes) now.view.owns
    pub raw : get_or arr.raw a 0 ≡ reach_of (entries_on_way board.nic now)

  pub AreBooked-app : (arr : Arrays) → arr.layout ≡ board.arrays.layout → IsBooked arr
      → ((k b : ℕ) → k ≢ a → k < length board.apps → b < all_buffers board.arrays.layout
      → get_or arr.loans (user_at board.arrays.layout k b) 0 ≡ get_or board.arrays.loans (user_at board.arrays.layout k b) 0)
      → ((k : ℕ) (y : AppSide) → k ≢ a → IsApp board.apps k y → All (λ s. get_or arr.filled s.own.buffer 0 ≡ length s.bytes) y.view.owns)
      → ((k : ℕ) → k ≢ a → get_or arr.raw k 0 ≡ get_or board.arrays.raw k 0)
      → AreBooked arr board.nic (set board.apps a now)
  AreBooked-app arr layout mine loans filled raw = record {
    loans = λ k b y it within. let inside : b < all_buffers board.arrays.layout = rw (← layout) within in
        ⊎_elim
        (λ t. rw (layout, t.0, t.1) (mine.loans b inside))
        (λ t. rw layout (loans k b t.0 t.1.there inside ∙ sound.booked.loans k b y t.1 inside))
        (at-then k y it);
    filled = λ k y it. ⊎_elim (λ t. rw t.1 mine.filled) (λ t. filled k y t.0 t.1) (at-then k y it);
    raw = λ k y it. ⊎_elim (λ t. rw (t.0, t.1) mine.raw) (λ t. raw k t.0 ∙ sound.booked.raw k y t.1) (at-then k y it);
  }

  -- what the arrays kept of it before
  pub was-booked_loans : (b : ℕ) → b < all_buffers board.arrays.layout → get_or board.arrays.loans (user_at board.arrays.layout a b) 0 ≡ loans_out b x
  was-booked_loans b within = sound.booked.loans a b x here within

  pub was-booked_filled : All (λ s. get_or board.arrays.filled s.own.buffer 0 ≡ length s.bytes) x.view.owns
  was-booked_filled = sound.booked.filled a x here

  pub was-booked_raw : get_or board.arrays.raw a 0 ≡ reach_of (entries_on_way board.nic x)
  was-booked_raw = sound.booked.raw a x here

  -- where they keep what they kept
  pub AreBooked-kept : (arr : Arrays) → arr.layout ≡ board.arrays.layout → arr.loans ≡ board.arrays.loans → arr.filled ≡ board.arrays.filled
      → arr.raw ≡ board.arrays.raw → now.view.loans ≡ x.view.loans → now.view.owns ≡ x.view.owns
      → entries_on_way board.nic now ≡ entries_on_way board.nic x → AreBooked arr board.nic (set board.apps a now)
  AreBooked-kept arr layout loans filled raw lent owns way =
      AreBooked-app arr layout (record {
        loans = λ b within. rw (loans, lent) (was-booked_loans b within);
        filled = rw (filled, owns) was-booked_filled;
        raw = rw (raw, way) was-booked_raw;
      })
      (λ k b ne app within. rw loans refl) (λ k y ne it. rw filled (sound.booked.filled k y it)) (λ k ne. rw raw refl)

  -- where its holdings lay before
  pub was-own : AppLiesInOwn x.view
  was-own = LieInOwn-side board.nic board.apps a x here sound.own_buffers

  pub OwnBuffers-app : AppLiesInOwn now.view → LieInOwn board.nic (set board.apps a now)
  OwnBuffers-app mine = LieInOwn-app board.nic board.apps a now mine sound.own_buffers

  -- an event that leaves its holdings
  pub OwnBuffers-kept : now.view.setting ≡ x.view.setting → now.view.app ≡ x.view.app → now.view.helds ≡ x.view.helds
      → now.view.owns ≡ x.view.owns → now.view.loans ≡ x.view.loans → now.view.returned ≡ x.view.returned
      → LieInOwn board.nic (set board.apps a now)
  OwnBuffers-kept setting number helds owns loans returned =
      let was = was-own in
      OwnBuffers-app (record {
        helds = rw (setting, helds) was.helds;
        spares = rw (setting, number, owns) was.spares;
        loans = rw (setting, number, loans) was.loans;
        returned = rw (setting, number, returned) was.returned;
      })

  pub ArePhased-app : IsPhased board.nic now → ArePhased board.nic (set board.apps a now)
  ArePhased-app mine = assumption (All-set (IsPhased board.nic) board.apps a now mine sound.phased.sides)

  pub was-phased : IsPhased board.nic x
  was-phased = subst (IsPhased board.nic) here.is (sound.phased.sides a x here.there)

  pub was-returns : AreReturns board.nic x
  was-returns = sound.returns a x here

-- ---- one side among all

pub side-then : (apps : List AppSide) (a : ℕ) (x now : AppSide) → IsApp apps a x → side_in (set apps a now) a ≡ now
side-then apps a x now here = get_or-set_same apps a now blank_app here.there

-- what stands beside it stays
pub others-then : (nic : NicSide) (apps : List AppSide) (a : ℕ) (now : AppSide)
    → ◌≡◌ {A = Others} (record { card = nic; apps = set (set apps a now) a blank_app; number = a; room = 0 })
    (record { card = nic; apps = set apps a blank_app; number = a; room = 0 })
others-then nic apps a now = ap (λ sides. record { card = nic; apps = sides; number = a; room = 0 }) (set-set apps a now blank_app)

-- the application is one of the board's
pub here-of : (board : Stand) (a : ℕ) → IsSound board → a < board.arrays.layout.reserves → IsApp board.apps a (side_of board a)
here-of board a sound within = IsApp-at board.apps a blank_app sound.set.numbers (let many = sound.set.many in omega arith)
