-- A spare is given: the lowest listed buffer, or else the reserve. Neither has a holder.
use Rattle.std.proofs.Common.{◌≡◌, ℕ, ◌+◌, ◌<◌, ◌≤◌, Bool, true, false, List, [], ◌∷◌, ◌++◌, length, set, get_or, refl, ap, sym}
use Rattle.std.{proofs.Common.{◌∙◌, subst, arith, inl, inr, ⊎_elim, length-append}, specs.Prelude.{◌≢◌, ◌==◌, ◌⊎◌, nat_eq, nat_lt, count_by, if◌then◌else◌, All}}
use Rattle.std.proofs.lemmas.{List.{length-set, get_or-set_same, get_or-set_other, Elements.{All-push}}, Bool.{lt-ltb, le-ltb, Decides.{eqb_tells}}}
use Rattle.area_layout.specs.Layout.{pool_buffers, all_buffers, size_of}
use Rattle.board_face.specs.{Sides.{IsApp, app_at}, Counts.{pool_count, user_count}, FreeOnce.{AreFreeOnce, free_places}, Looks.{AppTold}, OwnBuffers.{IsOwnBuffer}}
use Rattle.board_face.specs.{NicEvents.{fresh}, Tokens.{filling}, AppCalls.{IsHere, MaySpare, AppOnlySaw, HasNoneIn, GotSpare}}
use Rattle.board_face.specs.{AppEvents.{app_saw, app_gist, got_spare, reserve_of, looks_by_spare}, declared.views.app.AppLook.TheVariants.{NoneListed, NoSpare}}
use Rattle.board_face.{specs.declared.views.app.{AppView.{AppView}, AppSide.{AppSide}}, proofs.{Tallies.{one_if}, Parts.{app_count, spares_in, pool_count-parts}}}
use Rattle.board_face.proofs.{AppLemmas.{pool_count-app, app_count-got_spare}, RelayLemmas.{Relayed-app}, LookLemmas.{AppTold-none, AppTold-one, AppRose-app_saw}}
use Rattle.board_face.proofs.{FreeLemmas.{IsFreeOnce-unheld}, FillingsFitLemmas.{FillingsFit-got_spare}, IsFilledByOneLemmas.{IsFilledByOne-got_spare, fillings-held}}
use Rattle.board_face.proofs.{OwnBufferLemmas.{AppLiesInOwn-got_spare}, AreShownLemmas.{AreShown-got_spare}, LiesLemmas.{total-at}}
use Rattle.board_face.proofs.Counting.{weight-other, weight-swap, count-push, once-taken, All-none}
use Rattle.board_parts.specs.Free.{listed_in, HasNoneListed, IsPicked}
use Rattle.plain_board.specs.{Stand.{Arrays, Stand, setting_of_arrays, others_of, byte_of}, Seen.{IsSeenBy}, Sound.{IsSound, IsAppAtRest}}
use Rattle.plain_board.proofs.{Lists.{same-or-other, raised}, OwnSide.{seen-count, seen-users, nothing-listed}, Reserves.{reserve-own}}
use Rattle.plain_board.proofs.AppFrames.{has-setting, IsSet-app, was-at_rest, AreCounted-app, was-returned, AreRelayed-kept, was-relayed, returns-app, pools}
use Rattle.plain_board.proofs.AppFrames.{was-returns, AreFlags-kept, free_places-side, times_used, times_picked-app, AreDue-app, was-given, AreBooked-app}
use Rattle.plain_board.proofs.AppFrames.{was-booked_loans, was-booked_raw, ArePhased-app, was-phased, was-own, OwnBuffers-app}

-- ---- the free list

listed-less : (listed : List Bool) (i b : ℕ) → i < length listed → listed_in listed i ≡ true
    → one_if (listed_in (set listed i false) b) + one_if (i == b) ≡ one_if (listed_in listed b)
listed-less listed i b there was =
    ⊎_elim
    (λ t. let e : i ≡ b = t.1 in
    let now : one_if (listed_in (set listed i false) b) ≡ 0 = subst (λ n. one_if (listed_in (set listed i false) n) ≡ 0) e
    (ap one_if (get_or-set_same listed i false false there)) in
    let before : one_if (listed_in listed b) ≡ 1 = subst (λ n. one_if (listed_in listed n) ≡ 1) e (ap one_if was) in
    omega (arith, now, before, ap one_if t.0))
    (λ t. let ne : b ≢ i = λ e. t.1 (sym e) in omega (arith, ap one_if (get_or-set_other listed i b false false ne), ap one_if t.0))
    (eqb_tells i b)

-- What is picked is a listed buffer, which isn't listed then, or the reserve. Nobody has it.
pub record IsUnheld (board : Stand) (a buffer : ℕ) (listed : List Bool) : Type 0 where
  pub within : buffer < all_buffers board.arrays.layout
  pub none : pool_count buffer board.nic board.apps ≡ 0
  pub len : length listed ≡ length board.arrays.listed
  pub takes : (b : ℕ) → b < pool_buffers board.arrays.layout
      → one_if (listed_in listed b) + one_if (buffer == b) ≡ one_if (listed_in board.arrays.listed b)
  pub fewer : (b : ℕ) → one_if (listed_in listed b) ≤ one_if (listed_in board.arrays.listed b)
  pub which : (buffer < pool_buffers board.arrays.layout) ⊎ ((buffer ≡ pool_buffers board.arrays.layout + a) × HasNoneListed board.arrays.listed)

module _ (board : Stand) (a buffer : ℕ) (x : AppSide) (listed : List Bool) (sound : IsSound board) (here : IsApp board.apps a x)
    (picked : IsPicked board.arrays.listed listed board.arrays.pool (pool_buffers board.arrays.layout + a) buffer) where
  pub is_unheld : IsUnheld board a buffer listed
  is_unheld =
      ⊎_elim
      (λ t. let low = t.0 in
      let inside : buffer < pool_buffers board.arrays.layout = omega (arith, low.there, sound.sizes.listed) in
      let less : (b : ℕ) → one_if (listed_in listed b) + one_if (buffer == b)
      ≡ one_if (listed_in board.arrays.listed b) = λ b. rw t.1 (listed-less board.arrays.listed buffer b low.there low.is_listed) in
      record {
        within = omega arith;
        none = IsFreeOnce-unheld (listed_in board.arrays.listed) buffer board.nic board.apps (sound.free.pool buffer (rw (pools sound) inside))
            (omega (arith, ap one_if low.is_listed));
        len = ap length t.1 ∙ length-set board.arrays.listed buffer false;
        takes = λ b within. less b;
        fewer = λ b. omega (arith, less b);
        which = inl inside;
      })
      (λ t.
      let inside : buffer < all_buffers board.arrays.layout = let many = sound.set.many in let h = here.there in let e = t.0 in omega arith in
      record {
        within = inside;
        none = sym (sound.counted.pool buffer inside) ∙ (ap (λ n. get_or board.arrays.pool n 0) t.0 ∙ t.2);
        len = ap length t.3;
        takes = λ b within. omega (arith, ap (λ l. one_if (listed_in l b)) t.3, weight-other buffer b (λ e. absurd (let r = t.0 in omega arith)));
        fewer = λ b. omega (arith, ap (λ l. one_if (listed_in l b)) t.3);
        which = inr (t.0, t.1);
      })
      picked.which

module _ (board : Stand) (a buffer : ℕ) (listed : List Bool) (sound : IsSound board) (free : IsUnheld board a buffer listed) where
  pub there-pool : buffer < length board.arrays.pool
  there-pool = omega (arith, free.within, sound.sizes.pool)

  pub there-filled : buffer < length board.arrays.filled
  there-filled = omega (arith, free.within, sound.sizes.filled)

  pub none-count : get_or board.arrays.pool buffer 0 ≡ 0
  none-count = sound.counted.pool buffer free.within ∙ free.none

-- ---- what was picked

pick-count : (c : Bool) (picks : List ℕ) (buffer b : ℕ) → count_by (nat_eq b) (if c then picks ++ buffer ∷ [] else picks)
    ≡ count_by (nat_eq b) picks + (if c then one_if (buffer == b) else 0)
pick-count true picks buffer b = omega (arith, count-push b buffer picks, weight-swap b buffer)
pick-count false picks buffer b = omega arith

pick-length : (c : Bool) (picks : List ℕ) (buffer : ℕ) → length (if c then picks ++ buffer ∷ [] else picks) ≤ length picks + 1
pick-length true picks buffer = omega (arith, length-append picks (buffer ∷ []))
pick-length false picks buffer = omega arith

-- a buffer of the pool is the one that was picked only if that is of the pool
pick-pool : (c : Bool) (buffer b m : ℕ) → nat_lt buffer m ≡ c → b < m → (if c then one_if (buffer == b) else 0) ≡ one_if (buffer == b)
pick-pool true buffer b m is within = refl
pick-pool false buffer b m is within = sym (weight-other buffer b (λ e. absurd (let less = lt-ltb buffer m (omega arith) in let none : ⊥ = cc in none)))

-- ---- the spare

module _ (board : Stand) (a buffer : ℕ) (x : AppSide) (listed : List Bool) (sound : IsSound board) (here : IsApp board.apps a x) (stays : IsHere x.view)
    (due : MaySpare x.view) (free : IsUnheld board a buffer listed) where
  abbrev now : AppSide
  now = app_at x (got_spare x.view buffer)

  at-rest : IsAppAtRest now
  at-rest = assumption (was-at_rest board a x now sound here)

  mine : x.view.setting ≡ setting_of_arrays board.arrays
  mine = has-setting board a x now sound here

  my-pools : pool_buffers x.view.setting.layout ≡ pool_buffers board.arrays.layout
  my-pools = ap (λ s. pool_buffers s.layout) mine

  -- it is of the pool, or the application's own reserve
  own-buffer : IsOwnBuffer x.view buffer
  own-buffer = ⊎_elim (λ inside. inl (rw my-pools inside)) (λ reserve. inr (rw (my-pools, here.number) reserve.0)) free.which

  more : (b : ℕ) → pool_count b board.nic (set board.apps a now) ≡ pool_count b board.nic board.apps + one_if (buffer == b)
  more b = omega (arith, pool_count-app b board.nic board.apps a x now here, app_count-got_spare b board.nic x buffer)

  places : (b : ℕ) → free_places (listed_in listed) b board.nic (set board.apps a now) + one_if (listed_in board.arrays.listed b)
      ≡ free_places (listed_in board.arrays.listed) b board.nic board.apps + one_if (listed_in listed b)
  places b = free_places-side board a x now sound here (listed_in board.arrays.listed) (listed_in listed) b at-rest

  free-then : AreFreeOnce (listed_in listed) board.nic (set board.apps a now)
  free-then = record {
    pool = λ b within. once-taken (pool_count b board.nic board.apps) _ (free_places (listed_in board.arrays.listed) b board.nic board.apps) _
        (one_if (buffer == b)) (sound.free.pool b within)
        (omega (arith, places b, free.takes b (rw (← pools sound) within)))
        (more b)
        (⊎_elim (λ same. let e : b ≡ buffer = same.1 in inr (same.0, ap (λ n. pool_count n board.nic board.apps) e ∙ free.none)) (λ other. inl other)
        (same-or-other b buffer));
    reserves = λ b past. omega (arith, places b, sound.free.reserves b past, free.fewer b);
  }

  picks : (b : ℕ) → b < pool_buffers board.arrays.layout
      → count_by (nat_eq b) now.view.picked ≡ count_by (nat_eq b) x.view.picked + one_if (buffer == b)
  picks b within =
      let c = nat_lt buffer (pool_buffers x.view.setting.layout) in
      omega (arith, pick-count c x.view.picked buffer b, pick-pool c buffer b (pool_buffers x.view.setting.layout) refl (rw my-pools within))

  -- no spare lies in the buffer
  pub others-filled : (k : ℕ) (y : AppSide) → IsApp board.apps k y → All (λ s. s.own.buffer ≢ buffer) y.view.owns
  others-filled k y it =
      All-none (λ s. s.own.buffer) buffer y.view.owns (omega
      (arith, free.none, fillings-held buffer board.nic board.apps, total-at (spares_in buffer) board.apps k y it.there it.is))

  kept-filled : (k : ℕ) (y : AppSide) → IsApp board.apps k y
      → All (λ s. get_or (set board.arrays.filled buffer 0) s.own.buffer 0 ≡ length s.bytes) y.view.owns
  kept-filled k y it = λ i d small. get_or-set_other board.arrays.filled buffer (get_or y.view.owns i d).own.buffer 0 0 (others-filled k y it i d small)
      ∙ sound.booked.filled k y it i d small

  pub IsSound-got_spare : IsSound (record {
    arrays = record board.arrays {
      pool = set board.arrays.pool buffer (get_or board.arrays.pool buffer 0 + 1);
      filled = set board.arrays.filled buffer 0;
      listed = listed;
    };
    nic = board.nic;
    apps = set board.apps a now;
  })
  IsSound-got_spare =
      let was = was-returns board a x now sound here in
      let phase = was-phased board a x now sound here in
      let given = was-given board a x now sound here in
      let arrays_then : Arrays = record board.arrays {
        pool = set board.arrays.pool buffer (get_or board.arrays.pool buffer 0 + 1);
        filled = set board.arrays.filled buffer 0;
        listed = listed;
      } in
      record {
        sizes = assumption (
          length-set board.arrays.pool buffer (get_or board.arrays.pool buffer 0 + 1) ∙ sound.sizes.pool,
          free.len ∙ sound.sizes.listed,
          length-set board.arrays.filled buffer 0 ∙ sound.sizes.filled,
          sound.sizes,
        );
        cached = sound.cached;
        set = IsSet-app board a x now sound here refl refl at-rest;
        counted = AreCounted-app board a x now sound here arrays_then refl refl
            (λ b within. omega (
              arith,
              raised board.arrays.pool buffer b (there-pool board a buffer listed sound free),
              app_count-got_spare b board.nic x buffer,
            ))
            (λ b within. refl)
            (λ k b ne app within. refl)
            (λ b past. omega (arith, app_count-got_spare b board.nic x buffer, weight-other buffer b (λ e. absurd (let inside = free.within in omega arith))))
            (λ b. assumption (was-returned board a x now sound here b));
        free = free-then;
        relayed = AreRelayed-kept board a x now sound here arrays_then refl refl refl
            (Relayed-app board.nic x now.view _ _ refl refl refl refl (was-relayed board a x now sound here));
        returns = returns-app board a x now sound here (assumption was);
        flags = AreFlags-kept board a x now sound here arrays_then refl refl refl;
        kept = record {
          kept = λ b within. let inside : b < pool_buffers board.arrays.layout = rw (← pools sound) within in
              omega (
                arith,
                sound.kept.kept b within,
                times_used b board.nic board.apps,
                times_used b board.nic (set board.apps a now),
                times_picked-app board a x now sound here b,
                picks b inside,
                free.takes b inside,
              );
          swept = λ b within gone. omega (
            arith,
            sound.kept.swept b within gone,
            times_used b board.nic board.apps,
            times_used b board.nic (set board.apps a now),
            times_picked-app board a x now sound here b,
            picks b (rw (← pools sound) within),
          );
        };
        due = AreDue-app board a x now sound here (omega (arith, given, pick-length (nat_lt buffer (pool_buffers x.view.setting.layout)) x.view.picked buffer))
            (omega (arith, due));
        filled = FillingsFit-got_spare board.nic board.apps a x buffer here (let e = sound.set.card in let m = mine in cc)
            (rw sound.set.card sound.sizes.layout) sound.filled;
        by_one = λ b. IsFilledByOne-got_spare b board.nic board.apps a x buffer here (rw sound.set.card free.within) free.none (sound.by_one b);
        shown = AreShown-got_spare (byte_of board.arrays) board.nic board.apps a x buffer here sound.shown;
        notes = sound.notes;
        own_buffers = OwnBuffers-app board a x now sound here (AppLiesInOwn-got_spare x.view buffer own-buffer (was-own board a x now sound here));
        judged = sound.judged;
        booked = AreBooked-app board a x now sound here arrays_then refl
            (record {
              loans = was-booked_loans board a x now sound here;
              filled = All-push (λ s. get_or (set board.arrays.filled buffer 0) s.own.buffer 0 ≡ length s.bytes) x.view.owns
                  (record { own = fresh x.view.setting buffer; bytes = [] }) (kept-filled a x here)
                  (get_or-set_same board.arrays.filled buffer 0 0 (there-filled board a buffer listed sound free));
              raw = was-booked_raw board a x now sound here;
            })
            (λ k b ne app within. refl)
            (λ k y ne it. kept-filled k y it)
            (λ k ne. refl);
        phased = ArePhased-app board a x now sound here (record {
          ended = phase.ended;
          scrubbed = phase.scrubbed;
          left = λ gone. absurd (let none : ⊥ = cc in none);
        });
      }

  -- nothing of the application lies in it
  apart : HasNoneIn x.view buffer
  apart =
      let parts = pool_count-parts buffer board.nic board.apps in
      let part = total-at (app_count buffer board.nic) board.apps a x here.there here.is in
      let none = free.none in
      record {
        helds = All-none (λ h. h.place.buffer) buffer x.view.helds (omega (arith, parts, part, none));
        loans = All-none (λ l. l.place.buffer) buffer x.view.loans (omega (arith, parts, part, none));
        spares = others-filled a x here;
      }

  pub GotSpare-got : (size : ℕ) → size ≡ size_of board.arrays.layout buffer → GotSpare x.view (got_spare x.view buffer) (filling buffer 0 size)
  GotSpare-got size is = record {
    fresh = ap (λ n. filling buffer 0 n) (is ∙ ap (λ s. size_of s.layout buffer) (sym mine));
    event = refl;
    buffer = own-buffer;
    apart = apart;
    look = λ past. let none = le-ltb buffer (pool_buffers x.view.setting.layout) past in rw none (record { rose = (AppRose-app_saw x.view NoneListed).rose });
  }

  pub told-got : AppTold (λ look. IsSeenBy look (app_gist x.view) (others_of board a)) x.view (got_spare x.view buffer)
  told-got =
      ⊎_elim
      (λ inside. let of_pool : buffer < pool_buffers x.view.setting.layout = rw my-pools inside in
      AppTold-none (λ look. IsSeenBy look (app_gist x.view) (others_of board a)) x.view (got_spare x.view buffer)
      (ap (λ c. looks_by_spare c x.view.looks) (lt-ltb buffer (pool_buffers x.view.setting.layout) of_pool)))
      (λ reserve. let past : pool_buffers x.view.setting.layout ≤ buffer = rw my-pools (let e = reserve.0 in omega arith) in
      AppTold-one (λ look. IsSeenBy look (app_gist x.view) (others_of board a)) x.view (got_spare x.view buffer) NoneListed
      (ap (λ c. looks_by_spare c x.view.looks) (le-ltb buffer (pool_buffers x.view.setting.layout) past)) (nothing-listed board a x sound here reserve.1))
      free.which

-- ---- no spare

module _ (board : Stand) (a : ℕ) (x : AppSide) (sound : IsSound board) (here : IsApp board.apps a x) where
  pub told-none : HasNoneListed board.arrays.listed → 0 < get_or board.arrays.pool (pool_buffers board.arrays.layout + a) 0
      → AppTold (λ look. IsSeenBy look (app_gist x.view) (others_of board a)) x.view (app_saw x.view NoSpare)
  told-none none held =
      let mine = has-setting board a x x sound here in
      let reserve : reserve_of x.view ≡ pool_buffers board.arrays.layout + a = omega (arith, ap (λ s. pool_buffers s.layout) mine, here.number) in
      let inside : pool_buffers board.arrays.layout + a < all_buffers board.arrays.layout = let many = sound.set.many in let h = here.there in omega arith in
      AppTold-one (λ look. IsSeenBy look (app_gist x.view) (others_of board a)) x.view (app_saw x.view NoSpare) NoSpare refl (
        nothing-listed board a x sound here none,
        record {
          held = omega (
            arith,
            held,
            sound.counted.pool _ inside,
            seen-count board a x sound here (reserve_of x.view),
            ap (λ n. pool_count n board.nic board.apps) reserve,
          );
          own = omega (
            arith,
            seen-count board a x sound here (reserve_of x.view),
            seen-users board a x sound here x.view.app (reserve_of x.view),
            ap (λ n. user_count n (reserve_of x.view) board.nic board.apps) here.number,
            reserve-own board a x sound here,
          );
        },
      )

pub AppOnlySaw-spare : (v : AppView) → AppOnlySaw NoSpare v (app_saw v NoSpare)
AppOnlySaw-spare v = assumption (AppRose-app_saw v NoSpare)
