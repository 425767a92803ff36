-- A buffer is taken.
use Rattle.std.proofs.Common.{◌≡◌, ℕ, ◌+◌, ◌-◌, ◌<◌, ◌≤◌, Bool, true, false, [], ◌∷◌, ◌++◌, length, take, set, get_or, refl}
use Rattle.std.{proofs.Common.{ap, sym, ◌∙◌, arith, inl, inr, ⊎_elim, length-take, Some}, specs.Prelude.{nat_eq, count_by, ◌==◌, if◌then◌else◌}}
use Rattle.std.proofs.lemmas.{List.{length-set}, Bool.{cases_lt, eqb-true}}
use Rattle.circular_buffer.specs.Buffer.{last_item}
use Rattle.area_layout.specs.Layout.{pool_buffers, size_of}
use Rattle.board_face.specs.{Tokens.{filling}, NicEvents.{took, cache_room}, NicCalls.{IsOpen, HasNothingIn, TookBuffer}, Sides.{nic_at}, Counts.{pool_count}}
use Rattle.board_face.{specs.FreeOnce.{free_places, AreFreeOnce}, proofs.{NicLemmas.{pool_count-took}, FreeLemmas.{free_places-took}, Parts.{pool_count-parts}}}
use Rattle.board_face.proofs.{FillingsFitLemmas.{FillingsFit-took}, IsFilledByOneLemmas.{IsFilledByOne-took}, OwnBufferLemmas.{LieInOwn-nic}}
use Rattle.board_face.proofs.{AreShownLemmas.{AreShown-took}, Tallies.{one_if}, Counting.{once-taken, count-push, weight-same, weight-other, weight-swap, All-none}}
use Rattle.board_parts.specs.Free.{listed_in}
use Rattle.plain_board.{specs.{Stand.{Stand, byte_of}, Sound.{IsSound}}, proofs.{Lists.{take-last, same-or-other}, AppFrames.{times_used, pools}}}
use Rattle.plain_board.proofs.Card.{IsSet-nic, AreCounted-nic, AreRelayed-nic, AreReturns-nic, AreBooked-nic, ArePhased-open}

-- how many elements of the free places one count stands for
free-case : (c : Bool) (f : ℕ) → f ≡ (if c then 1 else 0) → 1 ≤ f → (c ≡ true) × (f ≡ 1)
free-case true f e some = (refl, e)
free-case false f e some = absurd (omega (arith, e))

-- The buffer that stands last in the cache is one of the pool, stands there alone, and has no holder.
pub record IsSpareIn (b : ℕ) (board : Stand) : Type 0 where
  pub of_pool : b < pool_buffers board.arrays.layout
  pub once : free_places (listed_in board.arrays.listed) b board.nic board.apps ≡ 1
  pub none : pool_count b board.nic board.apps ≡ 0
  pub there : b < length board.arrays.pool
  pub count : get_or board.arrays.pool b 0 ≡ 0

module _ (board : Stand) (buffer : ℕ) (sound : IsSound board) (found : last_item board.arrays.cache ≡ Some buffer) where
  pub last : board.nic.view.cache ≡ (took board.nic.view buffer).cache ++ buffer ∷ []
  last = take-last board.nic.view.cache buffer (ap last_item (sym sound.cached) ∙ found)

  in_cache : 1 ≤ free_places (listed_in board.arrays.listed) buffer board.nic board.apps
  in_cache = omega (arith, free_places-took (listed_in board.arrays.listed) buffer board.nic board.apps buffer last, weight-same buffer)

  pub is_spare : IsSpareIn buffer board
  is_spare =
      ⊎_elim
      (λ inside. let once = sound.free.pool buffer (rw (pools sound) inside) in
      let both = free-case (pool_count buffer board.nic board.apps == 0)
      (free_places (listed_in board.arrays.listed) buffer board.nic board.apps) once in_cache in
      let zero_count = eqb-true (pool_count buffer board.nic board.apps) 0 both.0 in
      record {
        of_pool = inside;
        once = both.1;
        none = zero_count;
        there = omega (arith, sound.sizes.pool);
        count = sound.counted.pool buffer (omega arith) ∙ zero_count;
      })
      (λ outside. absurd (let none = sound.free.reserves buffer (rw (pools sound) outside) in omega (arith, in_cache, none)))
      (cases_lt buffer (pool_buffers board.arrays.layout))

  -- no token lies in it
  pub is_apart : HasNothingIn board.nic.view buffer
  is_apart =
      let none = is_spare.none in
      let parts = pool_count-parts buffer board.nic board.apps in
      record {
        owns = All-none (λ o. o.buffer) buffer board.nic.view.owns (omega (arith, parts, none));
        pieces = All-none (λ p. p.place.buffer) buffer board.nic.view.pieces (omega (arith, parts, none));
      }

  taken_counts : (b : ℕ) → pool_count b (nic_at board.nic (took board.nic.view buffer)) board.apps
      ≡ pool_count b board.nic board.apps + one_if (buffer == b)
  taken_counts b = pool_count-took b board.nic board.apps buffer

  free_after : AreFreeOnce (listed_in board.arrays.listed) (nic_at board.nic (took board.nic.view buffer)) board.apps
  free_after = record {
    pool = λ b within. once-taken (pool_count b board.nic board.apps) _ (free_places (listed_in board.arrays.listed) b board.nic board.apps) _
        (one_if (buffer == b)) (sound.free.pool b within)
        (omega (arith, free_places-took (listed_in board.arrays.listed) b board.nic board.apps buffer last, weight-swap b buffer)) (taken_counts b)
        (⊎_elim (λ same. inr (same.0, ap (λ x. pool_count x board.nic board.apps) same.1 ∙ is_spare.none)) (λ other. inl other)
        (same-or-other b buffer));
    reserves = λ b past. omega (arith, sound.free.reserves b past, free_places-took (listed_in board.arrays.listed) b board.nic board.apps buffer last);
  }

  pub IsSound-took : IsOpen board.nic.view → IsSound (record {
    arrays = record board.arrays {
      pool = set board.arrays.pool buffer (get_or board.arrays.pool buffer 0 + 1);
      cache = take (length board.arrays.cache - 1) board.arrays.cache;
    };
    nic = nic_at board.nic (took board.nic.view buffer);
    apps = board.apps;
  })
  IsSound-took running = record {
    sizes = let short = length-take (length board.arrays.cache - 1) board.arrays.cache in
        let cache : length (take (length board.arrays.cache - 1) board.arrays.cache) ≤ cache_room = omega (arith, sound.sizes.cache) in
        assumption (length-set board.arrays.pool buffer (get_or board.arrays.pool buffer 0 + 1) ∙ sound.sizes.pool, cache, sound.sizes);
    cached = ap (λ cache. take (length cache - 1) cache) sound.cached;
    set = IsSet-nic _ board.nic (took board.nic.view buffer) board.apps refl sound.set;
    counted = AreCounted-nic board.arrays _ board.nic (took board.nic.view buffer) board.apps buffer (get_or board.arrays.pool buffer 0 + 1) refl refl refl refl
        (let p = is_spare.of_pool in omega arith) sound.sizes.pool
        (let p = is_spare.of_pool in omega (arith, taken_counts buffer, weight-same buffer, sound.counted.pool buffer (omega arith)))
        (λ b other. omega (arith, taken_counts b, weight-other buffer b (λ e. other (sym e))))
        sound.counted;
    free = free_after;
    relayed = AreRelayed-nic board.arrays _ board.nic (took board.nic.view buffer) board.apps refl refl refl refl refl sound.relayed;
    returns = λ a app here. AreReturns-nic board.nic (took board.nic.view buffer) app refl (sound.returns a app here);
    flags = assumption sound.flags;
    kept = record {
      kept = λ b within. omega (
        arith,
        sound.kept.kept b within,
        ap (count_by (nat_eq b)) last,
        count-push b buffer (took board.nic.view buffer).cache,
        count-push b buffer board.nic.view.used,
        times_used b board.nic board.apps,
        times_used b (nic_at board.nic (took board.nic.view buffer)) board.apps,
      );
      swept = λ b within gone. omega (
        arith,
        sound.kept.swept b within gone,
        ap (count_by (nat_eq b)) last,
        count-push b buffer (took board.nic.view buffer).cache,
        count-push b buffer board.nic.view.used,
        times_used b board.nic board.apps,
        times_used b (nic_at board.nic (took board.nic.view buffer)) board.apps,
      );
    };
    due = sound.due;
    filled = FillingsFit-took board.nic board.apps buffer (rw sound.set.card sound.sizes.layout) (rw (pools sound) is_spare.of_pool) sound.filled;
    by_one = λ b. IsFilledByOne-took b board.nic board.apps buffer (let p = is_spare.of_pool in let l = pools sound in omega arith) is_spare.none (sound.by_one b);
    shown = AreShown-took (byte_of board.arrays) board.nic board.apps buffer is_spare.none sound.shown;
    notes = sound.notes;
    own_buffers = LieInOwn-nic board.nic (took board.nic.view buffer) board.apps refl refl refl sound.own_buffers;
    judged = sound.judged;
    booked = AreBooked-nic board.arrays _ board.nic (took board.nic.view buffer) board.apps refl refl refl refl refl sound.booked;
    phased = ArePhased-open board.nic (took board.nic.view buffer) board.apps running refl refl sound.phased;
  }

  pub TookBuffer-took : TookBuffer board.nic.view (took board.nic.view buffer) (filling buffer 0 (size_of board.arrays.layout buffer))
  TookBuffer-took = record {
    last = last;
    of_pool = rw (pools sound) is_spare.of_pool;
    fresh = ap (λ s. filling buffer 0 (size_of s.layout buffer)) (sym sound.set.card);
    event = refl;
    apart = is_apart;
  }
