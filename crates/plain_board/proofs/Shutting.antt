-- A buffer is closed.
use Rattle.std.proofs.Common.{◌≡◌, ℕ, ◌+◌, ◌-◌, ◌<◌, ◌≤◌, Bool, set, get_or, refl, ap, sym, ◌∙◌, arith, ⊎_elim, inl, inr}
use Rattle.std.{specs.Prelude.{nat_eq, count_by, ◌==◌, if◌then◌else◌, true, false, nat_lt, ◌&&◌}, proofs.lemmas.{List.{length-set}, Bool.{lt-ltb}}}
use Rattle.std.proofs.lemmas.List.Elements.{All-contains}
use Rattle.area_layout.specs.Layout.{pool_buffers, all_buffers}
use Rattle.board_face.specs.{NicEvents.{shut}, NicCalls.{IsOpen, HasOwn}, Sides.{nic_at}, Counts.{pool_count}, FreeOnce.{free_places}}
use Rattle.board_face.{specs.declared.views.parts.Filling.{Filling}, proofs.{NicLemmas.{pool_count-shut}, ListLemmas.{not-eqb}, FillingsFitLemmas.{FillingsFit-shut}}}
use Rattle.board_face.proofs.{IsFilledByOneLemmas.{IsFilledByOne-shut}, OwnBufferLemmas.{LieInOwn-nic}, AreShownLemmas.{AreShown-shut}, Tallies.{one_if}}
use Rattle.board_face.proofs.Counting.{weight-none, weight-same, weight-other, once-freed}
use Rattle.board_parts.specs.Free.{listed_in}
use Rattle.plain_board.{specs.{Stand.{Stand, byte_of}, Sound.{IsSound}}, proofs.Lists.{same-or-other}}
use Rattle.plain_board.proofs.Freeing.{cache_after, listed_after, places-after, cache-grows, cache-short, length-listed_after}
use Rattle.plain_board.proofs.{Card.{IsSet-nic, AreCounted-nic, AreRelayed-nic, AreReturns-nic, AreBooked-nic, ArePhased-open}, AppFrames.{pools}}
use Rattle.zr_kinds.proofs.Booleans.{and-true}

-- a buffer with a holder stands in no free place
pub used-nowhere : (p f : ℕ) → f ≡ (if p == 0 then 1 else 0) → 0 < p → f ≡ 0
used-nowhere p f e some = e ∙ ap one_if (not-eqb p 0 (λ z. absurd (omega arith)))

pub outside : (last : Bool) (f w : ℕ) → f ≡ 0 → w ≡ 0 → f + (if last then w else 0) ≡ 0
outside true f w empty none = omega arith
outside false f w empty none = omega arith

module _ (board : Stand) (own : Filling) (sound : IsSound board) (out : HasOwn board.nic.view own) where
  pub of_pool : own.buffer < pool_buffers board.arrays.layout
  of_pool = rw (← pools sound) (All-contains (λ (o : Filling). o.buffer < pool_buffers board.nic.view.setting.layout) board.nic.view.owns own sound.filled.of_pool out)

  pub less : (last : Bool) (b : ℕ) → pool_count b (nic_at board.nic (shut board.nic.view own last)) board.apps + one_if (own.buffer == b)
      ≡ pool_count b board.nic board.apps
  less last b = pool_count-shut b board.nic board.apps own last out

  pub is_held : 0 < get_or board.arrays.pool own.buffer 0
  is_held = omega (arith, less false own.buffer, weight-same own.buffer, sound.counted.pool own.buffer (let p = of_pool in omega arith))

  nowhere : free_places (listed_in board.arrays.listed) own.buffer board.nic board.apps ≡ 0
  nowhere =
      let p = of_pool in
      used-nowhere (pool_count own.buffer board.nic board.apps) _ (sound.free.pool own.buffer (rw (pools sound) p))
      (omega (arith, is_held, sound.counted.pool own.buffer (omega arith)))

  unlisted : listed_in board.arrays.listed own.buffer ≡ false
  unlisted = weight-none (listed_in board.arrays.listed own.buffer) (omega (arith, nowhere))

  -- whether it came to be free
  abbrev pub came : Bool → Bool
  came last = last && nat_lt own.buffer (pool_buffers board.nic.view.setting.layout)

  pub came-code : (last : Bool) → (last && nat_lt own.buffer (pool_buffers board.arrays.layout)) ≡ came last
  came-code last = ap (λ n. last && nat_lt own.buffer n) (sym (pools sound))

  pub came-zero : (last : Bool) (n : ℕ) → last ≡ (n == 0) → came last ≡ (n == 0)
  came-zero last n is = let p = of_pool in and-true last _ (lt-ltb own.buffer (pool_buffers board.nic.view.setting.layout) (rw (pools sound) p)) ∙ is

  free_after : (last : Bool) (b : ℕ) → free_places (listed_in (listed_after (came last) board.arrays.cache board.arrays.listed own.buffer)) b
      (nic_at board.nic (shut board.nic.view own last)) board.apps
      ≡ free_places (listed_in board.arrays.listed) b board.nic board.apps + (if came last then one_if (own.buffer == b) else 0)
  free_after last b =
      let p = of_pool in
      omega (
        arith,
        places-after (came last) board.arrays.cache board.arrays.listed own.buffer b (omega (arith, sound.sizes.listed)) unlisted,
        ap (count_by (nat_eq b)) sound.cached,
        ap (λ cache. count_by (nat_eq b) (cache_after (came last) cache own.buffer)) sound.cached,
      )

  pub IsSound-shut : IsOpen board.nic.view → (n : ℕ) (last : Bool) → n ≡ get_or board.arrays.pool own.buffer 0 - 1 → came last ≡ (n == 0)
      → IsSound (record {
        arrays = record board.arrays {
          pool = set board.arrays.pool own.buffer n;
          cache = cache_after (came last) board.arrays.cache own.buffer;
          listed = listed_after (came last) board.arrays.cache board.arrays.listed own.buffer;
        };
        nic = nic_at board.nic (shut board.nic.view own last);
        apps = board.apps;
      })
  IsSound-shut running n last many is =
      let p = of_pool in
      let there : own.buffer < all_buffers board.arrays.layout = omega arith in
      let now : n ≡ pool_count own.buffer (nic_at board.nic (shut board.nic.view own last)) board.apps = omega
      (arith, less last own.buffer, weight-same own.buffer, sound.counted.pool own.buffer there) in
      record {
        sizes = assumption (
          length-set board.arrays.pool own.buffer n ∙ sound.sizes.pool,
          length-listed_after (came last) board.arrays.cache board.arrays.listed own.buffer ∙ sound.sizes.listed,
          cache-short (came last) board.arrays.cache own.buffer sound.sizes.cache,
          sound.sizes,
        );
        cached = ap (λ cache. cache_after (came last) cache own.buffer) sound.cached;
        set = IsSet-nic _ board.nic (shut board.nic.view own last) board.apps refl sound.set;
        counted = AreCounted-nic board.arrays _ board.nic (shut board.nic.view own last) board.apps own.buffer n refl refl refl refl there sound.sizes.pool now
            (λ b other. omega (arith, less last b, weight-other own.buffer b (λ e. other (sym e))))
            sound.counted;
        free = record {
          pool = λ b within. once-freed (came last) (pool_count b board.nic board.apps) _
              (free_places (listed_in board.arrays.listed) b board.nic board.apps) _ (one_if (own.buffer == b)) (one_if (own.buffer == b)) n (sound.free.pool b within)
              (less last b)
              (free_after last b)
              (⊎_elim
              (λ same. inr (
                omega (arith, same.0),
                same.0,
                ap (λ x. pool_count x (nic_at board.nic (shut board.nic.view own last)) board.apps) same.1
                    ∙ sym now,
                is,
              ))
              (λ other. inl (other, other)) (same-or-other b own.buffer));
          reserves = λ b past. let past' : pool_buffers board.arrays.layout ≤ b = rw (← pools sound) past in free_after last b
              ∙ outside (came last) _ _ (sound.free.reserves b past) (weight-other own.buffer b (λ e. absurd (omega arith)));
        };
        relayed = AreRelayed-nic board.arrays _ board.nic (shut board.nic.view own last) board.apps refl refl refl refl refl sound.relayed;
        returns = λ a app here. AreReturns-nic board.nic (shut board.nic.view own last) app refl (sound.returns a app here);
        flags = assumption sound.flags;
        kept = record {
          kept = λ b within. omega (
            arith,
            sound.kept.kept b within,
            places-after (came last) board.arrays.cache board.arrays.listed own.buffer b (omega (arith, sound.sizes.listed)) unlisted,
            ap (count_by (nat_eq b)) sound.cached,
            ap (λ cache. count_by (nat_eq b) (cache_after (came last) cache own.buffer)) sound.cached,
          );
          swept = λ b within gone. omega (arith, sound.kept.swept b within gone, cache-grows (came last) board.nic.view.cache own.buffer b);
        };
        due = sound.due;
        filled = FillingsFit-shut board.nic board.apps own last sound.filled;
        by_one = λ b. IsFilledByOne-shut b board.nic board.apps own last out (sound.by_one b);
        shown = AreShown-shut (byte_of board.arrays) board.nic board.apps own last sound.shown;
        notes = sound.notes;
        own_buffers = LieInOwn-nic board.nic (shut board.nic.view own last) board.apps refl refl refl sound.own_buffers;
        judged = sound.judged;
        booked = AreBooked-nic board.arrays _ board.nic (shut board.nic.view own last) board.apps refl refl refl refl refl sound.booked;
        phased = ArePhased-open board.nic (shut board.nic.view own last) board.apps running refl refl sound.phased;
      }
