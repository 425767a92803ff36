-- A piece is given up: its buffer has one holder less, and is listed where that was the last and it is one of the pool.
use Rattle.std.proofs.Common.{◌≡◌, ℕ, ◌+◌, ◌-◌, ◌<◌, ◌≤◌, Bool, true, false, List, length, set, get_or, refl, ap, arith, inl, inr, ⊎_elim}
use Rattle.std.{specs.Prelude.{◌==◌, ◌&&◌, nat_lt, if◌then◌else◌}, proofs.lemmas.{List.{length-set}, Bool.{lt-ltb, ltb-true}}}
use Rattle.zr_kinds.{specs.declared.place.Place.{Place}, proofs.Booleans.{and-true}}
use Rattle.area_layout.specs.Layout.{pool_buffers}
use Rattle.board_face.specs.{Sides.{IsApp, app_at}, Counts.{pool_count}, AppCalls.{IsHere, HasHeld}, AppEvents.{released}, FreeOnce.{AreFreeOnce, free_places}}
use Rattle.board_face.{specs.declared.views.app.AppSide.{AppSide}, proofs.{ListLemmas.{not-eqb}, Tallies.{one_if}, AppLemmas.{pool_count-app, app_count-released}}}
use Rattle.board_face.proofs.{IsFilledByOneLemmas.{IsFilledByOne-released}, OwnBufferLemmas.{AppLiesInOwn-released}, AreShownLemmas.{AreShown-released}}
use Rattle.board_face.proofs.Counting.{weight-other, weight-none, once-freed}
use Rattle.board_parts.specs.Free.{listed_in}
use Rattle.plain_board.{specs.{Stand.{Stand, byte_of}, Sound.{IsSound}}, proofs.{Lists.{same-or-other, lowered}, Freeing.{and-right, listed-set}}}
use Rattle.plain_board.proofs.{AppFrames.{free_places-side, was-own, pools}, HeldPieces.{is_held, there-pool, held-count, at-rest, IsSound-helds}}

-- ---- the free list

abbrev pub listed_then : Bool → List Bool → ℕ → List Bool
listed_then came listed i = if came then set listed i true else listed

pub listed-then : (came : Bool) (listed : List Bool) (i b : ℕ) → (came ≡ true → (i < length listed) × (listed_in listed i ≡ false))
    → one_if (listed_in (listed_then came listed i) b) ≡ one_if (listed_in listed b) + (if came then one_if (i == b) else 0)
listed-then true listed i b was = let both = was refl in listed-set listed i b both.0 both.1
listed-then false listed i b was = omega arith

pub length-then : (came : Bool) (listed : List Bool) (i : ℕ) → length (listed_then came listed i) ≡ length listed
length-then true listed i = length-set listed i true
length-then false listed i = refl

-- none comes to be listed that is none of the pool
past-pool : (came : Bool) (i b m : ℕ) → (came ≡ true → i < m) → m ≤ b → (if came then one_if (i == b) else 0) ≡ 0
past-pool true i b m inside past = weight-other i b (λ e. absurd (let less = inside refl in omega arith))
past-pool false i b m inside past = refl

module _ (board : Stand) (a : ℕ) (x : AppSide) (place : Place) (sound : IsSound board) (here : IsApp board.apps a x) (stays : IsHere x.view)
    (out : HasHeld x.view place) where
  abbrev released_side : AppSide
  released_side = app_at x (released x.view place)

  abbrev left : ℕ
  left = get_or board.arrays.pool place.buffer 0 - 1

  -- whether the buffer came to be free
  abbrev came : Bool
  came = (left == 0) && nat_lt place.buffer (pool_buffers board.arrays.layout)

  came-pool : came ≡ true → place.buffer < pool_buffers board.arrays.layout
  came-pool e = ltb-true place.buffer (pool_buffers board.arrays.layout) (and-right (left == 0) _ e)

  -- a buffer of the pool that is held isn't listed
  unlisted : place.buffer < pool_buffers board.arrays.layout → listed_in board.arrays.listed place.buffer ≡ false
  unlisted inside =
      let once = sound.free.pool place.buffer (rw (pools sound) inside) in
      let some = is_held board a x place sound here out in
      let none = ap one_if (not-eqb (pool_count place.buffer board.nic board.apps) 0 (λ z. absurd (omega (arith, some)))) in
      weight-none (listed_in board.arrays.listed place.buffer) (omega (arith, once, none))

  lists : (b : ℕ) → one_if (listed_in (listed_then came board.arrays.listed place.buffer) b)
      ≡ one_if (listed_in board.arrays.listed b) + (if came then one_if (place.buffer == b) else 0)
  lists b = listed-then came board.arrays.listed place.buffer b (λ e. let inside = came-pool e in (omega (arith, sound.sizes.listed), unlisted inside))

  some : 0 < get_or board.arrays.pool place.buffer 0
  some = omega (arith, held-count board a x place sound here out, is_held board a x place sound here out)

  less : (b : ℕ) → pool_count b board.nic (set board.apps a released_side) + one_if (place.buffer == b) ≡ pool_count b board.nic board.apps
  less b = omega (arith, pool_count-app b board.nic board.apps a x released_side here, app_count-released b board.nic x place out)

  free-then : AreFreeOnce (listed_in (listed_then came board.arrays.listed place.buffer)) board.nic (set board.apps a released_side)
  free-then =
      let resting = at-rest board a x released_side.view.helds board.arrays.pool board.arrays.listed sound here stays in
      let places : (b : ℕ) → free_places (listed_in (listed_then came board.arrays.listed place.buffer)) b board.nic (set board.apps a released_side)
      ≡ free_places (listed_in board.arrays.listed) b board.nic board.apps + (if came then one_if (place.buffer == b) else 0) =
      λ b. omega (
        arith,
        free_places-side board a x released_side sound here (listed_in board.arrays.listed)
            (listed_in (listed_then came board.arrays.listed place.buffer)) b resting,
        lists b,
      ) in
      record {
        pool = λ b within. once-freed came (pool_count b board.nic board.apps) _ (free_places (listed_in board.arrays.listed) b board.nic board.apps) _
            (one_if (place.buffer == b)) (one_if (place.buffer == b)) left (sound.free.pool b within)
            (less b)
            (places b)
            (⊎_elim
            (λ same. let e : b ≡ place.buffer = same.1 in
            let inside : place.buffer < pool_buffers board.arrays.layout = rw (← e, ← pools sound) within in
            inr (
              omega (arith, same.0),
              same.0,
              omega (arith, less b, same.0, held-count board a x place sound here out, ap (λ m. pool_count m board.nic board.apps) e),
              and-true (left == 0) _ (lt-ltb place.buffer (pool_buffers board.arrays.layout) inside),
            ))
            (λ other. inl (other, other))
            (same-or-other b place.buffer));
        reserves = λ b past. let past' : pool_buffers board.arrays.layout ≤ b = rw (← pools sound) past in
            omega (arith, places b, sound.free.reserves b past, past-pool came place.buffer b (pool_buffers board.arrays.layout) came-pool past');
      }

  pub IsSound-released : IsSound (record {
    arrays = record board.arrays { pool = set board.arrays.pool place.buffer left; listed = listed_then came board.arrays.listed place.buffer };
    nic = board.nic;
    apps = set board.apps a released_side;
  })
  IsSound-released =
      let there = there-pool board a x place sound here out in
      IsSound-helds board a x released_side.view.helds (set board.arrays.pool place.buffer left)
      (listed_then came board.arrays.listed place.buffer) sound here stays (record {
        pool_len = length-set board.arrays.pool place.buffer left;
        listed_len = length-then came board.arrays.listed place.buffer;
        counts = λ b within. omega (arith, lowered board.arrays.pool place.buffer b there some, app_count-released b board.nic x place out);
        few = λ b past. omega (arith, app_count-released b board.nic x place out);
        free = free-then;
        more = λ b. omega (arith, lists b);
        by_one = λ b. IsFilledByOne-released b board.nic board.apps a x place here out (sound.by_one b);
        shown = AreShown-released (byte_of board.arrays) board.nic board.apps a x place here out sound.shown;
        own_buffers = AppLiesInOwn-released x.view place (was-own board a x released_side sound here);
      })
