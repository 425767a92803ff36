-- A held piece lies in its buffer, which has few holders; an event of held pieces alone leaves all but counts and the free list.
use Rattle.std.{proofs.Common.{◌≡◌, ℕ, ◌+◌, ◌<◌, ◌≤◌, Bool, List, length, set, get_or, refl, ap, ◌∙◌, arith, ⊎_elim}, specs.Prelude.{count_by}}
use Rattle.std.proofs.lemmas.Bool.{cases_lt, lt-ltb}
use Rattle.zr_kinds.specs.declared.place.Place.{Place}
use Rattle.area_layout.{specs.Layout.{size_of, all_buffers}, proofs.Words.{words_apart}}
use Rattle.board_face.specs.{Lists.{same_place}, Sides.{IsApp, app_at}, Counts.{pool_count}, Places.{places_of, ends_behind}, FreeOnce.{AreFreeOnce}}
use Rattle.board_face.specs.{Fillings.{IsFilledByOne}, OwnBuffers.{AppLiesInOwn}, Shown.{AreShown}, AppCalls.{IsHere, HasHeld}}
use Rattle.board_face.{specs.declared.views.app.{HeldPiece.{HeldPiece}, AppSide.{AppSide}}, proofs.ListLemmas.{eqb_same, same_place-refl, same_place-is}}
use Rattle.board_face.proofs.{Tallies.{one_if, tally-without}, Parts.{app_count, pool_count-parts, count-tally}}
use Rattle.board_face.proofs.{PlaceTallies.{in_buffer, app_places, places-parts, in-own}, AppLemmas.{app_count-released}, RelayLemmas.{Relayed-app}}
use Rattle.board_face.proofs.{FewLemmas.{pool_count-few}, FillingsFitLemmas.{FillingsFit-same}, LiesLemmas.{total-at}}
use Rattle.board_parts.specs.Free.{listed_in}
use Rattle.plain_board.specs.{Stand.{Arrays, Stand, byte_of}, Sound.{IsSound, IsAppAtRest}}
use Rattle.plain_board.proofs.AppFrames.{IsSet-app, was-at_rest, AreCounted-app, was-returned, AreRelayed-kept, was-relayed, returns-app, was-returns}
use Rattle.plain_board.proofs.AppFrames.{AreFlags-kept, AreKept-app, AreDue-app, was-given, was-due, AreBooked-kept, ArePhased-app, was-phased, OwnBuffers-app}

-- ---- a held piece

module _ (board : Stand) (a : ℕ) (x : AppSide) (place : Place) (sound : IsSound board) (here : IsApp board.apps a x) (out : HasHeld x.view place) where
  pub is_held : 0 < pool_count place.buffer board.nic board.apps
  is_held =
      omega (
        arith,
        pool_count-parts place.buffer board.nic board.apps,
        total-at (app_count place.buffer board.nic) board.apps a x here.there here.is,
        app_count-released place.buffer board.nic x place out,
        ap one_if (eqb_same place.buffer),
      )

  pub of_area : place.buffer < all_buffers board.arrays.layout
  of_area = ⊎_elim (λ inside. inside) (λ past. absurd (omega (arith, is_held, sound.counted.beyond place.buffer past)))
      (cases_lt place.buffer (all_buffers board.arrays.layout))

  pub there-pool : place.buffer < length board.arrays.pool
  there-pool = omega (arith, of_area, sound.sizes.pool)

  pub held-count : get_or board.arrays.pool place.buffer 0 ≡ pool_count place.buffer board.nic board.apps
  held-count = sound.counted.pool place.buffer of_area

  sizes-same : size_of board.nic.view.setting.layout place.buffer ≡ size_of board.arrays.layout place.buffer
  sizes-same = ap (λ s. size_of s.layout place.buffer) sound.set.card

  sizes-most : size_of board.arrays.layout place.buffer ≤ 65536
  sizes-most = ((words_apart board.arrays.layout sound.sizes.layout).size place.buffer).most

  -- the buffer has few holders, as each of them has a byte of it
  pub held-few : get_or board.arrays.pool place.buffer 0 ≤ 65537
  held-few = omega (
    arith,
    held-count,
    pool_count-few place.buffer board.nic board.apps (sound.shown.places place.buffer) (sound.by_one place.buffer),
    sizes-same,
    sizes-most,
  )

  held-in : (b : ℕ) (test : Place → Bool) → one_if (in_buffer b test place) ≤ count_by test (places_of b board.nic board.apps)
  held-in b test =
      omega (
        arith,
        count-tally test (places_of b board.nic board.apps),
        places-parts b test board.nic board.apps,
        total-at (app_places b test board.nic) board.apps a x here.there here.is,
        tally-without (λ (h : HeldPiece). h.place) (same_place place) place (same_place-is place) (same_place-refl place) (in_buffer b test) x.view.helds out,
      )

  -- it ends within its buffer
  pub held-ends : place.offset + place.len ≤ 65536
  held-ends =
      let b = place.buffer in
      let n = size_of board.nic.view.setting.layout b in
      ⊎_elim
      (λ behind. absurd (omega (
        arith,
        held-in b (ends_behind n),
        (sound.shown.places b).within,
        ap one_if (in-own (ends_behind n) place),
        ap one_if (lt-ltb n (place.offset + place.len) behind),
      )))
      (λ inside. omega (arith, sizes-same, sizes-most))
      (cases_lt n (place.offset + place.len))

-- ---- an event of held pieces alone

module _ (board : Stand) (a : ℕ) (x : AppSide) (helds : List HeldPiece) (pool : List ℕ) (listed : List Bool) (sound : IsSound board)
    (here : IsApp board.apps a x) (stays : IsHere x.view) where
  abbrev pub side_then : AppSide
  side_then = app_at x (record x.view { helds = helds })

  abbrev pub arrays_then : Arrays
  arrays_then = record board.arrays { pool = pool; listed = listed }

  pub record IsMove : Type 0 where
    pub pool_len : length pool ≡ length board.arrays.pool
    pub listed_len : length listed ≡ length board.arrays.listed
    pub counts : (b : ℕ) → b < all_buffers board.arrays.layout
        → get_or pool b 0 + app_count b board.nic x ≡ get_or board.arrays.pool b 0 + app_count b board.nic side_then
    pub few : (b : ℕ) → all_buffers board.arrays.layout ≤ b → app_count b board.nic side_then ≤ app_count b board.nic x
    pub free : AreFreeOnce (listed_in listed) board.nic (set board.apps a side_then)
    pub more : (b : ℕ) → one_if (listed_in board.arrays.listed b) ≤ one_if (listed_in listed b)
    pub by_one : (b : ℕ) → IsFilledByOne b board.nic (set board.apps a side_then)
    pub shown : AreShown (byte_of board.arrays) board.nic (set board.apps a side_then)
    pub own_buffers : AppLiesInOwn side_then.view

  pub at-rest : IsAppAtRest side_then
  at-rest = assumption (was-at_rest board a x side_then sound here)

  pub IsSound-helds : IsMove → IsSound (record { arrays = arrays_then; nic = board.nic; apps = set board.apps a side_then })
  IsSound-helds move =
      let was = was-returns board a x side_then sound here in
      let phase = was-phased board a x side_then sound here in
      record {
        sizes = assumption (move.pool_len ∙ sound.sizes.pool, move.listed_len ∙ sound.sizes.listed, sound.sizes);
        cached = sound.cached;
        set = IsSet-app board a x side_then sound here refl refl at-rest;
        counted = AreCounted-app board a x side_then sound here arrays_then refl refl
            move.counts
            (λ b within. refl)
            (λ k b ne app within. refl)
            move.few
            (λ b. assumption (was-returned board a x side_then sound here b));
        free = move.free;
        relayed = AreRelayed-kept board a x side_then sound here arrays_then refl refl refl
            (Relayed-app board.nic x side_then.view _ _ refl refl refl refl (was-relayed board a x side_then sound here));
        returns = returns-app board a x side_then sound here
            (assumption was);
        flags = AreFlags-kept board a x side_then sound here arrays_then refl refl refl;
        kept = AreKept-app board a x side_then sound here _ _ refl move.more sound.kept;
        due = AreDue-app board a x side_then sound here (was-given board a x side_then sound here) (was-due board a x side_then sound here);
        filled = FillingsFit-same board.nic board.apps a x side_then here refl sound.filled;
        by_one = move.by_one;
        shown = move.shown;
        notes = sound.notes;
        own_buffers = OwnBuffers-app board a x side_then sound here move.own_buffers;
        judged = sound.judged;
        booked = AreBooked-kept board a x side_then sound here arrays_then refl refl refl refl refl refl refl;
        phased = ArePhased-app board a x side_then sound here
            (record { ended = phase.ended; scrubbed = phase.scrubbed; left = λ gone. absurd (let none : ⊥ = cc in none) });
      }
