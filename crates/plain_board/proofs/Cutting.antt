-- A piece is cut: its buffer, which is held already, has one holder more.
use Rattle.std.{proofs.Common.{◌≡◌, ℕ, ◌+◌, ◌<◌, set, get_or, refl, ap, ◌∙◌, arith, inl, inr, ⊎_elim}, specs.Prelude.{◌==◌, ◌⊎◌, if◌then◌else◌}}
use Rattle.std.proofs.lemmas.List.{length-set}
use Rattle.zr_kinds.specs.declared.place.Place.{Place}
use Rattle.board_face.specs.{Sides.{IsApp, app_at}, Counts.{pool_count}, AppCalls.{IsHere, HasHeld}, AppEvents.{cut}, FreeOnce.{AreFreeOnce, free_places}}
use Rattle.board_face.{specs.declared.views.app.AppSide.{AppSide}, proofs.{ListLemmas.{not-eqb}, Tallies.{one_if}, AppLemmas.{pool_count-app, app_count-cut}}}
use Rattle.board_face.proofs.{IsFilledByOneLemmas.{IsFilledByOne-cut}, OwnBufferLemmas.{AppLiesInOwn-cut}, AreShownLemmas.{AreShown-cut}, Counting.{weight-other}}
use Rattle.board_parts.specs.Free.{listed_in}
use Rattle.plain_board.{specs.{Stand.{Stand, byte_of}, Sound.{IsSound}}, proofs.{Lists.{same-or-other, raised}, AppFrames.{free_places-side, was-own}}}
use Rattle.plain_board.proofs.HeldPieces.{is_held, of_area, there-pool, at-rest, IsSound-helds}

-- a buffer with a holder more than the one or more that it had is no freer than it was
once-more : (p p' f f' w : ℕ) → f ≡ (if p == 0 then 1 else 0) → f' ≡ f → p' ≡ p + w → (w ≡ 0) ⊎ (0 < p)
    → f' ≡ (if p' == 0 then 1 else 0)
once-more p p' f f' w e free more which =
    ⊎_elim
    (λ none. let same : p' ≡ p = omega arith in rw same (free ∙ e))
    (λ some. let before = ap one_if (not-eqb p 0 (λ z. absurd (omega arith))) in let after = ap one_if (not-eqb p' 0 (λ z. absurd (omega arith))) in omega
    (arith, e, before, after))
    which

module _ (board : Stand) (a : ℕ) (x : AppSide) (place : Place) (at : ℕ) (sound : IsSound board) (here : IsApp board.apps a x) (stays : IsHere x.view)
    (out : HasHeld x.view place) (front : 0 < at) (rest : at < place.len) where
  abbrev cut_side : AppSide
  cut_side = app_at x (cut x.view place at)

  free-then : AreFreeOnce (listed_in board.arrays.listed) board.nic (set board.apps a cut_side)
  free-then =
      let resting = at-rest board a x cut_side.view.helds board.arrays.pool board.arrays.listed sound here stays in
      record {
        pool = λ b within. once-more (pool_count b board.nic board.apps) _ (free_places (listed_in board.arrays.listed) b board.nic board.apps) _
            (one_if (place.buffer == b)) (sound.free.pool b within)
            (omega (arith, free_places-side board a x cut_side sound here (listed_in board.arrays.listed) (listed_in board.arrays.listed) b resting))
            (omega (arith, pool_count-app b board.nic board.apps a x cut_side here, app_count-cut b board.nic x place at out))
            (⊎_elim (λ same. let e : b ≡ place.buffer = same.1 in inr (rw e (is_held board a x place sound here out))) (λ other. inl other)
            (same-or-other b place.buffer));
        reserves = λ b past. omega (
          arith,
          free_places-side board a x cut_side sound here (listed_in board.arrays.listed)
              (listed_in board.arrays.listed) b resting,
          sound.free.reserves b past,
        );
      }

  pub IsSound-cut : IsSound (record {
    arrays = record board.arrays { pool = set board.arrays.pool place.buffer (get_or board.arrays.pool place.buffer 0 + 1) };
    nic = board.nic;
    apps = set board.apps a cut_side;
  })
  IsSound-cut =
      let inside = of_area board a x place sound here out in
      let there = there-pool board a x place sound here out in
      IsSound-helds board a x cut_side.view.helds (set board.arrays.pool place.buffer
      (get_or board.arrays.pool place.buffer 0 + 1)) board.arrays.listed sound here stays (record {
        pool_len = length-set board.arrays.pool place.buffer (get_or board.arrays.pool place.buffer 0 + 1);
        listed_len = refl;
        counts = λ b within. omega (arith, raised board.arrays.pool place.buffer b there, app_count-cut b board.nic x place at out);
        few = λ b past. omega (arith, app_count-cut b board.nic x place at out, weight-other place.buffer b (λ e. absurd (omega arith)));
        free = free-then;
        more = λ b. omega arith;
        by_one = λ b. IsFilledByOne-cut b board.nic board.apps a x place at here out (sound.by_one b);
        shown = AreShown-cut (byte_of board.arrays) board.nic board.apps a x place at here out front rest sound.shown;
        own_buffers = AppLiesInOwn-cut x.view place at out (was-own board a x cut_side sound here);
      })
