-- A held piece is lent: its reference is the loan's from then on.
use Rattle.std.{proofs.{Common.{◌≡◌, ℕ, ◌+◌, ◌<◌, [], ◌∷◌, ◌++◌, set, get_or, refl, ap, arith}, lemmas.Bool.{eq-eqb}}, specs.Prelude.{◌==◌, ◌&&◌}}
use Rattle.zr_kinds.specs.declared.place.Place.{Place}
use Rattle.area_layout.specs.Layout.{all_buffers}
use Rattle.board_face.specs.{Sides.{IsApp, app_at}, AppEvents.{lent, held_origin, helds_without}, AppCalls.{HasHeld, CanLend}, declared.views.app.LentPiece.{LentPiece}}
use Rattle.board_face.{specs.declared.views.app.AppSide.{AppSide}, proofs.{Tallies.{one_if, tally-push}, Parts.{count-tally}}}
use Rattle.board_face.proofs.{AppLemmas.{app_count-lent, user_part-lent}, IsFilledByOneLemmas.{IsFilledByOne-lent}, OwnBufferLemmas.{AppLiesInOwn-lent}}
use Rattle.board_face.proofs.{FillingsFitLemmas.{FillingsFit-same}, AreShownLemmas.{AreShown-lent}}
use Rattle.board_parts.specs.Counts.{user_at}
use Rattle.plain_board.{specs.{Stand.{Stand, byte_of}, Sound.{IsSound}}, proofs.{AppFrames.{was-booked_filled, was-own}, TokensLie.{held-lies}}}
use Rattle.plain_board.proofs.OnLoan.{IsSound-on_loan}

pub held-within : (board : Stand) (a : ℕ) (x : AppSide) (place : Place) (sound : IsSound board) (here : IsApp board.apps a x) (out : HasHeld x.view place)
    → place.buffer < all_buffers board.arrays.layout
held-within board a x place sound here out = (held-lies board a x sound here place out).0.buffer

pub IsSound-lent : (board : Stand) (a : ℕ) (x : AppSide) (place : Place) (sound : IsSound board) (here : IsApp board.apps a x) (out : HasHeld x.view place)
    (can : CanLend x.view) (n m : ℕ)
    → n ≡ get_or board.arrays.users (user_at board.arrays.layout a place.buffer) 0 + 1
    → m ≡ get_or board.arrays.loans (user_at board.arrays.layout a place.buffer) 0 + 1
    → IsSound (record {
      arrays = record board.arrays {
        users = set board.arrays.users (user_at board.arrays.layout a place.buffer) n;
        loans = set board.arrays.loans (user_at board.arrays.layout a place.buffer) m;
      };
      nic = board.nic;
      apps = set board.apps a (app_at x (lent x.view place));
    })
IsSound-lent board a x place sound here out can n m user_more loan_more =
    let now = app_at x (lent x.view place) in
    let mine : (b : ℕ) → one_if ((x.view.app == a) && (place.buffer == b))
    ≡ one_if (place.buffer == b) = λ b. ap (λ c. one_if (c && (place.buffer == b))) (eq-eqb x.view.app a here.number) in
    let one : LentPiece = record { place = place; origin = held_origin x.view place } in
    IsSound-on_loan board a x place.buffer sound here (held-within board a x place sound here out) (helds_without x.view place) x.view.owns
    (x.view.loans ++ one ∷ []) can n m user_more loan_more
    (λ b. app_count-lent b board.nic x place out)
    (λ b. omega (arith, user_part-lent a b board.nic x place, mine b))
    (λ b. omega (
      arith,
      count-tally (λ (l : LentPiece). l.place.buffer == b) x.view.loans,
      count-tally (λ (l : LentPiece). l.place.buffer == b) (x.view.loans ++ one ∷ []),
      tally-push (λ (l : LentPiece). l.place.buffer == b) x.view.loans one,
    ))
    (was-booked_filled board a x now sound here)
    (FillingsFit-same board.nic board.apps a x now here refl sound.filled)
    (λ b. IsFilledByOne-lent b board.nic board.apps a x place here out (sound.by_one b))
    (AreShown-lent (byte_of board.arrays) board.nic board.apps a x place here out sound.shown)
    (AppLiesInOwn-lent x.view place out (was-own board a x now sound here))
