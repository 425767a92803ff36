-- A filled spare is lent: its reference is the loan's from then on, and its text the loan's.
use Rattle.std.proofs.Common.{◌≡◌, ℕ, zero, suc, ◌+◌, ◌<◌, Bool, true, false, cond, List, [], ◌∷◌, ◌++◌, length, map, set, get_or, refl, ap, sym, ◌∙◌, arith}
use Rattle.std.{specs.Prelude.{◌==◌, ◌&&◌, All, Contains}, proofs.lemmas.{Bool.{eq-eqb, false≢true}, List.Elements.{All-head, All-tail}}}
use Rattle.board_face.specs.{Lists.{at_first}, Tokens.{same_filling}, Sides.{IsApp, app_at}, AppEvents.{lent_own, own_bytes, owns_without, begin_place}}
use Rattle.board_face.specs.{AppCalls.{HasSpare, CanLend, IsFilled}, declared.views.{parts.Filling.{Filling}, app.Origin.TheVariants.{Copied as of_copy}}}
use Rattle.board_face.specs.declared.views.app.{LentPiece.{LentPiece}, SpareOwn.{SpareOwn}, AppSide.{AppSide}}
use Rattle.board_face.proofs.{ListLemmas.{All-without, same_filling-is, same_filling-refl}, Tallies.{one_if, tally-push}, Parts.{count-tally}}
use Rattle.board_face.proofs.{AppLemmas.{app_count-lent_own, user_part-lent_own}, IsFilledByOneLemmas.{IsFilledByOne-lent_own}, OwnBufferLemmas.{AppLiesInOwn-lent_own}}
use Rattle.board_face.proofs.{FillingsFitLemmas.{FillingsFit-lent_own}, AreShownLemmas.{AreShown-lent_own}}
use Rattle.board_parts.specs.Counts.{user_at}
use Rattle.plain_board.{specs.{Stand.{Stand, byte_of}, Sound.{IsSound}}, proofs.{AppFrames.{was-booked_filled, was-own}, TokensLie.{spare-within}}}
use Rattle.plain_board.proofs.OnLoan.{IsSound-on_loan}

-- ---- how many bytes the spare has

first-case : (n : ℕ) (c : Bool) (bytes rest : List ℕ) → (c ≡ true → n ≡ length bytes) → (c ≡ false → n ≡ length rest)
    → n ≡ length (cond c bytes rest)
first-case n true bytes rest here there = here refl
first-case n false bytes rest here there = there refl

-- where the lengths of all spares are booked, the first that is this one has its length
booked-at : (filled : List ℕ) (own : Filling) (xs : List SpareOwn) → Contains (map (λ s. s.own) xs) own
    → All (λ s. get_or filled s.own.buffer 0 ≡ length s.bytes) xs
    → get_or filled own.buffer 0 ≡ length (at_first (λ s. same_filling own s.own) (λ s. s.bytes) [] xs)
booked-at filled own [] (k, there, e) all = absurd (omega arith)
booked-at filled own (x ∷ xs) (zero, there, e) all =
    first-case (get_or filled own.buffer 0) (same_filling own x.own) x.bytes (at_first (λ s. same_filling own s.own) (λ s. s.bytes) [] xs)
    (λ same. ap (λ o. get_or filled o.buffer 0) (sym (same_filling-is own x.own same))
    ∙ All-head (λ s. get_or filled s.own.buffer 0 ≡ length s.bytes) x xs all)
    (λ other. absurd (false≢true (sym other ∙ (ap (same_filling own) e ∙ same_filling-refl own))))
booked-at filled own (x ∷ xs) (suc k, there, e) all =
    first-case (get_or filled own.buffer 0) (same_filling own x.own) x.bytes (at_first (λ s. same_filling own s.own) (λ s. s.bytes) [] xs)
    (λ same. ap (λ o. get_or filled o.buffer 0) (sym (same_filling-is own x.own same))
    ∙ All-head (λ s. get_or filled s.own.buffer 0 ≡ length s.bytes) x xs all)
    (λ other. booked-at filled own xs (k, omega arith, e) (All-tail (λ s. get_or filled s.own.buffer 0 ≡ length s.bytes) x xs all))

module _ (board : Stand) (a : ℕ) (x : AppSide) (own : Filling) (sound : IsSound board) (here : IsApp board.apps a x) (out : HasSpare x.view own) where
  pub own-there : own.buffer < length board.arrays.filled
  own-there = omega (arith, spare-within board a x sound here own out, sound.sizes.filled)

  pub own-filled : get_or board.arrays.filled own.buffer 0 ≡ length (own_bytes x.view own)
  own-filled = booked-at board.arrays.filled own x.view.owns out (was-booked_filled board a x x sound here)

  pub IsSound-lent_own : CanLend x.view → IsFilled x.view own → (n m : ℕ)
      → n ≡ get_or board.arrays.users (user_at board.arrays.layout a own.buffer) 0 + 1
      → m ≡ get_or board.arrays.loans (user_at board.arrays.layout a own.buffer) 0 + 1
      → IsSound (record {
        arrays = record board.arrays {
          users = set board.arrays.users (user_at board.arrays.layout a own.buffer) n;
          loans = set board.arrays.loans (user_at board.arrays.layout a own.buffer) m;
        };
        nic = board.nic;
        apps = set board.apps a (app_at x (lent_own x.view own));
      })
  IsSound-lent_own can some n m user_more loan_more =
      let mine : (b : ℕ) → one_if ((x.view.app == a) && (own.buffer == b))
      ≡ one_if (own.buffer == b) = λ b. ap (λ c. one_if (c && (own.buffer == b))) (eq-eqb x.view.app a here.number) in
      let one : LentPiece = record { place = begin_place own.buffer (length (own_bytes x.view own)); origin = of_copy (own_bytes x.view own) } in
      IsSound-on_loan board a x own.buffer sound here (spare-within board a x sound here own out) x.view.helds (owns_without x.view own)
      (x.view.loans ++ one ∷ []) can n m user_more loan_more
      (λ b. app_count-lent_own b board.nic x own out)
      (λ b. omega (arith, user_part-lent_own a b board.nic x own, mine b))
      (λ b. omega (
        arith,
        count-tally (λ (l : LentPiece). l.place.buffer == b) x.view.loans,
        count-tally (λ (l : LentPiece). l.place.buffer == b) (x.view.loans ++ one ∷ []),
        tally-push (λ (l : LentPiece). l.place.buffer == b) x.view.loans one,
      ))
      (All-without (λ (s : SpareOwn). get_or board.arrays.filled s.own.buffer 0 ≡ length s.bytes) (λ (s : SpareOwn). same_filling own s.own) x.view.owns
      (was-booked_filled board a x x sound here))
      (FillingsFit-lent_own board.nic board.apps a x own here sound.filled)
      (λ b. IsFilledByOne-lent_own b board.nic board.apps a x own here out (sound.by_one b))
      (AreShown-lent_own (byte_of board.arrays) board.nic board.apps a x own here out some sound.shown)
      (AppLiesInOwn-lent_own x.view own out (was-own board a x x sound here))
