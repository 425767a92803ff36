-- What was held or filled is on loan: one user more, and no holder more or less.
use Rattle.std.{proofs.Common.{◌≡◌, ℕ, ◌+◌, ◌<◌, ◌^◌, true, false, List, length, set, get_or, refl, sym, ◌∙◌, arith, inl}, specs.Prelude.{◌==◌, All}}
use Rattle.std.proofs.lemmas.List.{length-set}
use Rattle.area_layout.specs.Layout.{all_buffers}
use Rattle.board_face.specs.{Sides.{IsApp, app_at}, AppCalls.{CanLend}, Fillings.{FillingsFit, IsFilledByOne}, OwnBuffers.{AppLiesInOwn}, Shown.{AreShown}}
use Rattle.board_face.{specs.declared.views.app.{HeldPiece.{HeldPiece}, LentPiece.{LentPiece}, SpareOwn.{SpareOwn}, AppSide.{AppSide}}, proofs.Tallies.{one_if}}
use Rattle.board_face.proofs.{Parts.{app_count, user_part, count-tally}, FreeLemmas.{user_count-le}, RelayLemmas.{Relayed-app}}
use Rattle.board_parts.specs.Counts.{user_at}
use Rattle.plain_board.specs.{Stand.{Arrays, Stand, byte_of}, Returns.{loans_out, IsClear, entries_on_way}, Sound.{IsSound}}
use Rattle.plain_board.proofs.AppFrames.{IsSet-app, was-at_rest, AreCounted-app, was-returned, AreRelayed-kept, was-relayed, returns-app, was-returns}
use Rattle.plain_board.proofs.AppFrames.{AreFlags-kept, AreFreeOnce-app, AreKept-app, AreDue-app, was-given, was-due, AreBooked-app, was-booked_loans}
use Rattle.plain_board.proofs.{AppFrames.{was-booked_raw, ArePhased-app, was-phased, OwnBuffers-app}, Users.{loans-there, users-there, user-other, user-raised}}
use Rattle.plain_board.proofs.{TokensLie.{part-le}, Counting.{holders-few}}
pub use Rattle.board_face.proofs.ReturnLemmas.{IsClear-of_loans}

module _ (board : Stand) (a : ℕ) (x : AppSide) (buffer : ℕ) (sound : IsSound board) (here : IsApp board.apps a x)
    (within : buffer < all_buffers board.arrays.layout) where
  abbrev user : ℕ
  user = user_at board.arrays.layout a buffer

  app-within : a < board.arrays.layout.reserves
  app-within = let many = sound.set.many in let there = here.there in omega arith

  pub user-there : user < length board.arrays.users
  user-there = users-there board sound a buffer app-within within

  pub loan-there : user < length board.arrays.loans
  loan-there = loans-there board sound a buffer app-within within

  -- no count of users is large
  pub user-few : get_or board.arrays.users user 0 + 1 < 2 ^ 64
  user-few = omega (arith, sound.counted.users a buffer here.there within, user_count-le a buffer board.nic board.apps, holders-few board sound buffer)

  pub loan-few : get_or board.arrays.loans user 0 + 1 < 2 ^ 64
  loan-few =
      omega (
        arith,
        was-booked_loans board a x x sound here buffer within,
        count-tally (λ (l : LentPiece). l.place.buffer == buffer) x.view.loans,
        part-le board a x sound here buffer,
        holders-few board sound buffer,
      )

  module _ (helds : List HeldPiece) (owns : List SpareOwn) (loans : List LentPiece) (can : CanLend x.view) where
    abbrev pub loaned : AppSide
    loaned = app_at x (record x.view { helds = helds; owns = owns; loans = loans })

    abbrev arrays_then : ℕ → ℕ → Arrays
    arrays_then n m = record board.arrays { users = set board.arrays.users user n; loans = set board.arrays.loans user m }

    pub IsSound-on_loan : (n m : ℕ) → n ≡ get_or board.arrays.users user 0 + 1 → m ≡ get_or board.arrays.loans user 0 + 1
        → ((b : ℕ) → app_count b board.nic loaned ≡ app_count b board.nic x)
        → ((b : ℕ) → user_part a b board.nic loaned ≡ user_part a b board.nic x + one_if (buffer == b))
        → ((b : ℕ) → loans_out b loaned ≡ loans_out b x + one_if (buffer == b))
        → All (λ s. get_or board.arrays.filled s.own.buffer 0 ≡ length s.bytes) owns
        → FillingsFit board.nic (set board.apps a loaned)
        → ((b : ℕ) → IsFilledByOne b board.nic (set board.apps a loaned))
        → AreShown (byte_of board.arrays) board.nic (set board.apps a loaned)
        → AppLiesInOwn loaned.view
        → IsSound (record { arrays = arrays_then n m; nic = board.nic; apps = set board.apps a loaned })
    IsSound-on_loan n m user_more loan_more holders users more filled fit by_one shown own =
        let arr = arrays_then n m in
        let was = was-returns board a x loaned sound here in
        let phase = was-phased board a x loaned sound here in
        let not_yet : x.view.scrubbed ≡ true → ⊥ = λ e. let wrong : true ≡ false = sym e ∙ can.counted in cc in
        let at_rest = was-at_rest board a x loaned sound here in
        record {
          sizes = assumption (
            length-set board.arrays.users user n ∙ sound.sizes.users,
            length-set board.arrays.loans user m ∙ sound.sizes.loans,
            sound.sizes,
          );
          cached = sound.cached;
          set = IsSet-app board a x loaned sound here refl refl (assumption at_rest);
          counted = AreCounted-app board a x loaned sound here arr refl refl
              (λ b inside. omega (arith, holders b))
              (λ b inside. omega (
                arith,
                users b,
                user-raised (all_buffers board.arrays.layout) board.arrays.users a buffer n within user-there user_more b
                    inside,
              ))
              (λ k b ne app inside. user-other (all_buffers board.arrays.layout) board.arrays.users a buffer n within k b inside (inl ne))
              (λ b past. omega (arith, holders b))
              (λ b. assumption (was-returned board a x loaned sound here b));
          free = AreFreeOnce-app board a x loaned sound here _ (assumption at_rest) holders sound.free;
          relayed = AreRelayed-kept board a x loaned sound here arr refl refl refl
              (Relayed-app board.nic x loaned.view _ _ refl refl refl refl (was-relayed board a x loaned sound here));
          returns = let clear : (b : ℕ) → IsClear x.view.setting.layout b (loans_out b loaned) (entries_on_way board.nic x) = λ b.
              IsClear-of_loans _ b (loans_out b loaned) _ (was.settled can.settled) in
              returns-app board a x loaned sound here (assumption (was, clear));
          flags = AreFlags-kept board a x loaned sound here arr refl refl refl;
          kept = AreKept-app board a x loaned sound here _ _ refl (λ b. omega arith) sound.kept;
          due = AreDue-app board a x loaned sound here (was-given board a x loaned sound here) (was-due board a x loaned sound here);
          filled = fit;
          by_one = by_one;
          shown = shown;
          notes = sound.notes;
          own_buffers = OwnBuffers-app board a x loaned sound here own;
          judged = sound.judged;
          booked = AreBooked-app board a x loaned sound here arr refl
              (record {
                loans = λ b inside. omega (
                  arith,
                  user-raised (all_buffers board.arrays.layout) board.arrays.loans a buffer m within loan-there loan_more b inside,
                  was-booked_loans board a x loaned sound here b inside,
                  more b,
                );
                filled = filled;
                raw = was-booked_raw board a x loaned sound here;
              })
              (λ k b ne app inside. user-other (all_buffers board.arrays.layout) board.arrays.loans a buffer m within k b inside (inl ne))
              (λ k y ne it. sound.booked.filled k y it)
              (λ k ne. refl);
          phased = ArePhased-app board a x loaned sound here (record {
            ended = phase.ended;
            scrubbed = λ e. absurd (not_yet e);
            left = λ e. absurd (not_yet (phase.left e).scrubbed);
          });
        }
