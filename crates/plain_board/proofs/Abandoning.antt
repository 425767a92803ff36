-- A loan is abandoned: it is out no more, and owed for good, so no count of holders or users changes.
use Rattle.std.proofs.{Common.{◌≡◌, ℕ, ◌-◌, ◌<◌, List, length, set, get_or, refl, ◌∙◌, arith, inl}, lemmas.List.{length-set}}
use Rattle.zr_kinds.specs.declared.place.Place.{Place}
use Rattle.area_layout.specs.Layout.{all_buffers}
use Rattle.board_face.specs.{Sides.{IsApp, app_at}, AppEvents.{abandoned}, AppCalls.{HasLoan}, declared.views.app.AppSide.{AppSide}}
use Rattle.board_face.proofs.{AppLemmas.{app_count-abandoned, user_part-abandoned, EndedWereReturned-abandoned}, RelayLemmas.{Relayed-app}}
use Rattle.board_face.proofs.{IsFilledByOneLemmas.{IsFilledByOne-abandoned}, OwnBufferLemmas.{AppLiesInOwn-abandoned}, FillingsFitLemmas.{FillingsFit-same}}
use Rattle.board_face.proofs.{AreShownLemmas.{AreShown-abandoned}, WrittenLemmas.{loans-fewer, returned-more, owed-more, IsClear-fewer}}
use Rattle.board_parts.specs.Counts.{user_at}
use Rattle.plain_board.specs.{Stand.{Arrays, Stand, byte_of}, Returns.{loans_out}, Sound.{IsSound}}
use Rattle.plain_board.proofs.AppFrames.{IsSet-app, was-at_rest, AreCounted-app, was-returned, AreRelayed-kept, was-relayed, returns-app, was-returns}
use Rattle.plain_board.proofs.AppFrames.{AreFlags-kept, AreFreeOnce-app, AreKept-app, AreDue-app, was-given, was-due, AreBooked-app, was-booked_loans}
use Rattle.plain_board.proofs.AppFrames.{was-booked_filled, was-booked_raw, ArePhased-app, was-phased, was-own, OwnBuffers-app}
use Rattle.plain_board.proofs.{Users.{loans-there, user-other, user-lowered}, TokensLie.{loan-some, loan-none, loan-lies}}

module _ (board : Stand) (a : ℕ) (x : AppSide) (place : Place) (sound : IsSound board) (here : IsApp board.apps a x) (out : HasLoan x.view place) where
  abbrev now : AppSide
  now = app_at x (abandoned x.view place)

  abbrev user : ℕ
  user = user_at board.arrays.layout a place.buffer

  abbrev loans_then : ℕ → List ℕ
  loans_then n = set board.arrays.loans user n

  within : place.buffer < all_buffers board.arrays.layout
  within = (loan-lies board a x sound here place out).0.buffer

  app-within : a < board.arrays.layout.reserves
  app-within = let many = sound.set.many in let there = here.there in omega arith

  pub loan-there : user < length board.arrays.loans
  loan-there = loans-there board sound a place.buffer app-within within

  -- the count of loans is above 0
  pub loan-counted : 0 < get_or board.arrays.loans user 0
  loan-counted = omega (arith, was-booked_loans board a x now sound here place.buffer within, loan-some board a x sound here place out)

  -- each count of loans is right then
  pub loans-rest : (n : ℕ) → n ≡ get_or board.arrays.loans user 0 - 1 → (b : ℕ) → b < all_buffers board.arrays.layout
      → get_or (loans_then n) (user_at board.arrays.layout a b) 0 ≡ loans_out b now
  loans-rest n less b inside =
      omega (
        arith,
        user-lowered (all_buffers board.arrays.layout) board.arrays.loans a place.buffer n within loan-there (omega (arith, less, loan-counted)) b inside,
        was-booked_loans board a x now sound here b inside,
        loans-fewer b x place out,
      )

  pub IsSound-abandoned : (n : ℕ) → n ≡ get_or board.arrays.loans user 0 - 1
      → IsSound (record { arrays = record board.arrays { loans = loans_then n }; nic = board.nic; apps = set board.apps a now })
  IsSound-abandoned n less =
      let arr : Arrays = record board.arrays { loans = loans_then n } in
      let was = was-returns board a x now sound here in
      let phase = was-phased board a x now sound here in
      let ended = was-returned board a x now sound here in
      record {
        sizes = assumption (length-set board.arrays.loans user n ∙ sound.sizes.loans, sound.sizes);
        cached = sound.cached;
        set = IsSet-app board a x now sound here refl refl (assumption (was-at_rest board a x now sound here));
        counted = AreCounted-app board a x now sound here arr refl refl
            (λ b inside. omega (arith, app_count-abandoned b board.nic x place out (ended b)))
            (λ b inside. omega (arith, user_part-abandoned a b board.nic x place out (ended b)))
            (λ k b ne app inside. refl)
            (λ b past. omega (arith, app_count-abandoned b board.nic x place out (ended b)))
            (λ b. EndedWereReturned-abandoned b board.nic x place (ended b));
        free = AreFreeOnce-app board a x now sound here _ (assumption (was-at_rest board a x now sound here))
            (λ b. app_count-abandoned b board.nic x place out (ended b)) sound.free;
        relayed = AreRelayed-kept board a x now sound here arr refl refl refl
            (Relayed-app board.nic x (abandoned x.view place) _ _ refl refl refl refl (was-relayed board a x now sound here));
        returns = returns-app board a x now sound here (record {
          written = λ b. omega (arith, was.written b, returned-more b x place);
          owed = λ b. omega (arith, was.owed b, owed-more b board.nic x place (ended b));
          no_more = λ b. omega (arith, was.written b, was.no_more b, owed-more b board.nic x place (ended b), returned-more b x place);
          clear = λ b. IsClear-fewer _ b (loans_out b x) (loans_out b now) _ (omega (arith, loans-fewer b x place out)) (was.clear b);
          named = was.named;
          settled = was.settled;
          quiet = was.quiet;
          scrubbed = was.scrubbed;
          strays = was.strays;
        });
        flags = AreFlags-kept board a x now sound here arr refl refl refl;
        kept = AreKept-app board a x now sound here _ _ refl (λ b. omega arith) sound.kept;
        due = AreDue-app board a x now sound here (was-given board a x now sound here) (was-due board a x now sound here);
        filled = FillingsFit-same board.nic board.apps a x now here refl sound.filled;
        by_one = λ b. IsFilledByOne-abandoned b board.nic board.apps a x place here out (ended b) (sound.by_one b);
        shown = AreShown-abandoned (byte_of board.arrays) board.nic board.apps a x place here out ended sound.shown;
        notes = sound.notes;
        own_buffers = OwnBuffers-app board a x now sound here (AppLiesInOwn-abandoned x.view place out (was-own board a x now sound here));
        judged = sound.judged;
        booked = AreBooked-app board a x now sound here arr refl
            (record { loans = loans-rest n less; filled = was-booked_filled board a x now sound here; raw = was-booked_raw board a x now sound here })
            (λ k b ne app inside. user-other (all_buffers board.arrays.layout) board.arrays.loans a place.buffer n within k b inside (inl ne))
            (λ k y ne it. sound.booked.filled k y it)
            (λ k ne. refl);
        phased = ArePhased-app board a x now sound here (record {
          ended = phase.ended;
          scrubbed = λ e. absurd (loan-none board a x sound here place out (phase.scrubbed e).0);
          left = λ e. absurd (loan-none board a x sound here place out (phase.left e).loans);
        });
      }
