-- An application leaves, of which no token is out.
use Rattle.std.proofs.{Common.{ℕ, true, set, refl, ◌∙◌, arith}, lemmas.List.{length-set}}
use Rattle.board_face.specs.{Sides.{IsApp, app_at}, AppCalls.{CanLeave}, AppEvents.{left_board}, declared.views.app.AppSide.{AppSide}}
use Rattle.board_face.proofs.{AppLemmas.{SameHoldings, app_count-same, user_part-same}, RelayLemmas.{Relayed-app}, IsFilledByOneLemmas.{IsFilledByOne-same}}
use Rattle.board_face.proofs.{FillingsFitLemmas.{FillingsFit-same}, AreShownLemmas.{AreShown-same}}
use Rattle.plain_board.specs.{Stand.{Stand, byte_of}, Sound.{IsSound}}
use Rattle.plain_board.proofs.AppFrames.{IsSet-app, was-at_rest, AreCounted-app, was-returned, AreRelayed-kept, was-relayed, returns-app, was-returns}
use Rattle.plain_board.proofs.AppFrames.{AreFlags-app, AreFreeOnce-app, AreKept-app, AreDue-app, was-given, was-due, AreBooked-kept}
use Rattle.plain_board.proofs.AppFrames.{ArePhased-app, was-phased, OwnBuffers-kept}

module _ (board : Stand) (a : ℕ) (x : AppSide) (sound : IsSound board) (here : IsApp board.apps a x) where
  abbrev pub gone : AppSide
  gone = app_at x (left_board x.view)

  same : SameHoldings x.view (left_board x.view)
  same = assumption

  pub IsSound-left : CanLeave x.view → IsSound (record {
    arrays = record board.arrays { left = set board.arrays.left a true };
    nic = board.nic;
    apps = set board.apps a gone;
  })
  IsSound-left can =
      let v = left_board x.view in
      let rest = was-at_rest board a x gone sound here in
      let phase = was-phased board a x gone sound here in
      let was = was-returns board a x gone sound here in
      record {
        sizes = assumption (length-set board.arrays.left a true ∙ sound.sizes.left, sound.sizes);
        cached = sound.cached;
        set = IsSet-app board a x gone sound here refl refl (assumption rest);
        counted = AreCounted-app board a x gone sound here _ refl refl
            (λ b within. omega (arith, app_count-same b board.nic x v same))
            (λ b within. omega (arith, user_part-same a b board.nic x v same))
            (λ k b ne app within. refl)
            (λ b past. omega (arith, app_count-same b board.nic x v same))
            (λ b. assumption (was-returned board a x gone sound here b));
        free = AreFreeOnce-app board a x gone sound here _ (assumption rest)
            (λ b. app_count-same b board.nic x v same) sound.free;
        relayed = AreRelayed-kept board a x gone sound here _ refl refl refl
            (Relayed-app board.nic x v _ _ refl refl refl refl (was-relayed board a x gone sound here));
        returns = returns-app board a x gone sound here (assumption was);
        flags = AreFlags-app board a x gone sound here _ refl refl;
        kept = AreKept-app board a x gone sound here _ _ refl (λ b. omega arith) sound.kept;
        due = AreDue-app board a x gone sound here (was-given board a x gone sound here) (was-due board a x gone sound here);
        filled = FillingsFit-same board.nic board.apps a x gone here refl sound.filled;
        by_one = λ b. IsFilledByOne-same b board.nic board.apps a x v here same (sound.by_one b);
        shown = AreShown-same (byte_of board.arrays) board.nic board.apps a x v here same sound.shown;
        notes = sound.notes;
        own_buffers = OwnBuffers-kept board a x gone sound here refl refl refl refl refl refl;
        judged = sound.judged;
        booked = AreBooked-kept board a x gone sound here _ refl refl refl refl refl refl refl;
        phased = ArePhased-app board a x gone sound here (record {
          ended = phase.ended;
          scrubbed = phase.scrubbed;
          left = λ e. assumption can;
        });
      }
