-- An application learns something, and moves nothing.
use Rattle.std.{proofs.Common.{◌≡◌, ℕ, Bool, true, List, [], ◌∷◌, set, refl, arith}, specs.Prelude.{All}}
use Rattle.board_face.specs.{Sides.{IsApp, app_at}, Holders.{on_way}, AppEvents.{app_saw}, declared.views.app.{AppLook.{AppLook}, AppView.{AppView}, AppSide.{AppSide}}}
use Rattle.board_face.proofs.{AppLemmas.{SameHoldings, app_count-same, user_part-same}, RelayLemmas.{Relayed-app}, IsFilledByOneLemmas.{IsFilledByOne-same}}
use Rattle.board_face.proofs.{FillingsFitLemmas.{FillingsFit-same}, AreShownLemmas.{AreShown-same}}
use Rattle.plain_board.specs.{Stand.{Stand, byte_of}, Returns.{entries_on_way, IsOfLoan}, Sound.{IsSound}}
use Rattle.plain_board.proofs.AppFrames.{IsSet-app, was-at_rest, AreCounted-app, was-returned, AreRelayed-kept, was-relayed, returns-app, was-returns}
use Rattle.plain_board.proofs.AppFrames.{AreFlags-kept, AreFreeOnce-app, AreKept-app, AreDue-app, was-given, was-due, AreBooked-kept}
use Rattle.plain_board.proofs.AppFrames.{ArePhased-app, was-phased, OwnBuffers-kept}

-- no more changed than what it knows of its slots and of the card's end, and what it saw
abbrev pub told_of : AppView → Bool → Bool → Bool → List AppLook → AppView
told_of v settled quiet ended looks = record v { settled = settled; quiet = quiet; ended = ended; looks = looks }

module _ (board : Stand) (a : ℕ) (x : AppSide) (sound : IsSound board) (here : IsApp board.apps a x) (settled quiet ended : Bool) (looks : List AppLook) where
  abbrev pub learnt : AppSide
  learnt = app_at x (told_of x.view settled quiet ended looks)

  same : SameHoldings x.view (told_of x.view settled quiet ended looks)
  same = assumption

  pub IsSound-told : (settled ≡ true → All IsOfLoan (entries_on_way board.nic x)) → (quiet ≡ true → entries_on_way board.nic x ≡ [])
      → (ended ≡ true → (board.nic.view.ended ≡ true) × (on_way board.nic x ≡ []))
      → (x.view.ended ≡ true → ended ≡ true)
      → IsSound (record { arrays = board.arrays; nic = board.nic; apps = set board.apps a learnt })
  IsSound-told rests falls_quiet ends stays =
      let was = was-returns board a x learnt sound here in
      let phase = was-phased board a x learnt sound here in
      record {
        sizes = sound.sizes;
        cached = sound.cached;
        set = IsSet-app board a x learnt sound here refl refl (assumption (was-at_rest board a x learnt sound here));
        counted = AreCounted-app board a x learnt sound here board.arrays refl refl
            (λ b within. omega (arith, app_count-same b board.nic x (told_of x.view settled quiet ended looks) same))
            (λ b within. omega (arith, user_part-same a b board.nic x (told_of x.view settled quiet ended looks) same))
            (λ k b ne app within. refl)
            (λ b past. omega (arith, app_count-same b board.nic x (told_of x.view settled quiet ended looks) same))
            (λ b. assumption (was-returned board a x learnt sound here b));
        free = AreFreeOnce-app board a x learnt sound here _ (assumption (was-at_rest board a x learnt sound here))
            (λ b. app_count-same b board.nic x (told_of x.view settled quiet ended looks) same) sound.free;
        relayed = AreRelayed-kept board a x learnt sound here board.arrays refl refl refl
            (Relayed-app board.nic x (told_of x.view settled quiet ended looks) _ _ refl refl refl refl (was-relayed board a x learnt sound here));
        returns = returns-app board a x learnt sound here (assumption (was, rests, falls_quiet));
        flags = AreFlags-kept board a x learnt sound here board.arrays refl refl refl;
        kept = AreKept-app board a x learnt sound here _ _ refl (λ b. omega arith) sound.kept;
        due = AreDue-app board a x learnt sound here (was-given board a x learnt sound here) (was-due board a x learnt sound here);
        filled = FillingsFit-same board.nic board.apps a x learnt here refl sound.filled;
        by_one = λ b. IsFilledByOne-same b board.nic board.apps a x (told_of x.view settled quiet ended looks) here same (sound.by_one b);
        shown = AreShown-same (byte_of board.arrays) board.nic board.apps a x (told_of x.view settled quiet ended looks) here same sound.shown;
        notes = sound.notes;
        own_buffers = OwnBuffers-kept board a x learnt sound here refl refl refl refl refl refl;
        judged = sound.judged;
        booked = AreBooked-kept board a x learnt sound here board.arrays refl refl refl refl refl refl refl;
        phased = ArePhased-app board a x learnt sound here (record {
          ended = ends;
          scrubbed = phase.scrubbed;
          left = λ e. assumption (phase.left e, stays (phase.left e).ended);
        });
      }
  -- and it stays soundly what it was, where it learnt nothing of its slots and of the end

pub IsSound-looked : (board : Stand) (a : ℕ) (x : AppSide) (look : AppLook) → IsSound board → IsApp board.apps a x
    → IsSound (record { arrays = board.arrays; nic = board.nic; apps = set board.apps a (app_at x (app_saw x.view look)) })
IsSound-looked board a x look sound here =
    let was = sound.returns a x here in
    IsSound-told board a x sound here x.view.settled x.view.quiet x.view.ended (look ∷ x.view.looks) was.settled was.quiet
    (was-phased board a x x sound here).ended (λ e. e)
