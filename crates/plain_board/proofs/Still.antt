-- Events of the card that move no buffer, no note and no entry.
use Rattle.std.{proofs.Common.{◌≡◌, ℕ, Bool, true, false, List, [], ◌∷◌, ◌++◌, refl, ap, sym, ◌∙◌, subst, arith}, specs.Prelude.{◌==◌, if◌then◌else◌}}
use Rattle.board_face.specs.{NicEvents.{nic_ended, saw_leave, nic_saw}, declared.views.nic.NicLook.{NicLook, TheVariants.{NotLeft, HasLeft}}, Sides.{nic_at}}
use Rattle.board_face.specs.{Counts.{pool_count}, NicCalls.{HasNoToken}, declared.views.{nic.{NicView.{NicView}, NicSide.{NicSide}}, app.AppSide.{AppSide}}}
use Rattle.board_face.proofs.{NicLemmas.{pool_count-nic}, FreeLemmas.{free_places-nic}, Parts.{nic_count}, FillingsFitLemmas.{FillingsFit-nic}}
use Rattle.board_face.proofs.{IsFilledByOneLemmas.{IsFilledByOne-nic}, OwnBufferLemmas.{LieInOwn-nic}, AreShownLemmas.{AreShown-nic}}
use Rattle.board_parts.specs.Free.{listed_in}
use Rattle.plain_board.specs.{Stand.{Stand, byte_of}, Sound.{IsSound}}
use Rattle.plain_board.proofs.Card.{IsSet-nic, AreCounted-same, AreRelayed-nic, AreReturns-nic, AreBooked-nic, ArePhased-nic}

-- no more changed than what was seen, and whether the card ended
pub record IsStill (old new : NicView) : Type 0 where
  pub setting : new.setting ≡ old.setting
  pub cache : new.cache ≡ old.cache
  pub swept : new.swept ≡ old.swept
  pub used : new.used ≡ old.used
  pub owns : new.owns ≡ old.owns
  pub pieces : new.pieces ≡ old.pieces
  pub sent : new.sent ≡ old.sent
  pub dealt : new.dealt ≡ old.dealt

pub pool_count-still : (b : ℕ) (nic : NicSide) (v : NicView) (apps : List AppSide) → IsStill nic.view v
    → pool_count b (nic_at nic v) apps ≡ pool_count b nic apps
pool_count-still b nic v apps still =
    let same : nic_count b (nic_at nic v) ≡ nic_count b nic = rw (still.owns, still.pieces) refl in
    omega (arith, pool_count-nic b nic v apps still.sent still.dealt)

pub IsSound-still : (board : Stand) (v : NicView) → IsSound board → IsStill board.nic.view v → (board.nic.view.ended ≡ true → v.ended ≡ true)
    → (v.ended ≡ true → HasNoToken v) → IsSound (record {
      arrays = record board.arrays { ended = v.ended };
      nic = nic_at board.nic v;
      apps = board.apps;
    })
IsSound-still board v sound still ends none = record {
  sizes = assumption sound.sizes;
  cached = sound.cached ∙ sym still.cache;
  set = IsSet-nic _ board.nic v board.apps still.setting sound.set;
  counted = AreCounted-same board.arrays _ board.nic v board.apps still.dealt refl refl refl
      (λ b. pool_count-still b board.nic v board.apps still) sound.counted;
  free = record {
    pool = λ b within. free_places-nic (listed_in board.arrays.listed) b board.nic v board.apps still.cache
        ∙ (sound.free.pool b (rw (← still.setting) within) ∙ ap (λ p. if p == 0 then 1 else 0) (sym (pool_count-still b board.nic v board.apps still)));
    reserves = λ b past. free_places-nic (listed_in board.arrays.listed) b board.nic v board.apps still.cache
        ∙ sound.free.reserves b (rw (← still.setting) past);
  };
  relayed = AreRelayed-nic board.arrays _ board.nic v board.apps still.sent still.dealt refl refl refl sound.relayed;
  returns = λ a app here. AreReturns-nic board.nic v app still.dealt (sound.returns a app here);
  flags = assumption;
  kept = record {
    kept = λ b within. rw (still.cache, still.used) (sound.kept.kept b (rw (← still.setting) within));
    swept = λ b within gone. rw (still.cache, still.used) (sound.kept.swept b (rw (← still.setting) within) (rw (← still.swept) gone));
  };
  due = sound.due;
  filled = FillingsFit-nic board.nic v board.apps still.setting still.owns sound.filled;
  by_one = λ b. IsFilledByOne-nic b board.nic v board.apps still.setting still.owns still.pieces still.sent still.dealt (sound.by_one b);
  shown = AreShown-nic (byte_of board.arrays) board.nic v board.apps still.setting still.owns still.pieces still.sent still.dealt sound.shown;
  notes = rw still.sent sound.notes;
  own_buffers = LieInOwn-nic board.nic v board.apps still.setting still.pieces still.sent sound.own_buffers;
  judged = rw (still.setting, still.dealt) sound.judged;
  booked = AreBooked-nic board.arrays _ board.nic v board.apps still.dealt refl refl refl refl sound.booked;
  phased = ArePhased-nic board.nic v board.apps still.sent still.dealt ends none sound.phased;
}

-- the same where the card didn't end
pub IsSound-seen : (board : Stand) (v : NicView) → IsSound board → IsStill board.nic.view v → v.ended ≡ board.nic.view.ended
    → IsSound (record { arrays = board.arrays; nic = nic_at board.nic v; apps = board.apps })
IsSound-seen board v sound still same =
    let now : v.ended ≡ board.arrays.ended = same ∙ sym sound.flags.ended in
    let none : v.ended ≡ true → HasNoToken v = λ e. let h = sound.phased.card
    (sym same ∙ e) in record { owns = still.owns ∙ h.owns; pieces = still.pieces ∙ h.pieces } in
    subst (λ ended. IsSound (record { arrays = record board.arrays { ended = ended }; nic = nic_at board.nic v; apps = board.apps })) now
    (IsSound-still board v sound still (λ e. same ∙ e) none)

-- ---- the events

pub still : (v : NicView) (ended : Bool) (gone : List ℕ) (looks : List NicLook) → IsStill v (record v { ended = ended; gone = gone; looks = looks })
still v ended gone looks = assumption

pub IsSound-ended : (board : Stand) → IsSound board → HasNoToken board.nic.view
    → IsSound (record { arrays = record board.arrays { ended = true }; nic = nic_at board.nic (nic_ended board.nic.view); apps = board.apps })
IsSound-ended board sound none = IsSound-still board (nic_ended board.nic.view) sound (still board.nic.view true board.nic.view.gone board.nic.view.looks)
    (λ e. refl) (λ e. assumption none)

pub IsSound-saw : (board : Stand) (look : NicLook) → IsSound board
    → IsSound (record { arrays = board.arrays; nic = nic_at board.nic (nic_saw board.nic.view look); apps = board.apps })
IsSound-saw board look sound = IsSound-seen board (nic_saw board.nic.view look) sound
    (still board.nic.view board.nic.view.ended board.nic.view.gone (look ∷ board.nic.view.looks)) refl

pub IsSound-asked : (board : Stand) (a : ℕ) (gone : Bool) → IsSound board
    → IsSound (record {
      arrays = board.arrays;
      nic = if gone then nic_at board.nic (saw_leave board.nic.view a) else nic_at board.nic
          (nic_saw board.nic.view (NotLeft a));
      apps = board.apps;
    })
IsSound-asked board a true sound = IsSound-seen board (saw_leave board.nic.view a) sound
    (still board.nic.view board.nic.view.ended (board.nic.view.gone ++ a ∷ []) (HasLeft a ∷ board.nic.view.looks)) refl
IsSound-asked board a false sound = IsSound-saw board (NotLeft a) sound
