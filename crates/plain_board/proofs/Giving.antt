-- A loan is given back by an entry behind all on their way: it is out no more, and owed until the card deals with the entry.
use Rattle.std.{proofs.Common.{◌≡◌, ℕ, ◌-◌, ◌<◌, true, List, [], ◌∷◌, ◌++◌, length, map, set, get_or, refl, ap, sym, ◌∙◌, subst, arith, inl}, specs.Prelude.{All, Some}}
use Rattle.std.proofs.lemmas.List.{length-set, get_or-set_same, get_or-set_other, Elements.{All-set}}
use Rattle.circular_buffer.specs.Buffer.{Buffer, buffer}
use Rattle.zr_kinds.specs.declared.{place.Place.{Place}, ring.Rqe.{Rqe}}
use Rattle.area_layout.{specs.Layout.{all_buffers, judged, LiesIn}, proofs.Words.{place_judged}}
use Rattle.board_face.specs.{Sides.{IsApp, app_at}, AppEvents.{gave, entry_of}, AppCalls.{HasLoan}, Relay.{Relayed}, declared.views.app.WrittenEntry.{WrittenEntry}}
use Rattle.board_face.{specs.declared.views.app.AppSide.{AppSide}, proofs.AppLemmas.{app_count-gave, user_part-gave, EndedWereReturned-abandoned}}
use Rattle.board_face.proofs.{RelayLemmas.{Relayed-wrote}, IsFilledByOneLemmas.{IsFilledByOne-gave}, OwnBufferLemmas.{AppLiesInOwn-abandoned}}
use Rattle.board_face.proofs.{FillingsFitLemmas.{FillingsFit-same}, AreShownLemmas.{AreShown-gave}, WrittenLemmas.{AreReturns-gave}}
use Rattle.board_parts.specs.{Rings.{ring_in, pushed}, Counts.{user_at}}
use Rattle.plain_board.{specs.{Stand.{Arrays, Stand, byte_of}, Returns.{AreReturns, entries_on_way, reach_of}}, proofs.RingSlots.{IsRing-at, IsRing-pushed}}
use Rattle.plain_board.specs.Sound.{IsRing, IsSound, notes_of, refills_of, taken_of}
use Rattle.plain_board.proofs.AppFrames.{IsSet-app, was-at_rest, has-setting, AreCounted-app, was-returned, AreRelayed-app, was-relayed, returns-app}
use Rattle.plain_board.proofs.AppFrames.{was-returns, AreFlags-kept, AreFreeOnce-app, AreKept-app, AreDue-app, was-given, was-due, AreBooked-app}
use Rattle.plain_board.proofs.{AppFrames.{was-booked_filled, was-booked_raw, ArePhased-app, was-phased, was-own, OwnBuffers-app}, Users.{user-other}}
use Rattle.plain_board.proofs.{TokensLie.{loan-none, loan-lies}, Abandoning.{loans-rest}, Writing.{way-longer, reach-longer, dealt-within}}

module _ (board : Stand) (a : ℕ) (x : AppSide) (place : Place) (sound : IsSound board) (here : IsApp board.apps a x) (out : HasLoan x.view place) where
  abbrev now : AppSide
  now = app_at x (gave x.view place)

  abbrev user : ℕ
  user = user_at board.arrays.layout a place.buffer

  abbrev entry : Rqe
  entry = entry_of x.view.setting.layout place

  abbrev written : WrittenEntry
  written = record { entry = entry; of_loan = true }

  abbrev refills_then : Rqe → List (Buffer Rqe)
  refills_then e = set board.arrays.refills a (pushed (ring_in board.arrays.refills a) e)

  abbrev arrays_then : Rqe → ℕ → Arrays
  arrays_then e n = record board.arrays { loans = set board.arrays.loans user n; refills = refills_then e }

  layout-is : x.view.setting.layout ≡ board.arrays.layout
  layout-is = ap (λ s. s.layout) (has-setting board a x now sound here)

  -- the entry by the board's own layout
  pub same-entry : entry_of board.arrays.layout place ≡ entry
  same-entry = ap (λ l. entry_of l place) (sym layout-is)

  pub lies : LiesIn board.arrays.layout place
  lies = (loan-lies board a x sound here place out).0

  names-own : judged x.view.setting.layout entry ≡ Some place.buffer
  names-own =
      let some = (loan-lies board a x sound here place out).1 in
      let inside = lies.bytes in
      rw layout-is (place_judged board.arrays.layout place place.len sound.sizes.layout lies (omega arith))

  there : a < length board.arrays.refills
  there = let many = sound.set.many in let t = here.there in omega (arith, sound.sizes.refills)

  -- the ring has the entry behind the others
  ring-then : (e : Rqe) (n : ℕ) → refills_of (arrays_then e n) a ≡ refills_of board.arrays a ++ e ∷ []
  ring-then e n = ap (λ r. r.items) (get_or-set_same board.arrays.refills a (pushed (ring_in board.arrays.refills a) e) (buffer [] 0) there)

  rooms-then : (e : Rqe) → length (ring_in board.arrays.refills a).items < (ring_in board.arrays.refills a).capacity
      → All (IsRing board.arrays.places) (refills_then e)
  rooms-then e room =
      All-set (IsRing board.arrays.places) board.arrays.refills a (pushed (ring_in board.arrays.refills a) e)
      (IsRing-pushed board.arrays.places (ring_in board.arrays.refills a) e room
      (IsRing-at board.arrays.places board.arrays.refills a there sound.relayed.refills)) sound.relayed.refills

  way-then : entries_on_way board.nic now ≡ entries_on_way board.nic x ++ written ∷ []
  way-then = way-longer board.nic x _ _ written (was-relayed board a x now sound here)

  within : place.buffer < all_buffers board.arrays.layout
  within = lies.buffer

  returns-then : AreReturns board.nic now
  returns-then =
      let phase = was-phased board a x now sound here in
      AreReturns-gave board.nic x (dealt-within board.nic x _ _ (was-relayed board a x now sound here)) place out names-own
      (was-returned board a x now sound here) (λ e. (phase.scrubbed e).0) (was-returns board a x now sound here)

  pub IsSound-gave : (e : Rqe) (n : ℕ) → e ≡ entry → n ≡ get_or board.arrays.loans user 0 - 1
      → length (ring_in board.arrays.refills a).items < (ring_in board.arrays.refills a).capacity
      → IsSound (record { arrays = arrays_then e n; nic = board.nic; apps = set board.apps a now })
  IsSound-gave e n same less room =
      let arr = arrays_then e n in
      let phase = was-phased board a x now sound here in
      let ended = was-returned board a x now sound here in
      let at_rest = was-at_rest board a x now sound here in
      record {
        sizes = assumption (
          length-set board.arrays.refills a (pushed (ring_in board.arrays.refills a) e) ∙ sound.sizes.refills,
          length-set board.arrays.loans user n ∙ sound.sizes.loans,
          sound.sizes,
        );
        cached = sound.cached;
        set = IsSet-app board a x now sound here refl refl (assumption at_rest);
        counted = AreCounted-app board a x now sound here arr refl refl
            (λ b inside. omega (arith, app_count-gave b board.nic x place out (ended b)))
            (λ b inside. omega (arith, user_part-gave a b board.nic x place out (ended b)))
            (λ k b ne app inside. refl)
            (λ b past. omega (arith, app_count-gave b board.nic x place out (ended b)))
            (λ b. assumption (EndedWereReturned-abandoned b board.nic x place (ended b)));
        free = AreFreeOnce-app board a x now sound here _ (assumption at_rest)
            (λ b. app_count-gave b board.nic x place out (ended b)) sound.free;
        relayed = AreRelayed-app board a x now sound here arr refl
            (subst (Relayed board.nic now (map taken_of (notes_of board.arrays a)))
            (sym (ring-then e n ∙ ap (λ r. refills_of board.arrays a ++ r ∷ []) same))
            (Relayed-wrote board.nic x now.view written _ _ refl refl refl refl (was-relayed board a x now sound here)))
            (λ k ne. refl)
            (λ k ne. ap (λ r. r.items) (get_or-set_other board.arrays.refills a k (pushed (ring_in board.arrays.refills a) e) (buffer [] 0) ne))
            sound.relayed.notes
            (rooms-then e room);
        returns = returns-app board a x now sound here returns-then;
        flags = AreFlags-kept board a x now sound here arr refl refl refl;
        kept = AreKept-app board a x now sound here _ _ refl (λ b. omega arith) sound.kept;
        due = AreDue-app board a x now sound here (was-given board a x now sound here) (was-due board a x now sound here);
        filled = FillingsFit-same board.nic board.apps a x now here refl sound.filled;
        by_one = λ b. IsFilledByOne-gave b board.nic board.apps a x place here out (ended b) (sound.by_one b);
        shown = AreShown-gave (byte_of board.arrays) board.nic board.apps a x place here out ended sound.shown;
        notes = sound.notes;
        own_buffers = OwnBuffers-app board a x now sound here
            (assumption (AppLiesInOwn-abandoned x.view place out (was-own board a x now sound here)));
        judged = sound.judged;
        booked = AreBooked-app board a x now sound here arr refl
            (record {
              loans = loans-rest board a x place sound here out n less;
              filled = was-booked_filled board a x now sound here;
              raw = was-booked_raw board a x now sound here ∙ sym (ap reach_of way-then ∙ reach-longer (entries_on_way board.nic x) written refl);
            })
            (λ k b ne app inside. user-other (all_buffers board.arrays.layout) board.arrays.loans a place.buffer n within k b inside (inl ne))
            (λ k y ne it. sound.booked.filled k y it)
            (λ k ne. refl);
        phased = ArePhased-app board a x now sound here (record {
          ended = phase.ended;
          scrubbed = λ e. absurd (loan-none board a x sound here place out (phase.scrubbed e).0);
          left = λ e. absurd (loan-none board a x sound here place out (phase.left e).loans);
        });
      }
