-- A raw entry is the last on its way: it came from no loan, and names no buffer in which one is out.
use Rattle.std.proofs.Common.{◌≡◌, ℕ, suc, ◌+◌, ◌<◌, ◌≤◌, Bool, false, List, [], ◌∷◌, ◌++◌, length, set, get_or, refl, ap, ◌∙◌, arith, length-append, length-drop}
use Rattle.std.{specs.Prelude.{◌≢◌}, proofs.lemmas.{List.{length-set, length-map, get_or-set_same, get_or-set_other, Elements.{All-set}}, Bool.{lt-ltb}}}
use Rattle.circular_buffer.specs.Buffer.{Buffer, buffer}
use Rattle.zr_kinds.specs.declared.ring.Rqe.{Rqe}
use Rattle.board_face.specs.{Sides.{IsApp, app_at}, AppCalls.{NamesNoLoan}, AppEvents.{app_gist, app_saw, pushed_raw}, Looks.{AppTold}, Relay.{Relayed, dealt_entries}}
use Rattle.board_face.specs.declared.views.{nic.NicSide.{NicSide}, app.{AppLook.TheVariants.{RefillInUse}, TakenNote.{TakenNote}, WrittenEntry.{WrittenEntry}}}
use Rattle.board_face.{specs.declared.views.app.AppSide.{AppSide}, proofs.{LookLemmas.{AppTold-one}, AppLemmas.{SameHoldings, app_count-same, user_part-same}}}
use Rattle.board_face.proofs.{RelayLemmas.{Relayed-wrote}, IsFilledByOneLemmas.{IsFilledByOne-same}, FillingsFitLemmas.{FillingsFit-same}}
use Rattle.board_face.proofs.{AreShownLemmas.{AreShown-same}, WrittenLemmas.{way-written, AreReturns-pushed}}
use Rattle.board_parts.specs.Rings.{ring_in, pushed}
use Rattle.plain_board.{specs.{Stand.{Stand, byte_of, others_of}, Returns.{AreReturns, entries_on_way, reach_of}, Seen.{IsSeenBy}}, proofs.RingSlots.{IsRing-pushed}}
use Rattle.plain_board.specs.Sound.{IsRing, IsSound, refills_of}
use Rattle.plain_board.proofs.AppFrames.{has-setting, IsSet-app, was-at_rest, AreCounted-app, was-returned, AreRelayed-app, was-relayed, returns-app}
use Rattle.plain_board.proofs.AppFrames.{was-returns, AreFlags-kept, AreFreeOnce-app, AreKept-app, AreDue-app, was-given, was-due, AreBooked-app}
use Rattle.plain_board.proofs.{AppFrames.{was-booked_loans, was-booked_filled, ArePhased-app, was-phased, OwnBuffers-kept}, Settling.{reach_with}}

reach-front : (of_loan : Bool) (r : ℕ) → 0 < r → reach_with of_loan r ≡ suc r
reach-front of_loan r some = rw (lt-ltb 0 r some) refl

-- no entry stands behind a raw one at the end
reach-push : (ws : List WrittenEntry) (w : WrittenEntry) → w.of_loan ≡ false → reach_of (ws ++ w ∷ []) ≡ suc (length ws)
reach-push [] w raw = rw raw refl
reach-push (v ∷ ws) w raw =
    let rest = reach-push ws w raw in
    reach-front v.of_loan (reach_of (ws ++ w ∷ [])) (omega (arith, rest)) ∙ ap suc rest

-- ---- what is on its way

-- the card has dealt with no more entries than were written
pub dealt-within : (nic : NicSide) (app : AppSide) (ns : List TakenNote) (es : List Rqe) → Relayed nic app ns es
    → length (dealt_entries app.view.app nic) + length es ≡ length app.view.written
dealt-within nic app ns es relayed = omega (
  arith,
  length-append (dealt_entries app.view.app nic) es,
  ap length relayed.entries,
  length-map app.view.written (λ w. w.entry),
)

module _ (board : Stand) (a : ℕ) (x : AppSide) (entry : Rqe) (sound : IsSound board) (here : IsApp board.apps a x) where
  abbrev one : WrittenEntry
  one = record { entry = entry; of_loan = false }

  abbrev pub raw_then : AppSide
  raw_then = app_at x (pushed_raw x.view entry)

  abbrev pub ring_then : Buffer Rqe
  ring_then = pushed (ring_in board.arrays.refills a) entry

  way-then : entries_on_way board.nic raw_then ≡ entries_on_way board.nic x ++ one ∷ []
  way-then = way-written board.nic x (omega (arith, dealt-within board.nic x _ _ (was-relayed board a x x sound here))) one

  same : SameHoldings x.view (pushed_raw x.view entry)
  same = assumption

  ring_there : a < length board.arrays.refills
  ring_there = let h = here.there in let many = sound.set.many in let size = sound.sizes.refills in omega arith

  refills-mine : (get_or (set board.arrays.refills a ring_then) a (buffer [] 0)).items ≡ refills_of board.arrays a ++ entry ∷ []
  refills-mine = ap (λ (r : Buffer Rqe). r.items) (get_or-set_same board.arrays.refills a ring_then (buffer [] 0) ring_there)

  -- how many lie in the ring then
  pub ring-length : (rings : List (Buffer Rqe)) (r : Buffer Rqe) (n : ℕ) → rings ≡ set board.arrays.refills a ring_then → r ≡ get_or rings a r
      → n ≡ length r.items → n ≡ length ring_then.items
  ring-length rings r n are read many =
      let is : r ≡ ring_then = read ∙ (ap (λ (rs : List (Buffer Rqe)). get_or rs a r) are
      ∙ get_or-set_same board.arrays.refills a ring_then r ring_there) in
      many ∙ ap (λ (r : Buffer Rqe). length r.items) is

  pub ring-few : length (ring_in board.arrays.refills a).items < (ring_in board.arrays.refills a).capacity → length ring_then.items ≤ 256
  ring-few room =
      let ring = sound.relayed.refills a (buffer [] 0) ring_there in
      let places = sound.sizes.places.1 in
      simp length-append (omega (arith, room, ring.slots, places))

  refills-others : (k : ℕ) → k ≢ a → (get_or (set board.arrays.refills a ring_then) k (buffer [] 0)).items ≡ refills_of board.arrays k
  refills-others k ne = ap (λ (r : Buffer Rqe). r.items) (get_or-set_other board.arrays.refills a k ring_then (buffer [] 0) ne)

  AreReturns-raw : NamesNoLoan x.view entry → x.view.scrubbed ≡ false → AreReturns board.nic raw_then
  AreReturns-raw idle counted =
      AreReturns-pushed board.nic x (omega (arith, dealt-within board.nic x _ _ (was-relayed board a x x sound here))) entry idle counted
      (was-returns board a x x sound here)

  reach-then : (n : ℕ) → n ≡ length ring_then.items → n ≡ reach_of (entries_on_way board.nic raw_then)
  reach-then n many =
      rw way-then (
      omega (
        arith,
        many,
        length-append (refills_of board.arrays a) (entry ∷ []),
        reach-push (entries_on_way board.nic x) one refl,
        length-drop (length (dealt_entries x.view.app board.nic)) x.view.written,
        dealt-within board.nic x _ _ (was-relayed board a x x sound here),
      )
      )

  pub IsSound-pushed : NamesNoLoan x.view entry → x.view.scrubbed ≡ false
      → length (ring_in board.arrays.refills a).items < (ring_in board.arrays.refills a).capacity → (n : ℕ) → n ≡ length ring_then.items
      → IsSound (record {
        arrays = record board.arrays { refills = set board.arrays.refills a ring_then; raw = set board.arrays.raw a n };
        nic = board.nic;
        apps = set board.apps a raw_then;
      })
  IsSound-pushed idle counted room n many =
      let v = pushed_raw x.view entry in
      let rest = was-at_rest board a x raw_then sound here in
      let phase = was-phased board a x raw_then sound here in
      let raw_there : a < length board.arrays.raw = let h = here.there in let many = sound.set.many in let size = sound.sizes.raw in omega arith in
      record {
        sizes = assumption (
          length-set board.arrays.refills a ring_then ∙ sound.sizes.refills,
          length-set board.arrays.raw a n ∙ sound.sizes.raw,
          sound.sizes,
        );
        cached = sound.cached;
        set = IsSet-app board a x raw_then sound here refl refl (assumption rest);
        counted = AreCounted-app board a x raw_then sound here _ refl refl
            (λ b within. omega (arith, app_count-same b board.nic x v same))
            (λ b within. omega (arith, user_part-same a b board.nic x v same))
            (λ k b ne app within. refl)
            (λ b past. omega (arith, app_count-same b board.nic x v same))
            (λ b. assumption (was-returned board a x raw_then sound here b));
        free = AreFreeOnce-app board a x raw_then sound here _ (assumption rest)
            (λ b. app_count-same b board.nic x v same) sound.free;
        relayed = AreRelayed-app board a x raw_then sound here _ refl
            (rw refills-mine (Relayed-wrote board.nic x v one _ _ refl refl refl refl (was-relayed board a x raw_then sound here)))
            (λ k ne. refl) refills-others sound.relayed.notes
            (All-set (IsRing board.arrays.places) board.arrays.refills a ring_then
            (IsRing-pushed board.arrays.places (ring_in board.arrays.refills a) entry room
            (sound.relayed.refills a (buffer [] 0) ring_there)) sound.relayed.refills);
        returns = returns-app board a x raw_then sound here (AreReturns-raw idle counted);
        flags = AreFlags-kept board a x raw_then sound here _ refl refl refl;
        kept = AreKept-app board a x raw_then sound here _ _ refl (λ b. omega arith) sound.kept;
        due = AreDue-app board a x raw_then sound here (was-given board a x raw_then sound here) (was-due board a x raw_then sound here);
        filled = FillingsFit-same board.nic board.apps a x raw_then here refl sound.filled;
        by_one = λ b. IsFilledByOne-same b board.nic board.apps a x v here same (sound.by_one b);
        shown = AreShown-same (byte_of board.arrays) board.nic board.apps a x v here same sound.shown;
        notes = sound.notes;
        own_buffers = OwnBuffers-kept board a x raw_then sound here refl refl refl refl refl refl;
        judged = sound.judged;
        booked = AreBooked-app board a x raw_then sound here _ refl
            (record {
              loans = was-booked_loans board a x raw_then sound here;
              filled = was-booked_filled board a x raw_then sound here;
              raw = get_or-set_same board.arrays.raw a n 0 raw_there ∙ reach-then n many;
            })
            (λ k b ne app within. refl)
            (λ k y ne it. sound.booked.filled k y it)
            (λ k ne. get_or-set_other board.arrays.raw a k n 0 ne);
        phased = ArePhased-app board a x raw_then sound here (record {
          ended = phase.ended;
          scrubbed = phase.scrubbed;
          left = λ e. assumption (phase.left e);
        });
      }

  -- ---- a full ring

  -- as many entries are on their way as lie in the ring
  full : (ring_in board.arrays.refills a).capacity ≤ length (refills_of board.arrays a) → x.view.setting.places ≤ length (entries_on_way board.nic x)
  full no_room =
      omega (
        arith,
        no_room,
        (sound.relayed.refills a (buffer [] 0) ring_there).slots,
        ap (λ s. s.places) (has-setting board a x x sound here),
        length-drop (length (dealt_entries x.view.app board.nic)) x.view.written,
        dealt-within board.nic x _ _ (was-relayed board a x x sound here),
      )

  pub told-full : (ring_in board.arrays.refills a).capacity ≤ length (ring_in board.arrays.refills a).items
      → AppTold (λ look. IsSeenBy look (app_gist x.view) (others_of board a)) x.view (app_saw x.view RefillInUse)
  told-full no_room = AppTold-one (λ look. IsSeenBy look (app_gist x.view) (others_of board a)) x.view (app_saw x.view RefillInUse) RefillInUse refl
      (full no_room)
