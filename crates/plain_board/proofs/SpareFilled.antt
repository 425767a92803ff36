-- A spare is filled from its begin: nobody else has its buffer, so all that lies in other buffers stays.
use Rattle.std.{proofs.Common.{◌≡◌, ℕ, ◌+◌, ◌<◌, ◌≤◌, true, false, List, length, set, get_or, refl, ap, sym, ◌∙◌, arith, ⊎_elim}, specs.Prelude.{◌≢◌, All}}
use Rattle.std.proofs.lemmas.{List.{get_or-set_same, get_or-set_other, length-set, Elements.{All-push}}, Bool.{cases_lt}}
use Rattle.area_layout.{specs.Layout.{LiesIn, size_of, begin_of, all_buffers}, proofs.Words.{in_order, words_apart}}
use Rattle.board_face.specs.{Sides.{IsApp, app_at}, Shown.{AreShown}, Tokens.{filled_by, same_filling}, AppCalls.{IsHere, HasSpare}}
use Rattle.board_face.specs.{AppEvents.{filled, owns_without, begin_place}, declared.views.{parts.Filling.{Filling}, app.{SpareOwn.{SpareOwn}, AppSide.{AppSide}}}}
use Rattle.board_face.proofs.{ListLemmas.{All-without}, Parts.{spares_in}, Tallies.{total, total-set}}
use Rattle.board_face.proofs.{AppLemmas.{owns-without, pool_count-app, app_count-filled, user_part-kept}, RelayLemmas.{Relayed-app}, ArePlacedLemmas.{less_spare}}
use Rattle.board_face.proofs.{IsFilledByOneLemmas.{fillings-one, IsFilledByOne-filled}, OwnBufferLemmas.{AppLiesInOwn-filled}}
use Rattle.board_face.proofs.{FillingsFitLemmas.{FillingsFit-spare, FillingsFit-filled}, AreShownLemmas.{AreShown-filled}, LiesLemmas.{total-of}}
use Rattle.board_face.proofs.Counting.{weight-same, All-none}
use Rattle.board_parts.specs.Area.{stored}
use Rattle.plain_board.specs.{Stand.{Arrays, Stand, byte_of}, Sound.{IsSound}}
use Rattle.plain_board.proofs.Storing.{length-stored, stored_then, IsShown-stored, StoresAt-last, AreShown-before}
use Rattle.plain_board.proofs.AppFrames.{IsSet-app, was-at_rest, AreCounted-app, was-returned, AreRelayed-kept, was-relayed, returns-app, was-returns}
use Rattle.plain_board.proofs.AppFrames.{AreFlags-kept, AreFreeOnce-app, AreKept-app, AreDue-app, was-given, was-due, AreBooked-app, was-booked_loans}
use Rattle.plain_board.proofs.AppFrames.{was-booked_filled, was-booked_raw, ArePhased-app, was-phased, was-own, OwnBuffers-app}

module _ (board : Stand) (a : ℕ) (x : AppSide) (own : Filling) (sound : IsSound board) (here : IsApp board.apps a x) (out : HasSpare x.view own) where
  -- its buffer is one of the area
  pub spare-there : own.buffer < all_buffers board.arrays.layout
  spare-there =
      let b = own.buffer in
      ⊎_elim
      (λ less. less)
      (λ past. absurd (omega (
        arith,
        sound.counted.beyond b past,
        pool_count-app b board.nic board.apps a x (less_spare x own) here,
        owns-without b x.view own out,
        weight-same b,
      )))
      (cases_lt b (all_buffers board.arrays.layout))

  same_layout : board.nic.view.setting.layout ≡ board.arrays.layout
  same_layout = ap (λ s. s.layout) sound.set.card

  pub layout-size : own.size ≡ size_of board.arrays.layout own.buffer
  layout-size = (FillingsFit-spare board.nic board.apps a x own here out sound.filled).1 ∙ ap (λ l. size_of l own.buffer) same_layout

  -- nobody has another spare in its buffer
  spares-one : total (spares_in own.buffer) (set board.apps a (less_spare x own)) ≡ 0
  spares-one =
      let b = own.buffer in
      omega (
        arith,
        fillings-one b board.nic board.apps (sound.by_one b),
        total-set (spares_in b) board.apps a x (less_spare x own) here.there here.is,
        owns-without b x.view own out,
        weight-same b,
      )

  pub spares-mine : All (λ (s : SpareOwn). s.own.buffer ≢ own.buffer) (owns_without x.view own)
  spares-mine =
      let b = own.buffer in
      let there : a < length (set board.apps a (less_spare x own)) = let h = here.there in omega (arith, length-set board.apps a (less_spare x own)) in
      let none = total-of (spares_in b) (set board.apps a (less_spare x own)) a (less_spare x own) there in
      let is = ap (spares_in b) (get_or-set_same board.apps a (less_spare x own) (less_spare x own) here.there) in
      All-none (λ (s : SpareOwn). s.own.buffer) b (owns_without x.view own) (omega (arith, none, is, spares-one))

  pub spares-others : (k : ℕ) (y : AppSide) → k ≢ a → IsApp board.apps k y → All (λ (s : SpareOwn). s.own.buffer ≢ own.buffer) y.view.owns
  spares-others k y ne it =
      let b = own.buffer in
      let there : k < length (set board.apps a (less_spare x own)) = let h = it.there in omega (arith, length-set board.apps a (less_spare x own)) in
      let none = total-of (spares_in b) (set board.apps a (less_spare x own)) k y there in
      let is = ap (spares_in b) (get_or-set_other board.apps a k (less_spare x own) y ne ∙ it.is) in
      All-none (λ (s : SpareOwn). s.own.buffer) b y.view.owns (omega (arith, none, is, spares-one))

  -- the lengths that are kept of other spares stay
  lengths-kept : (n : ℕ) (spares : List SpareOwn) → All (λ (s : SpareOwn). s.own.buffer ≢ own.buffer) spares
      → All (λ (s : SpareOwn). get_or board.arrays.filled s.own.buffer 0 ≡ length s.bytes) spares
      → All (λ (s : SpareOwn). get_or (set board.arrays.filled own.buffer n) s.own.buffer 0 ≡ length s.bytes) spares
  lengths-kept n spares others was k d there = get_or-set_other board.arrays.filled own.buffer (get_or spares k d).own.buffer n 0 (others k d there)
      ∙ was k d there

  -- ---- the bytes

  module _ (bytes : List ℕ) (begin : own.start ≡ 0) (few : length bytes ≤ 256) where
    pub fits-size : length bytes ≤ size_of board.arrays.layout own.buffer
    fits-size = let least = ((words_apart board.arrays.layout sound.sizes.layout).size own.buffer).least in omega arith

    pub lies-in : LiesIn board.arrays.layout (begin_place own.buffer (length bytes))
    lies-in = record { buffer = spare-there; bytes = let f = fits-size in omega arith }

    room : begin_of board.arrays.layout own.buffer + size_of board.arrays.layout own.buffer ≤ length board.arrays.area
    room =
        omega (arith, sound.sizes.area, (in_order board.arrays.layout sound.sizes.layout).apart own.buffer (all_buffers board.arrays.layout) spare-there)

    -- where the bytes are stored
    abbrev pub at : ℕ
    at = begin_of board.arrays.layout own.buffer + 0

    pub fits-area : at + length bytes ≤ length board.arrays.area
    fits-area = let r = room in let f = fits-size in omega arith

    pub fits-token : own.start + length bytes ≤ own.size
    fits-token = let f = fits-size in omega (arith, layout-size)

    abbrev pub spare_then : AppSide
    spare_then = app_at x (filled x.view own bytes)

    -- ---- the texts

    lies-here : 0 + length bytes ≤ size_of board.arrays.layout own.buffer
    lies-here = let f = fits-size in omega arith

    abbrev arrays_then : Arrays
    arrays_then = stored_then board.arrays own.buffer 0 bytes sound.sizes spare-there lies-here

    shown-then : 0 < length bytes → AreShown (byte_of arrays_then) board.nic (set board.apps a spare_then)
    shown-then some =
        let stores = StoresAt-last board.arrays own.buffer 0 bytes sound.sizes spare-there lies-here in
        let new = IsShown-stored board.arrays own.buffer 0 bytes sound.sizes spare-there lies-here in
        let before = AreShown-before board.arrays own.buffer 0 bytes sound.sizes spare-there lies-here board.nic board.apps same_layout sound.shown in
        AreShown-filled _ _ board.nic board.apps a x own bytes stores new here out begin some few
        (rw same_layout sound.sizes.layout) sound.filled sound.by_one before

    pub IsSound-filled : IsHere x.view → 0 < length bytes
        → IsSound (record {
          arrays = record board.arrays {
            area = stored board.arrays.area at bytes;
            filled = set board.arrays.filled own.buffer (length bytes);
          };
          nic = board.nic;
          apps = set board.apps a spare_then;
        })
    IsSound-filled stays some =
        let v = filled x.view own bytes in
        let n = length bytes in
        let rest = was-at_rest board a x spare_then sound here in
        let phase = was-phased board a x spare_then sound here in
        let was = was-returns board a x spare_then sound here in
        let there : own.buffer < length board.arrays.filled = let h = spare-there in omega (arith, sound.sizes.filled) in
        record {
          sizes = assumption (
            length-stored board.arrays.area bytes at fits-area ∙ sound.sizes.area,
            length-set board.arrays.filled own.buffer n ∙ sound.sizes.filled,
            sound.sizes,
          );
          cached = sound.cached;
          set = IsSet-app board a x spare_then sound here refl refl (assumption rest);
          counted = AreCounted-app board a x spare_then sound here _ refl refl
              (λ b within. omega (arith, app_count-filled b board.nic x own bytes out))
              (λ b within. omega (arith, user_part-kept a b board.nic x v refl refl refl))
              (λ k b ne app within. refl)
              (λ b past. omega (arith, app_count-filled b board.nic x own bytes out))
              (λ b. assumption (was-returned board a x spare_then sound here b));
          free = AreFreeOnce-app board a x spare_then sound here _ (assumption rest)
              (λ b. app_count-filled b board.nic x own bytes out) sound.free;
          relayed = AreRelayed-kept board a x spare_then sound here _ refl refl refl
              (Relayed-app board.nic x v _ _ refl refl refl refl (was-relayed board a x spare_then sound here));
          returns = returns-app board a x spare_then sound here
              (assumption was);
          flags = AreFlags-kept board a x spare_then sound here _ refl refl refl;
          kept = AreKept-app board a x spare_then sound here _ _ refl (λ b. omega arith) sound.kept;
          due = AreDue-app board a x spare_then sound here (was-given board a x spare_then sound here) (was-due board a x spare_then sound here);
          filled = FillingsFit-filled board.nic board.apps a x own bytes here out begin few (rw same_layout sound.sizes.layout) sound.filled;
          by_one = λ b. IsFilledByOne-filled b board.nic board.apps a x own bytes here out (sound.by_one b);
          shown = shown-then some;
          notes = sound.notes;
          own_buffers = OwnBuffers-app board a x spare_then sound here (AppLiesInOwn-filled x.view own bytes out (was-own board a x spare_then sound here));
          judged = sound.judged;
          booked = AreBooked-app board a x spare_then sound here _ refl
              (record {
                loans = was-booked_loans board a x spare_then sound here;
                filled = All-push (λ (s : SpareOwn). get_or (set board.arrays.filled own.buffer n) s.own.buffer 0 ≡ length s.bytes) (owns_without x.view own)
                    (record { own = filled_by own n; bytes = bytes })
                    (lengths-kept n (owns_without x.view own) spares-mine
                    (All-without (λ (s : SpareOwn). get_or board.arrays.filled s.own.buffer 0 ≡ length s.bytes)
                    (λ (s : SpareOwn). same_filling own s.own) x.view.owns (was-booked_filled board a x spare_then sound here)))
                    (get_or-set_same board.arrays.filled own.buffer n 0 there);
                raw = was-booked_raw board a x spare_then sound here;
              })
              (λ k b ne app within. refl)
              (λ k y ne it. lengths-kept n y.view.owns (spares-others k y ne it) (sound.booked.filled k y it))
              (λ k ne. refl);
          phased = ArePhased-app board a x spare_then sound here (record {
            ended = phase.ended;
            scrubbed = phase.scrubbed;
            left = λ e. absurd (let wrong : false ≡ true = sym stays ∙ e in cc);
          });
        }
