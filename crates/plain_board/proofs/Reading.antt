-- A loan is read: the area has its text at its place, so the bytes are those that were sent, or copied.
use Rattle.std.proofs.Common.{◌≡◌, ℕ, ◌+◌, ◌<◌, ◌≤◌, List, [], ◌∷◌, length, map, take, drop, set, get_or, refl, ap, sym, ◌∙◌, subst, arith}
use Rattle.std.proofs.lemmas.List.{length-take, length-take-le, length-drop, get_or-take, get_or-drop, ext_get_or, drop-drop}
use Rattle.zr_kinds.specs.declared.{place.Place.{Place}, ring.Rqe.{Rqe}}
use Rattle.area_layout.{specs.Layout.{all_buffers, begin_of, LiesIn}, proofs.Words.{in_order}}
use Rattle.board_face.specs.{Sides.{IsApp, app_at}, Texts.{further}, Holders.{sent_to}, Shown.{AppIsShown, origin_bytes, bytes_sent}, Relay.{Relayed}}
use Rattle.board_face.specs.{AppEvents.{has_read, loan_origin}, AppCalls.{HasLoan, ShowsCopy}, declared.views.nic.{SentNote.{SentNote}, NicSide.{NicSide}}}
use Rattle.board_face.specs.declared.views.app.{Origin.{Origin, TheVariants.{Note as of_note, Copied as of_copy}}, TakenNote.{TakenNote}, AppSide.{AppSide}}
use Rattle.board_face.proofs.{AppLemmas.{SameHoldings, app_count-same, user_part-same}, RelayLemmas.{Relayed-app, Relayed-read}, TextsByEvent.{IsShown-loan}}
use Rattle.board_face.proofs.{IsFilledByOneLemmas.{IsFilledByOne-same}, FillingsFitLemmas.{FillingsFit-same}, AreShownLemmas.{AreShown-same}}
use Rattle.board_parts.specs.Area.{loaded}
use Rattle.plain_board.specs.{Stand.{Stand, byte_of}, Sound.{IsSound, taken_of, notes_of, refills_of}}
use Rattle.plain_board.proofs.AppFrames.{IsSet-app, was-at_rest, AreCounted-app, was-returned, AreRelayed-kept, was-relayed, returns-app, was-returns}
use Rattle.plain_board.proofs.AppFrames.{AreFlags-kept, AreFreeOnce-app, AreKept-app, AreDue-app, was-given, was-due, AreBooked-kept}
use Rattle.plain_board.proofs.{AppFrames.{ArePhased-app, was-phased, OwnBuffers-kept}, TokensLie.{loan-lies}}

-- ---- the bytes that are read

-- where the area has a text from a place on, it has each part of it
part-is : (area : List ℕ) (at from n len : ℕ) (text : List ℕ) → at + from + n ≤ length area → from + n ≤ len → length (take len text) ≡ len
    → ((i : ℕ) → i < len → get_or area (at + i) 0 ≡ get_or (take len text) i 0)
    → loaded area (at + from) n ≡ take n (drop from text)
part-is area at from n len text there within long shows =
    let text_len : len ≤ length text = omega (arith, long, length-take len text) in
    let left = length-take-le n (drop (at + from) area) (omega (arith, length-drop (at + from) area)) in
    let right = length-take-le n (drop from text) (omega (arith, length-drop from text)) in
    ext_get_or 0 (loaded area (at + from) n) (take n (drop from text)) (left ∙ sym right)
    (λ i small.
    let less : i < n = omega (arith, left) in
    let inside : from + i < len = omega arith in
    let moved : at + from + i ≡ at + (from + i) = omega arith in
    get_or-take n (drop (at + from) area) i 0 less
    ∙ (get_or-drop (at + from) area i 0
    ∙ (ap (λ k. get_or area k 0) moved
    ∙ (shows (from + i) inside
    ∙ (get_or-take len text (from + i) 0 inside
    ∙ sym (get_or-take n (drop from text) i 0 less ∙ get_or-drop from text i 0))))))

-- whatever the text comes from
origin-is : (area : List ℕ) (at from n len : ℕ) (notes : List SentNote) (o : Origin) → at + from + n ≤ length area → from + n ≤ len
    → length (origin_bytes notes o len) ≡ len → ((i : ℕ) → i < len → get_or area (at + i) 0 ≡ get_or (origin_bytes notes o len) i 0)
    → loaded area (at + from) n ≡ origin_bytes notes (further o from) n
origin-is area at from n len notes (of_note k first) there within long shows =
    part-is area at from n len (drop first (bytes_sent k notes)) there within long shows ∙ ap (take n) (drop-drop from first (bytes_sent k notes))
origin-is area at from n len notes (of_copy text) there within long shows = part-is area at from n len text there within long shows

copy-is : (notes : List SentNote) (o : Origin) (from n : ℕ) (bytes : List ℕ) → length bytes ≡ n → bytes ≡ origin_bytes notes (further o from) n
    → ShowsCopy o from bytes
copy-is notes (of_note k first) from n bytes many is = tt
copy-is notes (of_copy text) from n bytes many is = is ∙ ap (λ m. take m (drop from text)) (sym many)

-- ---- what was read is kept

Relayed-reads : (nic : NicSide) (x : AppSide) (place : Place) (from : ℕ) (bytes : List ℕ) (ns : List TakenNote) (es : List Rqe)
    → bytes ≡ origin_bytes (sent_to x.view.app nic) (further (loan_origin x.view place) from) (length bytes) → Relayed nic x ns es
    → Relayed nic (app_at x (has_read x.view place from bytes)) ns es
Relayed-reads nic x place from [] ns es is relayed = Relayed-app nic x (has_read x.view place from []) ns es refl refl refl refl relayed
Relayed-reads nic x place from (b ∷ bytes) ns es is relayed =
    Relayed-read nic x (has_read x.view place from (b ∷ bytes))
    (record { origin = further (loan_origin x.view place) from; bytes = b ∷ bytes }) ns es refl refl refl refl is relayed

module _ (board : Stand) (a : ℕ) (x : AppSide) (place : Place) (sound : IsSound board) (here : IsApp board.apps a x) (out : HasLoan x.view place) where
  pub lies : LiesIn board.arrays.layout place
  lies = (loan-lies board a x sound here place out).0

  abbrev at : ℕ
  at = begin_of board.arrays.layout place.buffer + place.offset

  -- the bytes lie in the area
  pub bytes-there : (from n : ℕ) → from + n ≤ place.len → at + from + n ≤ length board.arrays.area
  bytes-there from n within =
      let row = (in_order board.arrays.layout sound.sizes.layout).apart place.buffer (all_buffers board.arrays.layout) lies.buffer in
      let inside = lies.bytes in
      omega (arith, row, sound.sizes.area)

  module _ (from n : ℕ) (within : from + n ≤ place.len) where
    pub bytes-are : loaded board.arrays.area (at + from) n ≡ origin_bytes (sent_to x.view.app board.nic) (further (loan_origin x.view place) from) n
    bytes-are =
        let mine : AppIsShown (byte_of board.arrays) board.nic x = subst (AppIsShown (byte_of board.arrays) board.nic) here.is
        (sound.shown.apps a x here.there) in
        let shown = IsShown-loan (byte_of board.arrays) board.nic x place out mine in
        origin-is board.arrays.area at from n place.len (sent_to x.view.app board.nic) (loan_origin x.view place) (bytes-there from n within) within shown.len
        (λ i small. let moved : at + i ≡ begin_of board.arrays.layout place.buffer + (place.offset + i) = omega arith in ap
        (λ k. get_or board.arrays.area k 0) moved ∙ shown.bytes i small)

    pub bytes-many : length (loaded board.arrays.area (at + from) n) ≡ n
    bytes-many = let there = bytes-there from n within in length-take-le n (drop (at + from) board.arrays.area)
        (omega (arith, length-drop (at + from) board.arrays.area))

    pub shows-copy : ShowsCopy (loan_origin x.view place) from (loaded board.arrays.area (at + from) n)
    shows-copy = copy-is (sent_to x.view.app board.nic) (loan_origin x.view place) from n _ bytes-many bytes-are

    abbrev bytes : List ℕ
    bytes = loaded board.arrays.area (at + from) n

    abbrev now : AppSide
    now = app_at x (has_read x.view place from bytes)

    same : SameHoldings x.view (has_read x.view place from bytes)
    same = assumption

    kept : Relayed board.nic now (map taken_of (notes_of board.arrays a)) (refills_of board.arrays a)
    kept =
        Relayed-reads board.nic x place from bytes _ _
        (bytes-are ∙ ap (origin_bytes (sent_to x.view.app board.nic) (further (loan_origin x.view place) from)) (sym bytes-many))
        (was-relayed board a x now sound here)

    pub IsSound-read : IsSound (record { arrays = board.arrays; nic = board.nic; apps = set board.apps a now })
    IsSound-read =
        let v = has_read x.view place from bytes in
        let was = was-returns board a x now sound here in
        let phase = was-phased board a x now sound here in
        let at_rest = was-at_rest board a x now sound here in
        record {
          sizes = sound.sizes;
          cached = sound.cached;
          set = IsSet-app board a x now sound here refl refl (assumption at_rest);
          counted = AreCounted-app board a x now sound here board.arrays refl refl
              (λ b inside. omega (arith, app_count-same b board.nic x v same))
              (λ b inside. omega (arith, user_part-same a b board.nic x v same))
              (λ k b ne app inside. refl)
              (λ b past. omega (arith, app_count-same b board.nic x v same))
              (λ b. assumption (was-returned board a x now sound here b));
          free = AreFreeOnce-app board a x now sound here _ (assumption at_rest)
              (λ b. app_count-same b board.nic x v same) sound.free;
          relayed = AreRelayed-kept board a x now sound here board.arrays refl refl refl kept;
          returns = returns-app board a x now sound here (assumption was);
          flags = AreFlags-kept board a x now sound here board.arrays refl refl refl;
          kept = AreKept-app board a x now sound here _ _ refl (λ b. omega arith) sound.kept;
          due = AreDue-app board a x now sound here (was-given board a x now sound here) (was-due board a x now sound here);
          filled = FillingsFit-same board.nic board.apps a x now here refl sound.filled;
          by_one = λ b. IsFilledByOne-same b board.nic board.apps a x v here same (sound.by_one b);
          shown = AreShown-same (byte_of board.arrays) board.nic board.apps a x v here same sound.shown;
          notes = sound.notes;
          own_buffers = OwnBuffers-kept board a x now sound here refl refl refl refl refl refl;
          judged = sound.judged;
          booked = AreBooked-kept board a x now sound here board.arrays refl refl refl refl refl refl refl;
          phased = ArePhased-app board a x now sound here (record {
            ended = phase.ended;
            scrubbed = phase.scrubbed;
            left = λ e. assumption (phase.left e);
          });
        }
