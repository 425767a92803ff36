-- A note and its slot.
use Rattle.std.proofs.Common.{◌≡◌, ℕ, zero, suc, ◌+◌, ◌/◌, ◌%◌, ◌<◌, ◌==◌, Bool, true, false, if◌then◌else◌}
use Rattle.std.proofs.{Common.{List, [], ◌∷◌, ◌++◌, length, take, drop, slice_index, refl, sym, ap, ◌∙◌, arith, ◌≤◌, ◌*◌, ◌-◌, replicate}, Math.Seq.{drop-nil}}
use Rattle.std.proofs.lemmas.{List.{append-nil, length-append, length-drop, take-append-le, drop-append-le, drop-drop, drop-replicate}, Grind.{flat_map-append}}
use Rattle.byteorder.specs.{Endian.{little_bytes}, Numbers.{length-bytes_low_first}}
use Rattle.zr_kinds.specs.declared.place.Note.{Note}
use Rattle.word_rings.specs.Slots.{pair, low_of, high_of, flags_of, words_of, note_width, note_fields, field_words, payload_width, note_body, note_slot, note_of, linear_of, bytes_of_words, IsNoteSlot, IsBlankFrom}

-- ---- two numbers in a word

pub pair_back : (w : ℕ) → pair (low_of w) (high_of w) ≡ w
pair_back w = omega arith

-- ---- flags

split_back : (split fin : Bool) → (((if split then 1 else 0) + (if fin then 2 else 0)) % 2 == 1) ≡ split
split_back false false = refl
split_back false true = refl
split_back true false = refl
split_back true true = refl

fin_back : (split fin : Bool) → (((if split then 1 else 0) + (if fin then 2 else 0)) / 2 % 2 == 1) ≡ fin
fin_back false false = refl
fin_back false true = refl
fin_back true false = refl
fin_back true true = refl

few : (split fin : Bool) → (if split then 1 else 0) + (if fin then 2 else 0) < 4
few false false = omega arith
few false true = omega arith
few true false = omega arith
few true true = omega arith

-- flags below 4 are those of the two bits
flags_back : (n : ℕ) → n < 4 → (if n % 2 == 1 then 1 else 0) + (if n / 2 % 2 == 1 then 2 else 0) ≡ n
flags_back zero h = refl
flags_back (suc zero) h = refl
flags_back (suc (suc zero)) h = refl
flags_back (suc (suc (suc zero))) h = refl
flags_back (suc (suc (suc (suc n)))) h = absurd (omega arith)

-- ---- a note, and back

-- the note of the words as they were stored
pub note_back : (n : Note) (w1 w2 w3 w4 w5 w6 : ℕ) (dst : List ℕ) → low_of w1 ≡ n.frame → high_of w1 ≡ n.flow → low_of w2 ≡ n.base
    → high_of w2 ≡ n.seq
    → low_of w3 ≡ n.at → high_of w3 ≡ n.total → low_of w4 ≡ n.place.buffer → high_of w4 ≡ n.place.offset → low_of w5 ≡ n.place.len
    → high_of w5 ≡ flags_of n → note_of (1 ∷ w1 ∷ w2 ∷ w3 ∷ w4 ∷ w5 ∷ w6 ∷ dst) ≡ n
note_back n w1 w2 w3 w4 w5 w6 dst frame flow base seq at total buffer offset len flags =
    rw (frame, flow, base, seq, at, total, buffer, offset, len, flags, split_back n.split n.fin, fin_back n.split n.fin) refl

-- its flags are those that a note may have
pub is_slot : (n : Note) (w1 w2 w3 w4 w5 w6 : ℕ) (dst : List ℕ) → high_of w5 ≡ flags_of n
    → IsNoteSlot (1 ∷ w1 ∷ w2 ∷ w3 ∷ w4 ∷ w5 ∷ w6 ∷ dst)
is_slot n w1 w2 w3 w4 w5 w6 dst high = record { full = refl; flags = let below = few n.split n.fin in omega arith }

-- the words as they were stored are the slot's
pub slot_is : (n : Note) (linear : List ℕ) (area : ℕ) (w1 w2 w3 w4 w5 w6 : ℕ) (dst : List ℕ) → w1 ≡ pair n.frame n.flow → w2 ≡ pair n.base n.seq
    → w3 ≡ pair n.at n.total → w4 ≡ pair n.place.buffer n.place.offset → w5 ≡ pair n.place.len (flags_of n) → w6 ≡ area
    → dst ≡ words_of payload_width linear → 1 ∷ w1 ∷ w2 ∷ w3 ∷ w4 ∷ w5 ∷ w6 ∷ (dst ++ []) ≡ note_slot n linear area
slot_is n linear area w1 w2 w3 w4 w5 w6 dst e1 e2 e3 e4 e5 e6 payload = rw (append-nil dst, e1, e2, e3, e4, e5, e6, payload) refl

-- ---- a slot, and back

seven : (w : List ℕ) (n : ℕ) → length w ≡ 7 + n
    → w ≡ slice_index w 0 ∷ slice_index w 1 ∷ slice_index w 2 ∷ slice_index w 3 ∷ slice_index w 4 ∷ slice_index w 5 ∷ slice_index w 6
    ∷ drop 7 w
seven (a ∷ b ∷ c ∷ d ∷ e ∷ f ∷ g ∷ w) n len = refl
seven (a ∷ b ∷ c ∷ d ∷ e ∷ f ∷ []) n len = absurd (omega arith)
seven (a ∷ b ∷ c ∷ d ∷ e ∷ []) n len = absurd (omega arith)
seven (a ∷ b ∷ c ∷ d ∷ []) n len = absurd (omega arith)
seven (a ∷ b ∷ c ∷ []) n len = absurd (omega arith)
seven (a ∷ b ∷ []) n len = absurd (omega arith)
seven (a ∷ []) n len = absurd (omega arith)
seven [] n len = absurd (omega arith)

first_word : (w : List ℕ) → slice_index w 0 ≡ 1
    → 1 ∷ slice_index w 1 ∷ slice_index w 2 ∷ slice_index w 3 ∷ slice_index w 4 ∷ slice_index w 5 ∷ slice_index w 6 ∷ drop 7 w
    ≡ slice_index w 0 ∷ slice_index w 1 ∷ slice_index w 2 ∷ slice_index w 3 ∷ slice_index w 4 ∷ slice_index w 5 ∷ slice_index w 6 ∷ drop 7 w
first_word w full = ap
    (λ (f : ℕ). f ∷ slice_index w 1 ∷ slice_index w 2 ∷ slice_index w 3 ∷ slice_index w 4 ∷ slice_index w 5 ∷ slice_index w 6 ∷ drop 7 w)
    (sym full)

pub slot_back : (w : List ℕ) → length w ≡ note_width → IsNoteSlot w → words_of payload_width (linear_of w) ≡ drop note_fields w
    → note_slot (note_of w) (linear_of w) (slice_index w 6) ≡ w
slot_back w len slot payload =
    let flags = flags_back (high_of (slice_index w 5)) slot.flags in
    rw (
      pair_back (slice_index w 1),
      pair_back (slice_index w 2),
      pair_back (slice_index w 3),
      pair_back (slice_index w 4),
      flags,
      pair_back (slice_index w 5),
      payload,
    ) (first_word w slot.full ∙ sym (seven w payload_width len))

-- ---- the first words of a slot

-- the note of the words of a slot is that of the first of them
pub note-front : (ws rest : List ℕ) → 6 ≤ length ws → note_of (1 ∷ (ws ++ rest)) ≡ note_of (1 ∷ ws)
note-front (a ∷ b ∷ c ∷ d ∷ e ∷ f ∷ ws) rest few = refl
note-front (a ∷ b ∷ c ∷ d ∷ e ∷ []) rest few = absurd (omega arith)
note-front (a ∷ b ∷ c ∷ d ∷ []) rest few = absurd (omega arith)
note-front (a ∷ b ∷ c ∷ []) rest few = absurd (omega arith)
note-front (a ∷ b ∷ []) rest few = absurd (omega arith)
note-front (a ∷ []) rest few = absurd (omega arith)
note-front [] rest few = absurd (omega arith)

-- and so are the first bytes behind the fields
pub bytes-front : (n : ℕ) (ws rest : List ℕ) → field_words ≤ length ws → n + 8 * field_words ≤ 8 * length ws
    → take n (linear_of (1 ∷ (ws ++ rest))) ≡ take n (linear_of (1 ∷ ws))
bytes-front n ws rest few enough =
    let behind = drop field_words ws in
    ap (λ xs. take n (bytes_of_words xs)) (drop-append-le field_words ws rest few)
    ∙ (ap (take n) (flat_map-append (little_bytes 8) behind rest)
    ∙ take-append-le n (bytes_of_words behind) (bytes_of_words rest) (omega (arith, length-bytes behind, length-drop field_words ws)))
  where
    length-bytes : (xs : List ℕ) → length (bytes_of_words xs) ≡ 8 * length xs
    length-bytes [] = refl
    length-bytes (x ∷ xs) =
        omega (arith, length-append (little_bytes 8 x) (bytes_of_words xs), length-bytes_low_first 0 8 x, length-bytes xs)

-- ---- zeros behind a payload

words-blank : (n m : ℕ) (bytes : List ℕ) → length bytes ≤ 8 * m → drop m (words_of n bytes) ≡ replicate (n - m) 0
words-blank zero m bytes short = let none : 0 - m ≡ 0 = omega arith in drop-nil m ∙ ap (λ k. replicate k 0) (sym none)
words-blank (suc n) zero [] short =
    let one : suc (n - 0) ≡ suc n - 0 = omega arith in
    ap (λ ws. 0 ∷ ws) (words-blank n 0 [] (omega arith)) ∙ ap (λ k. replicate k 0) one
words-blank (suc n) zero (x ∷ bytes) short = absurd (omega arith)
words-blank (suc n) (suc m) bytes short =
    let less : n - m ≡ suc n - suc m = omega arith in
    words-blank n m (drop 8 bytes) (omega (arith, length-drop 8 bytes)) ∙ ap (λ k. replicate k 0) less

-- behind the bytes of its payload a note's words are 0,
pub note-blank : (n : Note) (linear : List ℕ) (area m : ℕ) → length linear ≤ 8 * m → IsBlankFrom m (note_body n linear area)
note-blank n linear area m few = sym (drop-drop m field_words (note_body n linear area)) ∙ words-blank payload_width m linear few

-- and so is what is left there before any note
pub zeros-blank : (m : ℕ) → IsBlankFrom m (replicate (note_width - 1) 0)
zeros-blank m =
    let many : note_width - 1 - (field_words + m) ≡ payload_width - m = omega arith in
    drop-replicate (field_words + m) (note_width - 1) 0 ∙ ap (λ k. replicate k 0) many

-- from a later word on they are so too
pub blank-later : (m n : ℕ) (body : List ℕ) → m ≤ n → IsBlankFrom m body → IsBlankFrom n body
blank-later m n body less blank =
    let at : field_words + n ≡ field_words + m + (n - m) = omega arith in
    let many : payload_width - m - (n - m) ≡ payload_width - n = omega arith in
    ap (λ k. drop k body) at
    ∙ (sym (drop-drop (n - m) (field_words + m) body)
    ∙ (ap (drop (n - m)) blank ∙ (drop-replicate (n - m) (payload_width - m) 0 ∙ ap (λ k. replicate k 0) many)))
