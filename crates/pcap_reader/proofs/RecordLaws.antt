-- Laws of records: a whole record at the front is the first, and one that is cut or too long is none.
use Rattle.std.proofs.Common.{◌≡◌, ℕ, ◌+◌, ◌<◌, ◌≤◌, List, [], ◌∷◌, ◌++◌, length, take, drop, Option, Some, None, refl, sym, ap}
use Rattle.std.proofs.{Common.{◌∙◌, arith, append_assoc, length-append, length-drop, lt-ltb, le-ltb}, lemmas.List.{drop-append-le, take_all, take_at, drop_at}}
use Rattle.zr_kinds.specs.{Limits.{longest_record}, declared.fault.Fault.{Fault, TheVariants.{Cut, LongRecord}}}
use Rattle.byteorder.specs.Numbers.{little_from-append, big_from-append}
use Rattle.pcap_reader.specs.declared.order.ByteOrder.TheVariants.{Little, Big}
use Rattle.pcap_reader.specs.Records.{ByteOrder, Records, number, no_record, with_record, classic_captured_len, classic_original_len, record_fault, after_record}
use Rattle.pcap_reader.specs.Records.{records_behind, records_in}

-- ---- a record's numbers stand in its header

pub number-append : (order : ByteOrder) (n : ℕ) (xs ys : List ℕ) → n ≤ length xs → number order n (xs ++ ys) ≡ number order n xs
number-append Little n xs ys h = little_from-append n xs ys h
number-append Big n xs ys h = big_from-append n xs ys h

pub number_at-append : (order : ByteOrder) (at n : ℕ) (xs ys : List ℕ) → at + n ≤ length xs
    → number order n (drop at (xs ++ ys)) ≡ number order n (drop at xs)
number_at-append order at n xs ys h =
    ap (number order n) (drop-append-le at xs ys (omega arith)) ∙ number-append order n (drop at xs) ys (omega (arith, length-drop at xs))

-- the number in the last bytes of some, as it is read of a part that ends with them
pub number_in : (order : ByteOrder) (at width : ℕ) (bytes : List ℕ) (n : ℕ) → length bytes ≡ at + width
    → n ≡ number order 4 (take width (drop at bytes)) → number order 4 (drop at bytes) ≡ n
number_in order at width bytes n size e = ap (number order 4) (sym (take_all width (drop at bytes) (omega (arith, length-drop at bytes)))) ∙ sym e

pub captured_len-append : (order : ByteOrder) (header rest : List ℕ) → length header ≡ 16
    → classic_captured_len order (header ++ rest) ≡ classic_captured_len order header
captured_len-append order header rest whole = number_at-append order 8 4 header rest (omega arith)

pub original_len-append : (order : ByteOrder) (header rest : List ℕ) → length header ≡ 16
    → classic_original_len order (header ++ rest) ≡ classic_original_len order header
original_len-append order header rest whole = number_at-append order 12 4 header rest (omega arith)

-- ---- what is wrong with a record

fault-headless : (order : ByteOrder) (bytes : List ℕ) → length bytes < 16 → record_fault order bytes ≡ Some Cut
fault-headless order bytes short = rw (lt-ltb (length bytes) 16 short) refl

fault-long : (order : ByteOrder) (bytes : List ℕ) → 16 ≤ length bytes → longest_record < classic_captured_len order bytes
    → record_fault order bytes ≡ Some LongRecord
fault-long order bytes header long = rw (le-ltb (length bytes) 16 header, lt-ltb longest_record (classic_captured_len order bytes) long) refl

fault-bodiless : (order : ByteOrder) (bytes : List ℕ) → 16 ≤ length bytes → classic_captured_len order bytes ≤ longest_record
    → length bytes < 16 + classic_captured_len order bytes → record_fault order bytes ≡ Some Cut
fault-bodiless order bytes header short cut =
    rw (
      le-ltb (length bytes) 16 header,
      le-ltb longest_record (classic_captured_len order bytes) short,
      lt-ltb (length bytes) (16 + classic_captured_len order bytes) cut,
    ) refl

fault-none : (order : ByteOrder) (bytes : List ℕ) → 16 ≤ length bytes → classic_captured_len order bytes ≤ longest_record
    → 16 + classic_captured_len order bytes ≤ length bytes → record_fault order bytes ≡ None
fault-none order bytes header short whole =
    rw (le-ltb (length bytes) 16 header, le-ltb longest_record (classic_captured_len order bytes) short, le-ltb (length bytes) (16 + classic_captured_len order bytes) whole) refl

-- ---- the records of bytes

pub records_behind-append : (order : ByteOrder) (xs rest : List ℕ) → records_behind order (length xs) (xs ++ rest) ≡ records_in order rest
unfolding records_in records_behind
records_behind-append order [] rest = refl
records_behind-append order (x ∷ xs) rest = records_behind-append order xs rest

pub records_in-none : (order : ByteOrder) → records_in order [] ≡ no_record None
unfolding records_in records_behind
records_in-none order = refl

records_in-fault : (order : ByteOrder) (bytes : List ℕ) (fault : Fault) → 0 < length bytes → record_fault order bytes ≡ Some fault
    → records_in order bytes ≡ no_record (Some fault)
unfolding records_in records_behind
records_in-fault order [] fault some e = absurd (omega arith)
records_in-fault order (byte ∷ bytes) fault some e =
    ap (λ (f : Option Fault). after_record f order (byte ∷ bytes) (records_behind order (15 + classic_captured_len order (byte ∷ bytes)) bytes)) e

records_in-record : (order : ByteOrder) (byte : ℕ) (bytes : List ℕ) → record_fault order (byte ∷ bytes) ≡ None
    → records_in order (byte ∷ bytes) ≡ with_record (take (classic_captured_len order (byte ∷ bytes)) (drop 15 bytes))
    (classic_original_len order (byte ∷ bytes))
    (records_behind order (15 + classic_captured_len order (byte ∷ bytes)) bytes)
unfolding records_in records_behind
records_in-record order byte bytes e =
    ap (λ (f : Option Fault). after_record f order (byte ∷ bytes) (records_behind order (15 + classic_captured_len order (byte ∷ bytes)) bytes)) e

with_record-same : (xs ys : List ℕ) (m n : ℕ) (others these : Records) → xs ≡ ys → m ≡ n → others ≡ these
    → with_record xs m others ≡ with_record ys n these
with_record-same xs ys m n others these e f g = rw (e, f, g) refl

-- a whole record at the front is the first
pub records_in-whole : (order : ByteOrder) (header frame rest : List ℕ) → length header ≡ 16 → classic_captured_len order header ≡ length frame
    → length frame ≤ longest_record
    → records_in order ((header ++ frame) ++ rest) ≡ with_record frame (classic_original_len order header) (records_in order rest)
records_in-whole order [] frame rest whole captured short = absurd (omega arith)
records_in-whole order (byte ∷ header) frame rest whole captured short =
    let all = (header ++ frame) ++ rest in
    let joined : all ≡ header ++ (frame ++ rest) = append_assoc header frame rest in
    let len : length header ≡ 15 = omega arith in
    let size : length all ≡ 15 + (length frame + length rest) =
    ap length joined ∙ length-append header (frame ++ rest) ∙ omega (arith, length-append frame rest) in
    let stated : classic_captured_len order (byte ∷ all) ≡ length frame =
    ap (λ (l : List ℕ). classic_captured_len order (byte ∷ l)) joined ∙ captured_len-append order (byte ∷ header) (frame ++ rest) whole ∙ captured in
    let origin : classic_original_len order (byte ∷ all) ≡ classic_original_len order (byte ∷ header) =
    ap (λ (l : List ℕ). classic_original_len order (byte ∷ l)) joined ∙ original_len-append order (byte ∷ header) (frame ++ rest) whole in
    let body : drop 15 all ≡ frame ++ rest = ap (drop 15) joined ∙ drop_at header (frame ++ rest) 15 len in
    let bytes : take (classic_captured_len order (byte ∷ all)) (drop 15 all) ≡ frame =
    ap (λ (n : ℕ). take n (drop 15 all)) stated ∙ ap (take (length frame)) body ∙ take_at frame rest (length frame) refl in
    let skipped : 15 + classic_captured_len order (byte ∷ all) ≡ length (header ++ frame) = omega (arith, stated, length-append header frame) in
    let others : records_behind order (15 + classic_captured_len order (byte ∷ all)) all ≡ records_in order rest =
    ap (λ (n : ℕ). records_behind order n all) skipped ∙ records_behind-append order (header ++ frame) rest in
    let good : record_fault order (byte ∷ all) ≡ None = fault-none order (byte ∷ all) (omega arith) (omega arith) (omega arith) in
    records_in-record order byte all good ∙ with_record-same _ _ _ _ _ _ bytes origin others

-- too few bytes for a header
pub records_in-headless : (order : ByteOrder) (bytes : List ℕ) → 0 < length bytes → length bytes < 16 → records_in order bytes ≡ no_record (Some Cut)
records_in-headless order bytes some short = records_in-fault order bytes Cut some (fault-headless order bytes short)

-- a header that states too many bytes
pub records_in-long : (order : ByteOrder) (header rest : List ℕ) → length header ≡ 16 → longest_record < classic_captured_len order header
    → records_in order (header ++ rest) ≡ no_record (Some LongRecord)
records_in-long order header rest whole long =
    let size = length-append header rest in
    let stated = captured_len-append order header rest whole in
    records_in-fault order (header ++ rest) LongRecord (omega (arith, size)) (fault-long order (header ++ rest) (omega (arith, size)) (omega (arith, stated)))

-- a header with fewer bytes behind it than it states
pub records_in-bodiless : (order : ByteOrder) (header body : List ℕ) → length header ≡ 16 → classic_captured_len order header ≤ longest_record
    → length body < classic_captured_len order header
    → records_in order (header ++ body) ≡ no_record (Some Cut)
records_in-bodiless order header body whole short cut =
    let size = length-append header body in
    let stated = captured_len-append order header body whole in
    records_in-fault order (header ++ body) Cut (omega (arith, size))
    (fault-bodiless order (header ++ body) (omega (arith, size)) (omega (arith, stated)) (omega (arith, size, stated)))
