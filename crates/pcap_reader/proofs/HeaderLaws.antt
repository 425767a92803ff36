-- Laws of the file header.
use Rattle.std.proofs.Common.{◌≡◌, ◌≢◌, ℕ, ◌+◌, ◌%◌, ◌<◌, ◌≤◌, nat_lt, nat_eq, ◌==◌, not, Bool, true, false, List, []}
use Rattle.std.proofs.Common.{◌∷◌, ◌++◌, length, take, drop, Option, Some, None, refl, sym, ap, ◌∙◌, arith, length-append, lt-ltb, le-ltb}
use Rattle.std.{proofs.{Common.{eq-eqb, ne_eqb, if◌then◌else◌}, lemmas.{List.{take-append-le, drop_at}, Bool.{cond-true, cond-false}}}, specs.List.{starts_with}}
use Rattle.zr_kinds.specs.declared.fault.Fault.{Fault, TheVariants.{NotPcap, Version, LinkType, Cut}}
use Rattle.pcap_reader.specs.{declared.order.ByteOrder.TheVariants.{Little, Big}, Records.{ByteOrder, number, no_record, records_in, order_of}}
use Rattle.pcap_reader.specs.Records.{fields_fault, classic_fault_behind, header_fault, after_header, behind_magic, classic_records_of}
use Rattle.pcap_reader.{specs.Steps.{IsMagicOf, magic_in, fault_of_fields, behind_magic_in}, proofs.RecordLaws.{number-append, number_at-append}}

abbrev starts : List ℕ → List ℕ → Bool
starts bytes form = starts_with nat_eq bytes form

-- ---- the magic

-- bytes behind a magic change nothing of it
starts-append : (magic rest form : List ℕ) → length magic ≡ length form → starts (magic ++ rest) form ≡ starts magic form
starts-append magic rest form whole =
    let front : take (length form) (magic ++ rest) ≡ take (length form) magic = take-append-le (length form) magic rest (omega arith) in
    rw front refl

pub order-same : (a b c d e f g h : Bool) → a ≡ e → b ≡ f → c ≡ g → d ≡ h
    → (if a then Some Little else if b then Some Big else if c then Some Little else if d then Some Big else None)
    ≡ (if e then Some Little else if f then Some Big else if g then Some Little else if h then Some Big else None)
order-same a b c d e f g h p q r s = rw (p, q, r, s) refl

order_of-append : (magic rest : List ℕ) → length magic ≡ 4 → order_of (magic ++ rest) ≡ order_of magic
order_of-append magic rest whole =
    order-same _ _ _ _ _ _ _ _ (starts-append magic rest (0xd4 ∷ 0xc3 ∷ 0xb2 ∷ 0xa1 ∷ []) whole)
    (starts-append magic rest (0xa1 ∷ 0xb2 ∷ 0xc3 ∷ 0xd4 ∷ []) whole)
    (starts-append magic rest (0x4d ∷ 0x3c ∷ 0xb2 ∷ 0xa1 ∷ []) whole) (starts-append magic rest (0xa1 ∷ 0xb2 ∷ 0x3c ∷ 0x4d ∷ []) whole)

by_order : (bytes : List ℕ) (order : Option ByteOrder) → 4 ≤ length bytes → order_of bytes ≡ order → classic_records_of bytes ≡ behind_magic order bytes
unfolding classic_records_of
by_order bytes order whole e =
    cond-false (nat_lt (length bytes) 4) _ _ (le-ltb (length bytes) 4 whole) ∙ ap (λ (o : Option ByteOrder). behind_magic o bytes) e

by_told : (bytes : List ℕ) (order : Option ByteOrder) → 4 ≤ length bytes → order_of bytes ≡ order → header_fault bytes ≡ classic_fault_behind order bytes
by_told bytes order whole e =
    cond-false (nat_lt (length bytes) 4) _ _ (le-ltb (length bytes) 4 whole) ∙ ap (λ (o : Option ByteOrder). classic_fault_behind o bytes) e

-- fewer bytes than a magic
pub header_fault-cut : (bytes : List ℕ) → length bytes < 4 → header_fault bytes ≡ Some Cut
header_fault-cut bytes short = cond-true (nat_lt (length bytes) 4) _ _ (lt-ltb (length bytes) 4 short)

-- no magic
pub header_fault-other : (magic rest : List ℕ) → length magic ≡ 4 → order_of magic ≡ None → header_fault (magic ++ rest) ≡ Some NotPcap
header_fault-other magic rest whole none = by_told (magic ++ rest) None (omega (arith, length-append magic rest)) (order_of-append magic rest whole ∙ none)

-- the fault of a file header is the capture's
fault_shown : (short : Bool) (told : Option ByteOrder) (bytes : List ℕ) (fault : Fault)
    → (if short then Some Cut else classic_fault_behind told bytes) ≡ Some fault
    → (if short then no_record (Some Cut) else behind_magic told bytes) ≡ no_record (Some fault)
fault_shown true told bytes fault is = ap no_record is
fault_shown false None bytes fault is = ap no_record is
fault_shown false (Some order) bytes fault is = ap (λ (found : Option Fault). after_header found order bytes) is

pub records_of-fault : (bytes : List ℕ) (fault : Fault) → header_fault bytes ≡ Some fault → classic_records_of bytes ≡ no_record (Some fault)
unfolding classic_records_of
records_of-fault bytes fault is = fault_shown (nat_lt (length bytes) 4) (order_of bytes) bytes fault is

after_header-same : (fault : Option Fault) (order : ByteOrder) (xs ys : List ℕ) → drop 24 xs ≡ drop 24 ys
    → after_header fault order xs ≡ after_header fault order ys
after_header-same (Some fault) order xs ys e = refl
after_header-same None order xs ys e = ap (records_in order) e

-- what stands in a magic of a known order counts for nothing
any_magic : (order : ByteOrder) (magic rest : List ℕ) → length magic ≡ 4
    → behind_magic (Some order) (magic ++ rest) ≡ behind_magic (Some order) (magic_in order ++ rest)
any_magic Little (a ∷ b ∷ c ∷ d ∷ []) rest whole = after_header-same (fields_fault Little (a ∷ b ∷ c ∷ d ∷ rest)) Little
    (a ∷ b ∷ c ∷ d ∷ rest) (magic_in Little ++ rest) refl
any_magic Big (a ∷ b ∷ c ∷ d ∷ []) rest whole = after_header-same (fields_fault Big (a ∷ b ∷ c ∷ d ∷ rest)) Big (a ∷ b ∷ c ∷ d ∷ rest)
    (magic_in Big ++ rest) refl
any_magic order _ rest whole = absurd (omega arith)

fields_alike : (order : ByteOrder) (magic rest : List ℕ) → length magic ≡ 4 → fields_fault order (magic ++ rest) ≡ fault_of_fields order rest
fields_alike Little (a ∷ b ∷ c ∷ d ∷ []) rest whole = refl
fields_alike Big (a ∷ b ∷ c ∷ d ∷ []) rest whole = refl
fields_alike order _ rest whole = absurd (omega arith)

by_form : (order : ByteOrder) (bytes : List ℕ) → behind_magic_in order bytes ≡ behind_magic (Some order) (magic_in order ++ bytes)
by_form Little bytes = by_order (magic_in Little ++ bytes) (Some Little) (omega arith) refl
by_form Big bytes = by_order (magic_in Big ++ bytes) (Some Big) (omega arith) refl

-- behind each magic of an order the bytes hold the same
pub records_of-told : (order : ByteOrder) (magic rest : List ℕ) → IsMagicOf order magic → classic_records_of (magic ++ rest) ≡ behind_magic_in order rest
records_of-told order magic rest is =
    let whole = is.whole in
    by_order (magic ++ rest) (Some order) (omega (arith, length-append magic rest)) (order_of-append magic rest whole ∙ is.tells)
    ∙ any_magic order magic rest whole ∙ sym (by_form order rest)

pub header_fault-told : (order : ByteOrder) (magic rest : List ℕ) → IsMagicOf order magic → header_fault (magic ++ rest) ≡ fault_of_fields order rest
header_fault-told order magic rest is =
    let whole = is.whole in
    by_told (magic ++ rest) (Some order) (omega (arith, length-append magic rest)) (order_of-append magic rest whole ∙ is.tells)
    ∙ fields_alike order magic rest whole

-- ---- the fields behind the magic

with_magic : (order : ByteOrder) (bytes : List ℕ) → length (magic_in order ++ bytes) ≡ 4 + length bytes
with_magic Little bytes = omega arith
with_magic Big bytes = omega arith

fields_at : (order : ByteOrder) (bytes : List ℕ) → drop 4 (magic_in order ++ bytes) ≡ bytes
fields_at Little bytes = refl
fields_at Big bytes = refl

link_at : (order : ByteOrder) (bytes : List ℕ) → drop 20 (magic_in order ++ bytes) ≡ drop 16 bytes
link_at Little bytes = refl
link_at Big bytes = refl

records_at : (order : ByteOrder) (bytes : List ℕ) → drop 24 (magic_in order ++ bytes) ≡ drop 20 bytes
records_at Little bytes = refl
records_at Big bytes = refl

by_fields : (order : ByteOrder) (bytes : List ℕ) (fault : Option Fault) → fields_fault order (magic_in order ++ bytes) ≡ fault
    → behind_magic_in order bytes ≡ after_header fault order (magic_in order ++ bytes)
by_fields order bytes fault e = by_form order bytes ∙ ap (λ (f : Option Fault). after_header f order (magic_in order ++ bytes)) e

-- fewer bytes than the fields
pub fault_of_fields-cut : (order : ByteOrder) (bytes : List ℕ) → length bytes < 20 → fault_of_fields order bytes ≡ Some Cut
fault_of_fields-cut order bytes short =
    cond-true (nat_lt (length (magic_in order ++ bytes)) 24) _ _ (lt-ltb (length (magic_in order ++ bytes)) 24 (omega (arith, with_magic order bytes)))

version-append : (order : ByteOrder) (fields rest : List ℕ) → length fields ≡ 20
    → number order 2 (drop 4 (magic_in order ++ (fields ++ rest))) ≡ number order 2 fields
version-append order fields rest whole = ap (number order 2) (fields_at order (fields ++ rest)) ∙ number-append order 2 fields rest (omega arith)

link-append : (order : ByteOrder) (fields rest : List ℕ) → length fields ≡ 20
    → number order 4 (drop 20 (magic_in order ++ (fields ++ rest))) ≡ number order 4 (drop 16 fields)
link-append order fields rest whole = ap (number order 4) (link_at order (fields ++ rest)) ∙ number_at-append order 16 4 fields rest (omega arith)

-- the fault of fields, by their tests
version_wrong : (short version link : Bool) → short ≡ false → version ≡ false
    → (if short then Some Cut else if not version then Some Version else if not link then Some LinkType else None) ≡ Some Version
version_wrong short version link p q = rw (p, q) refl

link_wrong : (short version link : Bool) → short ≡ false → version ≡ true → link ≡ false
    → (if short then Some Cut else if not version then Some Version else if not link then Some LinkType else None) ≡ Some LinkType
link_wrong short version link p q r = rw (p, q, r) refl

none_wrong : (short version link : Bool) → short ≡ false → version ≡ true → link ≡ true
    → (if short then Some Cut else if not version then Some Version else if not link then Some LinkType else None) ≡ None
none_wrong short version link p q r = rw (p, q, r) refl

long_enough : (order : ByteOrder) (fields rest : List ℕ) → length fields ≡ 20 → nat_lt (length (magic_in order ++ (fields ++ rest))) 24 ≡ false
long_enough order fields rest whole =
    le-ltb (length (magic_in order ++ (fields ++ rest))) 24 (omega (arith, with_magic order (fields ++ rest), length-append fields rest))

-- another version
pub fault_of_fields-version : (order : ByteOrder) (fields rest : List ℕ) → length fields ≡ 20 → number order 2 fields ≢ 2
    → fault_of_fields order (fields ++ rest) ≡ Some Version
fault_of_fields-version order fields rest whole other =
    let version = ap (λ (n : ℕ). n == 2) (version-append order fields rest whole) ∙ ne_eqb (number order 2 fields) 2 other in
    version_wrong _ _ _ (long_enough order fields rest whole) version

-- another link type
pub fault_of_fields-link : (order : ByteOrder) (fields rest : List ℕ) → length fields ≡ 20 → number order 2 fields ≡ 2
    → number order 4 (drop 16 fields) % 65536 ≢ 1
    → fault_of_fields order (fields ++ rest) ≡ Some LinkType
fault_of_fields-link order fields rest whole two other =
    let version = ap (λ (n : ℕ). n == 2) (version-append order fields rest whole) ∙ eq-eqb (number order 2 fields) 2 two in
    let link = ap (λ (n : ℕ). n % 65536 == 1) (link-append order fields rest whole) ∙ ne_eqb (number order 4 (drop 16 fields) % 65536) 1 other in
    link_wrong _ _ _ (long_enough order fields rest whole) version link

-- a good header
pub behind_magic-good : (order : ByteOrder) (fields rest : List ℕ) → length fields ≡ 20 → number order 2 fields ≡ 2
    → number order 4 (drop 16 fields) % 65536 ≡ 1
    → behind_magic_in order (fields ++ rest) ≡ records_in order rest
behind_magic-good order fields rest whole two ethernet =
    let version = ap (λ (n : ℕ). n == 2) (version-append order fields rest whole) ∙ eq-eqb (number order 2 fields) 2 two in
    let link = ap (λ (n : ℕ). n % 65536 == 1) (link-append order fields rest whole) ∙ eq-eqb (number order 4 (drop 16 fields) % 65536) 1 ethernet in
    by_fields order (fields ++ rest) None (none_wrong _ _ _ (long_enough order fields rest whole) version link)
    ∙ ap (records_in order) (records_at order (fields ++ rest) ∙ drop_at fields rest 20 whole)
