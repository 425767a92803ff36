-- A longer capture's records go on from a shorter one's: the classic form.
use Rattle.std.proofs.Common.{◌≡◌, ◌≢◌, ℕ, zero, suc, ◌%◌, ◌<◌, ◌≤◌, nat_lt, nat_eq, ◌==◌, not, Bool, true, false, List, []}
use Rattle.std.proofs.Common.{◌∷◌, ◌++◌, length, take, drop, Option, Some, None, refl, sym, ap, subst, ◌∙◌, arith, ⊎_elim}
use Rattle.std.proofs.{Common.{append_assoc, length-append, length-drop, lt-ltb, le-ltb, if◌then◌else◌}, lemmas.Bool.{cases_lt, cond-true, cond-false}}
use Rattle.std.{proofs.lemmas.List.{drop-append-le, length-take-le, take-append-drop, take-append-le}, specs.List.{starts_with}}
use Rattle.zr_kinds.specs.{Limits.{longest_record}, declared.fault.Fault.{Fault, TheVariants.{Cut, LinkType, LongRecord, NotPcap, TooManyFlows, Version}}}
use Rattle.pcap_reader.specs.declared.order.ByteOrder.{ByteOrder}
use Rattle.pcap_reader.specs.Records.{Captured, Records, after_header, behind_magic, classic_captured_len, fields_fault, no_record, number, order_of}
use Rattle.pcap_reader.specs.Records.{classic_original_len, records_in, classic_records_of, with_record}
use Rattle.pcap_reader.proofs.RecordLaws.{number_at-append, records_in-bodiless, records_in-headless, records_in-long, records_in-none, records_in-whole}
use Rattle.pcap_reader.proofs.HeaderLaws.{order-same as order-alike}

-- ---- records

-- The later records go on behind the first ones, and no flow too many is what ended those.
pub record GoOn (first later : Records) : Type 0 where
  pub more : List Captured
  pub all : later.all ≡ first.all ++ more
  pub kind : first.fault ≢ Some TooManyFlows

pub no-first : (fault : Option Fault) (first later : Records) → first ≡ no_record fault → fault ≢ Some TooManyFlows → GoOn first later
no-first fault first later is kind = record {
  more = later.all;
  all = ap (λ (r : Records). r.all ++ later.all) (sym is);
  kind = λ many. kind (sym (ap (λ (r : Records). r.fault) is) ∙ many);
}

pub one-first : (frame : List ℕ) (original : ℕ) (first later firsts laters : Records) → first ≡ with_record frame original firsts
    → later ≡ with_record frame original laters → GoOn firsts laters → GoOn first later
one-first frame original first later firsts laters first_is later_is go =
    let one : Captured = record { frame = frame; original = original } in
    record {
      more = go.more;
      all = ap (λ (r : Records). r.all) later_is ∙ ap (λ (rest : List Captured). one ∷ rest) go.all ∙ ap (λ (r : Records). r.all ++ go.more) (sym first_is);
      kind = λ many. go.kind (sym (ap (λ (r : Records). r.fault) first_is) ∙ many);
    }

-- behind a whole header, where it is so for what follows its record
behind-header : (order : ByteOrder) (header body rest : List ℕ) → length header ≡ 16
    → ((tail : List ℕ) → length tail ≤ length body → GoOn (records_in order tail) (records_in order (tail ++ rest)))
    → GoOn (records_in order (header ++ body)) (records_in order ((header ++ body) ++ rest))
behind-header order header body rest whole go = ⊎_elim
    (λ (long : longest_record < classic_captured_len order header). no-first (Some LongRecord) _ _ (records_in-long order header body whole long) (λ e. cc))
    (λ (fits : classic_captured_len order header ≤ longest_record). ⊎_elim
    (λ (short : length body < classic_captured_len order header). no-first (Some Cut) _ _ (records_in-bodiless order header body whole fits short) (λ e. cc))
    (λ (enough : classic_captured_len order header ≤ length body).
    let n : ℕ = classic_captured_len order header in
    let frame : List ℕ = take n body in
    let tail : List ℕ = drop n body in
    let size : classic_captured_len order header ≡ length frame = sym (length-take-le n body enough) in
    let parts : header ++ body ≡ (header ++ frame) ++ tail =
    ap (λ l. header ++ l) (sym (take-append-drop n body)) ∙ sym (append_assoc header frame tail) in
    let later : (header ++ body) ++ rest ≡ (header ++ frame) ++ (tail ++ rest) =
    ap (λ l. l ++ rest) parts ∙ append_assoc (header ++ frame) tail rest in
    one-first frame (classic_original_len order header) _ _ (records_in order tail) (records_in order (tail ++ rest))
    (ap (records_in order) parts ∙ records_in-whole order header frame tail whole size (omega (arith, size, fits)))
    (ap (records_in order) later ∙ records_in-whole order header frame (tail ++ rest) whole size (omega (arith, size, fits)))
    (go tail (omega (arith, length-drop n body))))
    (cases_lt (length body) (classic_captured_len order header)))
    (cases_lt longest_record (classic_captured_len order header))

records-go : (order : ByteOrder) (n : ℕ) (bytes rest : List ℕ) → length bytes ≤ n → GoOn (records_in order bytes) (records_in order (bytes ++ rest))
records-go order n [] rest few = no-first None _ _ (records_in-none order) (λ e. cc)
records-go order zero (b ∷ bs) rest few = absurd (omega arith)
records-go order (suc n) (b ∷ bs) rest few = ⊎_elim
    (λ (short : length (b ∷ bs) < 16). no-first (Some Cut) _ _ (records_in-headless order (b ∷ bs) (omega arith) short) (λ e. cc))
    (λ (whole : 16 ≤ length (b ∷ bs)).
    subst (λ bytes. GoOn (records_in order bytes) (records_in order (bytes ++ rest))) (take-append-drop 16 (b ∷ bs))
    (behind-header order (take 16 (b ∷ bs)) (drop 16 (b ∷ bs)) rest (length-take-le 16 (b ∷ bs) whole)
    (λ tail fewer. records-go order n tail rest (omega (arith, length-drop 16 (b ∷ bs))))))
    (cases_lt (length (b ∷ bs)) 16)

-- ---- the file header

starts-same : (bytes rest form : List ℕ) → length form ≤ length bytes → starts_with nat_eq (bytes ++ rest) form ≡ starts_with nat_eq bytes form
starts-same bytes rest form enough =
    let front : take (length form) (bytes ++ rest) ≡ take (length form) bytes = take-append-le (length form) bytes rest enough in
    rw front refl

order-same : (bytes rest : List ℕ) → 4 ≤ length bytes → order_of (bytes ++ rest) ≡ order_of bytes
order-same bytes rest enough = order-alike _ _ _ _ _ _ _ _
    (starts-same bytes rest (0xd4 ∷ 0xc3 ∷ 0xb2 ∷ 0xa1 ∷ []) enough) (starts-same bytes rest (0xa1 ∷ 0xb2 ∷ 0xc3 ∷ 0xd4 ∷ []) enough)
    (starts-same bytes rest (0x4d ∷ 0x3c ∷ 0xb2 ∷ 0xa1 ∷ []) enough) (starts-same bytes rest (0xa1 ∷ 0xb2 ∷ 0x3c ∷ 0x4d ∷ []) enough)

-- what is wrong with the fields, by their tests
fault_by : Bool → Bool → Bool → Option Fault
fault_by short version link = if short then Some Cut else if not version then Some Version else if not link then Some LinkType else None

fields-by : (order : ByteOrder) (bytes : List ℕ) → fields_fault order bytes
    ≡ fault_by (nat_lt (length bytes) 24) (number order 2 (drop 4 bytes) == 2) (number order 4 (drop 20 bytes) % 65536 == 1)
unfolding fault_by
fields-by order bytes = refl

by-kind : (short version link : Bool) → fault_by short version link ≢ Some TooManyFlows
unfolding fault_by
by-kind true version link = λ e. cc
by-kind false false link = λ e. cc
by-kind false true false = λ e. cc
by-kind false true true = λ e. cc

fields-same : (order : ByteOrder) (bytes rest : List ℕ) → 24 ≤ length bytes → fields_fault order (bytes ++ rest) ≡ fields_fault order bytes
fields-same order bytes rest enough =
    let size = length-append bytes rest in
    let long : nat_lt (length (bytes ++ rest)) 24 ≡ nat_lt (length bytes) 24 =
    le-ltb (length (bytes ++ rest)) 24 (omega (arith, size, enough)) ∙ sym (le-ltb (length bytes) 24 enough) in
    let version : number order 2 (drop 4 (bytes ++ rest)) ≡ number order 2 (drop 4 bytes) = number_at-append order 4 2 bytes rest (omega (arith, enough)) in
    let link : number order 4 (drop 20 (bytes ++ rest)) ≡ number order 4 (drop 20 bytes) = number_at-append order 20 4 bytes rest (omega (arith, enough)) in
    fields-by order (bytes ++ rest)
    ∙ ap (λ s. fault_by s (number order 2 (drop 4 (bytes ++ rest)) == 2) (number order 4 (drop 20 (bytes ++ rest)) % 65536 == 1)) long
    ∙ ap (λ v. fault_by (nat_lt (length bytes) 24) (v == 2) (number order 4 (drop 20 (bytes ++ rest)) % 65536 == 1)) version
    ∙ ap (λ l. fault_by (nat_lt (length bytes) 24) (number order 2 (drop 4 bytes) == 2) (l % 65536 == 1)) link
    ∙ sym (fields-by order bytes)

-- behind a file header that is as good as this
after-go : (found : Option Fault) (order : ByteOrder) (bytes rest : List ℕ) → 24 ≤ length bytes → found ≢ Some TooManyFlows
    → GoOn (after_header found order bytes) (after_header found order (bytes ++ rest))
after-go (Some fault) order bytes rest enough kind = no-first (Some fault) _ _ refl kind
after-go None order bytes rest enough kind = subst (λ later. GoOn (records_in order (drop 24 bytes)) (records_in order later))
    (sym (drop-append-le 24 bytes rest enough)) (records-go order (length (drop 24 bytes)) (drop 24 bytes) rest (omega arith))

-- of these two orders, or of none
magic-go : (told : Option ByteOrder) (bytes rest : List ℕ) → 24 ≤ length bytes → GoOn (behind_magic told bytes) (behind_magic told (bytes ++ rest))
magic-go None bytes rest enough = no-first (Some NotPcap) _ _ refl (λ e. cc)
magic-go (Some order) bytes rest enough =
    subst (λ found. GoOn (after_header (fields_fault order bytes) order bytes) (after_header found order (bytes ++ rest)))
    (sym (fields-same order bytes rest enough)) (after-go (fields_fault order bytes) order bytes rest enough
    (λ many. by-kind _ _ _ (sym (fields-by order bytes) ∙ many)))

-- too few bytes for a file header
short-magic : (told : Option ByteOrder) (bytes : List ℕ) (later : Records) → length bytes < 24 → GoOn (behind_magic told bytes) later
short-magic None bytes later short = no-first (Some NotPcap) _ _ refl (λ e. cc)
short-magic (Some order) bytes later short =
    let cut : fields_fault order bytes ≡ Some Cut = cond-true (nat_lt (length bytes) 24) _ _ (lt-ltb (length bytes) 24 short) in
    no-first (Some Cut) _ _ (ap (λ found. after_header found order bytes) cut) (λ e. cc)

by-order : (bytes : List ℕ) → 4 ≤ length bytes → classic_records_of bytes ≡ behind_magic (order_of bytes) bytes
unfolding classic_records_of
by-order bytes enough = cond-false (nat_lt (length bytes) 4) _ _ (le-ltb (length bytes) 4 enough)

few-bytes : (bytes : List ℕ) → length bytes < 4 → classic_records_of bytes ≡ no_record (Some Cut)
unfolding classic_records_of
few-bytes bytes few = cond-true (nat_lt (length bytes) 4) _ _ (lt-ltb (length bytes) 4 few)

pub classic-goes : (bytes rest : List ℕ) → GoOn (classic_records_of bytes) (classic_records_of (bytes ++ rest))
classic-goes bytes rest = ⊎_elim
    (λ (few : length bytes < 4). no-first (Some Cut) _ _ (few-bytes bytes few) (λ e. cc))
    (λ (enough : 4 ≤ length bytes).
    subst (λ first. GoOn first (classic_records_of (bytes ++ rest))) (sym (by-order bytes enough)) (⊎_elim
    (λ (short : length bytes < 24). short-magic (order_of bytes) bytes (classic_records_of (bytes ++ rest)) short)
    (λ (whole : 24 ≤ length bytes).
    let later : classic_records_of (bytes ++ rest) ≡ behind_magic (order_of bytes) (bytes ++ rest) =
    by-order (bytes ++ rest) (omega (arith, enough, length-append bytes rest))
    ∙ ap (λ told. behind_magic told (bytes ++ rest)) (order-same bytes rest enough) in
    subst (λ all. GoOn (behind_magic (order_of bytes) bytes) all) (sym later) (magic-go (order_of bytes) bytes rest whole))
    (cases_lt (length bytes) 24)))
    (cases_lt (length bytes) 4)
