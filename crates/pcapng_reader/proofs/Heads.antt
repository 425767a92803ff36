-- What the first bytes of a block tell.
use Rattle.std.proofs.Common.{◌≡◌, ℕ, ◌+◌, ◌-◌, ◌<◌, ◌≤◌, List, ◌++◌, length, take, drop, Bool, true, false, ◌||◌, Option, Some, None, refl, sym}
use Rattle.std.proofs.Common.{ap, ◌∙◌, subst, arith, append_assoc, length-append, option_copied, Bor, length-take-le, length-drop, Ok, Err, ⊎_elim}
use Rattle.std.{specs.{Option.{ok_or}, Slice.{IsItemAt}, List.{slice_get}}, proofs.lemmas.{Option.{slice_get_past, slice_get_read}, Bool.{cases_lt, cond-true}}}
use Rattle.std.proofs.lemmas.List.{take-append-drop, take-append-le, take_all}
use Rattle.zr_kinds.specs.declared.fault.Fault.{Fault, TheVariants.{Cut, BadBlock}}
use Rattle.pcap_reader.{specs.{declared.order.ByteOrder.{ByteOrder}, Records.{number}}, proofs.RecordLaws.{number_at-append}}
use Rattle.pcapng_reader.specs.Blocks.{Section, Kind, is_section_header, block_kind_of, begin_len, fixed_len, order_told, total_len, is_too_many, misfits, block_fault}
use Rattle.pcapng_reader.specs.{declared.{kind.Kind.TheVariants.{SectionHeader}, head.Head.{Head}}, Steps.{IsBegun, MayCome, IsHead, head_bytes, IsCutBefore}}
use Rattle.pcapng_reader.proofs.BlockLaws.{eight, begins_within, fixed_most, kind-append, order-append, begun-append, begun-front, fault-begin, fault-magic}
use Rattle.pcapng_reader.proofs.BlockLaws.{fault-refused, fault-short, fault-start, section_header-append}

-- ---- parts of lists

pub item_found : {X : Type 0} (xs : List X) (i : ℕ) (r : Option (Bor X)) → IsItemAt xs i r → option_copied r ≡ slice_get xs i
item_found xs i None h = sym (slice_get_past xs i h.3)
item_found xs i (Some x) h = sym (slice_get_read xs (length xs) i x.now refl h.3.0 h.1)

-- a number in the first bytes
pub number_front : (order : ByteOrder) (at width n : ℕ) (bytes : List ℕ) → n ≤ length bytes → at + width ≤ n
    → number order width (drop at (take n bytes)) ≡ number order width (drop at bytes)
number_front order at width n bytes size within =
    let whole = length-take-le n bytes size in
    sym (number_at-append order at width (take n bytes) (drop n bytes) (omega arith))
    ∙ ap (λ (l : List ℕ). number order width (drop at l)) (take-append-drop n bytes)

-- a number as it is read of an array, in the array's first bytes
pub number_of : (order : ByteOrder) (at width n : ℕ) (bytes : List ℕ) (rest m : ℕ) → length bytes ≡ at + rest → n ≤ length bytes → at + width ≤ n
    → m ≡ number order width (take rest (drop at bytes))
    → m ≡ number order width (drop at (take n bytes))
number_of order at width n bytes rest m size within fits is =
    is ∙ ap (number order width) (take_all rest (drop at bytes) (omega (arith, length-drop at bytes))) ∙ sym (number_front order at width n bytes within fits)

-- the first bytes of more of the first bytes
pub take_front : (n m : ℕ) (bytes : List ℕ) → n ≤ m → m ≤ length bytes → take n (take m bytes) ≡ take n bytes
take_front n m bytes within size =
    let whole = length-take-le m bytes size in
    sym (take-append-le n (take m bytes) (drop m bytes) (omega arith)) ∙ ap (take n) (take-append-drop m bytes)

pub front_then : (n m : ℕ) (bytes : List ℕ) → n ≤ m → m ≤ length bytes → take n bytes ++ drop n (take m bytes) ≡ take m bytes
front_then n m bytes within size =
    ap (λ (l : List ℕ). l ++ drop n (take m bytes)) (sym (take_front n m bytes within size)) ∙ take-append-drop n (take m bytes)

-- ---- tests

pub told_of : (told : Option ByteOrder) (order : ByteOrder) → Ok order ≡ ok_or told BadBlock → told ≡ Some order
told_of (Some told) order is = cc
told_of None order is = absurd cc

pub none_told : (told : Option ByteOrder) (fault : Fault) → Err fault ≡ ok_or told BadBlock → (told ≡ None) × (fault ≡ BadBlock)
none_told (Some told) fault is = absurd cc
none_told None fault is = (refl, cc)

pub may_come : (s : Section) (kind : Kind) (total : ℕ) (refused : Bool) → refused ≡ (is_too_many s kind || misfits kind total) → refused ≡ false
    → MayCome s kind total
may_come s kind total refused is may =
    let both = neither (is_too_many s kind) (misfits kind total) (sym is ∙ may) in record { few = both.0; fits = both.1 }
  where
    neither : (a b : Bool) → (a || b) ≡ false → (a ≡ false) × (b ≡ false)
    neither true b e = absurd cc
    neither false b e = (refl, e)

-- a section header, by its first four bytes
pub kind_of_first : (order : ByteOrder) (first bytes : List ℕ) → length first ≡ 4 → take 4 bytes ≡ first → is_section_header first ≡ true
    → block_kind_of order bytes ≡ SectionHeader
kind_of_first order first bytes four front is =
    let all : bytes ≡ first ++ drop 4 bytes = sym (take-append-drop 4 bytes) ∙ ap (λ (l : List ℕ). l ++ drop 4 bytes) front in
    cond-true (is_section_header bytes) _ _ (ap is_section_header all ∙ section_header-append first (drop 4 bytes) (omega arith) ∙ is)

-- Each shorter front of a block's fixed bytes is cut.
pub head-cuts : (s : Section) (kind : Kind) (order : ByteOrder) (total : ℕ) (head : List ℕ) → length head ≡ fixed_len kind
    → IsBegun s kind order total head → MayCome s kind total → IsCutBefore (block_fault s) head
head-cuts s kind order total head whole h may front more e some = ⊎_elim
    (λ (short : length front < 8). fault-start s front short)
    (λ (long : 8 ≤ length front). ⊎_elim
    (λ (short : length front < begin_len kind). fault-begin s kind front (kind_here long) short)
    (λ (begun : begin_len kind ≤ length front). fault-short s kind order total front
    (begun-front s kind order total front more begun (subst (IsBegun s kind order total) e h)) may
    (omega (arith, whole, ap length e, length-append front more)))
    (cases_lt (length front) (begin_len kind)))
    (cases_lt (length front) 8)
  where
    kind_here : 8 ≤ length front → block_kind_of s.order front ≡ kind
    kind_here long = sym (kind-append s.order front more (omega arith)) ∙ ap (block_kind_of s.order) (sym e) ∙ h.is

pub head_cut : (s : Section) (head : Head) → IsHead s head → IsCutBefore (block_fault s) (head_bytes head)
head_cut s head h = head-cuts s head.kind head.order head.total (head_bytes head) h.whole h.begun h.may

-- ---- a block that begins with eight bytes

module _ (s : Section) (start : List ℕ) (eight_of : length start ≡ 8) where
  -- too few bytes behind them to tell the order
  pub start-cut : (kind : Kind) (more : List ℕ) → kind ≡ block_kind_of s.order start → length more < begin_len kind - 8
      → block_fault s (start ++ more) ≡ Some Cut
  start-cut kind more is short =
      fault-begin s kind (start ++ more) (kind-append s.order start more (omega arith) ∙ sym is) (omega (arith, length-append start more))

  module _ (kind : Kind) (is : kind ≡ block_kind_of s.order start) (bytes : List ℕ) (size : length bytes ≡ 28) (front : take 8 bytes ≡ start) where
    kind_here : block_kind_of s.order bytes ≡ kind
    kind_here =
        ap (block_kind_of s.order) (sym (take-append-drop 8 bytes) ∙ ap (λ (l : List ℕ). l ++ drop 8 bytes) front)
        ∙ kind-append s.order start (drop 8 bytes) (omega arith) ∙ sym is

    begin_fits : begin_len kind ≤ 28
    begin_fits = let within = begins_within kind in let most = fixed_most kind in omega arith

    -- what the array tells
    pub begun_of : (order : ByteOrder) (total : ℕ) → order_told s kind bytes ≡ Some order → total_len order bytes ≡ total
        → IsBegun s kind order total bytes
    begun_of order total tells states = record { long = let fits = begin_fits in omega arith; is = kind_here; tells = tells; states = states }

    -- the bytes that were taken behind the first eight
    module _ (more : List ℕ) (taken : take (begin_len kind) bytes ≡ start ++ more) where
      parts : (rest : List ℕ) → take (begin_len kind) bytes ++ rest ≡ start ++ (more ++ rest)
      parts rest = ap (λ (l : List ℕ). l ++ rest) taken ∙ append_assoc start more rest

      len_here : length (take (begin_len kind) bytes) ≡ begin_len kind
      len_here = let fits = begin_fits in length-take-le (begin_len kind) bytes (omega arith)

      -- fewer of them don't tell the order
      pub begin-cuts : IsCutBefore (λ xs. block_fault s (start ++ xs)) more
      begin-cuts part rest e some =
          let here = len_here in
          start-cut kind part is
          (omega (arith, here, ap length taken, length-append start more, ap length e, length-append part rest))

      -- a magic of neither order
      pub magic-bad : order_told s kind bytes ≡ None → (rest : List ℕ) → block_fault s (start ++ (more ++ rest)) ≡ Some BadBlock
      magic-bad tells rest =
          let head = take (begin_len kind) bytes in
          let least = eight kind in
          let here = len_here in
          let whole = take-append-drop (begin_len kind) bytes in
          let is_kind = sym (kind-append s.order head (drop (begin_len kind) bytes) (omega arith)) ∙ ap (block_kind_of s.order) whole ∙ kind_here in
          let none = sym (order-append s kind head (drop (begin_len kind) bytes) (omega arith)) ∙ ap (order_told s kind) whole ∙ tells in
          ap (block_fault s) (sym (parts rest))
          ∙ fault-magic s kind (head ++ rest) (kind-append s.order head rest (omega arith) ∙ is_kind) (omega (arith, length-append head rest))
          (order-append s kind head rest (omega arith) ∙ none)

      module _ (order : ByteOrder) (total : ℕ) (h : IsBegun s kind order total bytes) where
        begun_here : IsBegun s kind order total (take (begin_len kind) bytes)
        begun_here =
            let here = len_here in
            begun-front s kind order total (take (begin_len kind) bytes) (drop (begin_len kind) bytes) (omega arith)
            (subst (IsBegun s kind order total) (sym (take-append-drop (begin_len kind) bytes)) h)

        begun_more : (rest : List ℕ) → IsBegun s kind order total (start ++ (more ++ rest))
        begun_more rest =
            subst (IsBegun s kind order total) (parts rest) (begun-append s kind order total (take (begin_len kind) bytes) rest begun_here)

        -- one block too many, or a total length that can't be
        pub total-bad : (is_too_many s kind || misfits kind total) ≡ true → (rest : List ℕ) → block_fault s (start ++ (more ++ rest)) ≡ Some BadBlock
        total-bad refused rest = fault-refused s kind order total (start ++ (more ++ rest)) (begun_more rest) refused

        -- too few bytes behind them
        pub more-cut : MayCome s kind total → (rest : List ℕ) → length rest < fixed_len kind - begin_len kind
            → block_fault s (start ++ (more ++ rest)) ≡ Some Cut
        more-cut may rest short =
            let here = len_here in
            fault-short s kind order total (start ++ (more ++ rest)) (begun_more rest) may
            (omega (arith, ap length (sym (parts rest)), length-append (take (begin_len kind) bytes) rest))

    -- the array, where bytes behind those were read
    module _ (order : ByteOrder) (total : ℕ) (h : IsBegun s kind order total bytes) (later : List ℕ) (len : length later ≡ 28)
        (same : take (begin_len kind) later ≡ take (begin_len kind) bytes)
      where
        fixed_fits : fixed_len kind ≤ 28
        fixed_fits = fixed_most kind

        pub later_whole : length (take (fixed_len kind) later) ≡ fixed_len kind
        later_whole = let fits = fixed_fits in length-take-le (fixed_len kind) later (omega arith)

        pub later_begun : IsBegun s kind order total (take (fixed_len kind) later)
        later_begun =
            let fits = fixed_fits in
            let within = begins_within kind in
            let begun = begin_fits in
            let here = length-take-le (begin_len kind) bytes (omega arith) in
            let first = begun-front s kind order total (take (begin_len kind) bytes) (drop (begin_len kind) bytes) (omega arith)
            (subst (IsBegun s kind order total) (sym (take-append-drop (begin_len kind) bytes)) h) in
            subst (IsBegun s kind order total) (front_then (begin_len kind) (fixed_len kind) later within (omega arith))
            (begun-append s kind order total (take (begin_len kind) later) (drop (begin_len kind) (take (fixed_len kind) later))
            (subst (IsBegun s kind order total) (sym same) first))
