-- Laws of a block: its first bytes tell what it is, whatever follows them, and what is wrong with it.
use Rattle.std.proofs.Common.{◌≡◌, ◌≢◌, ℕ, ◌+◌, ◌-◌, ◌%◌, ◌<◌, ◌≤◌, nat_lt, ◌==◌, not, Bool, true, false, ◌||◌, List, [], ◌∷◌}
use Rattle.std.proofs.Common.{◌++◌, length, drop, Option, Some, None, if◌then◌else◌, refl, sym, ap, ◌∙◌, arith, length-append, lt-ltb, le-ltb, eq-eqb, ne_eqb}
use Rattle.std.{specs.Option.{unwrap_or}, proofs.{lemmas.Bool.{cond-true, cond-false, ltb-false}, Math.Seq.{drop-append-add}}}
use Rattle.zr_kinds.specs.declared.fault.Fault.{Fault, TheVariants.{Cut, BadBlock}}
use Rattle.pcap_reader.specs.{declared.order.ByteOrder.{ByteOrder, TheVariants.{Little, Big}}, Records.{number, Records, no_record}}
use Rattle.pcap_reader.proofs.RecordLaws.{number-append, number_at-append}
use Rattle.pcapng_reader.specs.declared.kind.Kind.TheVariants.{SectionHeader, InterfaceDescription, EnhancedPacket, SimplePacket, Other}
use Rattle.pcapng_reader.specs.Blocks.{Section, Kind, is_section_header, block_kind_of, begin_len, fixed_len, order_told, order_in, total_len, is_too_many, misfits}
use Rattle.pcapng_reader.specs.Blocks.{fixed_fault, end_fault, or_else, fault_behind, kind_fault, block_fault, section_behind, with_block, after_block}
use Rattle.pcapng_reader.specs.{Blocks.{blocks_behind, blocks_in}, Steps.{IsBegun, MayCome}}

-- ---- what bytes at the front tell, whatever follows them

pub section_header-append : (xs rest : List ℕ) → 4 ≤ length xs → is_section_header (xs ++ rest) ≡ is_section_header xs
section_header-append [] rest long = absurd (omega arith)
section_header-append (a ∷ []) rest long = absurd (omega arith)
section_header-append (a ∷ b ∷ []) rest long = absurd (omega arith)
section_header-append (a ∷ b ∷ c ∷ []) rest long = absurd (omega arith)
section_header-append (a ∷ b ∷ c ∷ d ∷ xs) rest long = refl

pub kind-append : (order : ByteOrder) (xs rest : List ℕ) → 4 ≤ length xs → block_kind_of order (xs ++ rest) ≡ block_kind_of order xs
kind-append order xs rest long = rw (section_header-append xs rest long, number-append order 4 xs rest long) refl

pub order-append : (s : Section) (kind : Kind) (xs rest : List ℕ) → begin_len kind ≤ length xs → order_told s kind (xs ++ rest) ≡ order_told s kind xs
order-append s SectionHeader xs rest long =
    rw (number_at-append Little 8 4 xs rest (omega arith), number_at-append Big 8 4 xs rest (omega arith)) refl
order-append s _ xs rest long = refl

pub eight : (kind : Kind) → 8 ≤ begin_len kind
eight SectionHeader = omega arith
eight _ = omega arith

pub begins_within : (kind : Kind) → begin_len kind ≤ fixed_len kind
begins_within SectionHeader = omega arith
begins_within InterfaceDescription = omega arith
begins_within EnhancedPacket = omega arith
begins_within SimplePacket = omega arith
begins_within Other = omega arith

pub fixed_most : (kind : Kind) → fixed_len kind ≤ 28
fixed_most SectionHeader = omega arith
fixed_most InterfaceDescription = omega arith
fixed_most EnhancedPacket = omega arith
fixed_most SimplePacket = omega arith
fixed_most Other = omega arith

pub begun-append : (s : Section) (kind : Kind) (order : ByteOrder) (total : ℕ) (xs rest : List ℕ) → IsBegun s kind order total xs
    → IsBegun s kind order total (xs ++ rest)
begun-append s kind order total xs rest h =
    let long = h.long in
    let least = eight kind in
    record {
      long = omega (arith, length-append xs rest);
      is = kind-append s.order xs rest (omega arith) ∙ h.is;
      tells = order-append s kind xs rest long ∙ h.tells;
      states = number_at-append order 4 4 xs rest (omega arith) ∙ h.states;
    }

-- and those at the front tell it by themselves
pub begun-front : (s : Section) (kind : Kind) (order : ByteOrder) (total : ℕ) (xs rest : List ℕ) → begin_len kind ≤ length xs
    → IsBegun s kind order total (xs ++ rest)
    → IsBegun s kind order total xs
begun-front s kind order total xs rest long h =
    let least = eight kind in
    record {
      long = long;
      is = sym (kind-append s.order xs rest (omega arith)) ∙ h.is;
      tells = sym (order-append s kind xs rest long) ∙ h.tells;
      states = sym (number_at-append order 4 4 xs rest (omega arith)) ∙ h.states;
    }

-- a total length that fits has room for the last number
pub fits-room : (kind : Kind) (total : ℕ) → misfits kind total ≡ false → fixed_len kind + 4 ≤ total
fits-room kind total fits = by_test (nat_lt total (fixed_len kind + 4)) (not (total % 4 == 0)) refl fits
  where
    by_test : (short odd : Bool) → nat_lt total (fixed_len kind + 4) ≡ short → (short || odd) ≡ false → fixed_len kind + 4 ≤ total
    by_test true odd is fits = absurd cc
    by_test false odd is fits = ltb-false total (fixed_len kind + 4) is

-- ---- the fixed bytes

enhanced-append : (s : Section) (order : ByteOrder) (xs rest : List ℕ) → 28 ≤ length xs
    → fixed_fault s EnhancedPacket order (xs ++ rest) ≡ fixed_fault s EnhancedPacket order xs
enhanced-append s order xs rest long = rw (
  number_at-append order 4 4 xs rest (omega arith),
  number_at-append s.order 8 4 xs rest (omega arith),
  number_at-append s.order 20 4 xs rest (omega arith),
) refl

simple-append : (s : Section) (order : ByteOrder) (xs rest : List ℕ) → 12 ≤ length xs
    → fixed_fault s SimplePacket order (xs ++ rest) ≡ fixed_fault s SimplePacket order xs
simple-append s order xs rest long = rw (
  number_at-append order 4 4 xs rest (omega arith),
  number_at-append s.order 8 4 xs rest (omega arith),
) refl

pub fixed-append : (s : Section) (kind : Kind) (order : ByteOrder) (xs rest : List ℕ) → fixed_len kind ≤ length xs
    → fixed_fault s kind order (xs ++ rest) ≡ fixed_fault s kind order xs
fixed-append s SectionHeader order xs rest long = rw (number_at-append order 12 2 xs rest (omega arith)) refl
fixed-append s InterfaceDescription order xs rest long = refl
fixed-append s EnhancedPacket order xs rest long = enhanced-append s order xs rest long
fixed-append s SimplePacket order xs rest long = simple-append s order xs rest long
fixed-append s Other order xs rest long = refl

pub section_behind-append : (s : Section) (kind : Kind) (xs rest : List ℕ) → fixed_len kind ≤ length xs
    → section_behind s kind (xs ++ rest) ≡ section_behind s kind xs
section_behind-append s SectionHeader xs rest long = rw (order-append s SectionHeader xs rest (omega arith)) refl
section_behind-append s InterfaceDescription xs rest long = rw (
  number_at-append s.order 8 2 xs rest (omega arith),
  number_at-append s.order 12 4 xs rest (omega arith),
) refl
section_behind-append s EnhancedPacket xs rest long = refl
section_behind-append s SimplePacket xs rest long = refl
section_behind-append s Other xs rest long = refl

-- ---- what is wrong with a block

-- too few bytes to tell the order and the total length
pub fault-begin : (s : Section) (kind : Kind) (bytes : List ℕ) → block_kind_of s.order bytes ≡ kind → length bytes < begin_len kind
    → block_fault s bytes ≡ Some Cut
unfolding block_fault
fault-begin s kind bytes is short =
    ap (λ (k : Kind). kind_fault s k bytes) is ∙ cond-true (nat_lt (length bytes) (begin_len kind)) _ _ (lt-ltb (length bytes) (begin_len kind) short)

pub fault-start : (s : Section) (bytes : List ℕ) → length bytes < 8 → block_fault s bytes ≡ Some Cut
fault-start s bytes short =
    let least = eight (block_kind_of s.order bytes) in
    fault-begin s (block_kind_of s.order bytes) bytes refl (omega arith)

by_order : (s : Section) (kind : Kind) (bytes : List ℕ) (told : Option ByteOrder) → block_kind_of s.order bytes ≡ kind → begin_len kind ≤ length bytes
    → order_told s kind bytes ≡ told
    → block_fault s bytes ≡ fault_behind s kind told bytes
unfolding block_fault
by_order s kind bytes told is long tells =
    ap (λ (k : Kind). kind_fault s k bytes) is
    ∙ cond-false (nat_lt (length bytes) (begin_len kind)) _ _ (le-ltb (length bytes) (begin_len kind) long)
    ∙ ap (λ (o : Option ByteOrder). fault_behind s kind o bytes) tells

-- a magic of neither order
pub fault-magic : (s : Section) (kind : Kind) (bytes : List ℕ) → block_kind_of s.order bytes ≡ kind → begin_len kind ≤ length bytes
    → order_told s kind bytes ≡ None
    → block_fault s bytes ≡ Some BadBlock
fault-magic s kind bytes is long tells = by_order s kind bytes None is long tells

module _ (s : Section) (kind : Kind) (order : ByteOrder) (total : ℕ) (bytes : List ℕ) (h : IsBegun s kind order total bytes) where
  judged : Bool → Bool → Option Fault
  judged refused short =
      if refused then Some BadBlock else if short then Some Cut else or_else (fixed_fault s kind order bytes) (end_fault order bytes)

  by_total : (refused short : Bool) → (is_too_many s kind || misfits kind total) ≡ refused → nat_lt (length bytes) (fixed_len kind) ≡ short
      → block_fault s bytes ≡ judged refused short
  unfolding judged
  by_total refused short e f =
      by_order s kind bytes (Some order) h.is h.long h.tells
      ∙ ap (λ (n : ℕ). judged (is_too_many s kind || misfits kind n) (nat_lt (length bytes) (fixed_len kind))) h.states
      ∙ ap (λ (b : Bool). judged b (nat_lt (length bytes) (fixed_len kind))) e ∙ ap (judged refused) f

  -- one block too many, or a total length that can't be
  pub fault-refused : (is_too_many s kind || misfits kind total) ≡ true → block_fault s bytes ≡ Some BadBlock
  unfolding judged
  fault-refused refused = by_total true (nat_lt (length bytes) (fixed_len kind)) refused refl

  may_come : MayCome s kind total → (is_too_many s kind || misfits kind total) ≡ false
  may_come may = rw (may.few, may.fits) refl

  -- too few bytes before a packet's bytes or the options
  pub fault-short : MayCome s kind total → length bytes < fixed_len kind → block_fault s bytes ≡ Some Cut
  unfolding judged
  fault-short may short = by_total false true (may_come may) (lt-ltb (length bytes) (fixed_len kind) short)

  pub fault-fixed : MayCome s kind total → fixed_len kind ≤ length bytes
      → block_fault s bytes ≡ or_else (fixed_fault s kind order bytes) (end_fault order bytes)
  unfolding judged
  fault-fixed may long = by_total false false (may_come may) (le-ltb (length bytes) (fixed_len kind) long)

-- ---- a block behind its first bytes

module _ (s : Section) (kind : Kind) (order : ByteOrder) (total : ℕ) (head : List ℕ) (whole : length head ≡ fixed_len kind)
    (h : IsBegun s kind order total head) (may : MayCome s kind total)
  where
    by_fixed : (found : Option Fault) → fixed_fault s kind order head ≡ found → (more : List ℕ)
        → block_fault s (head ++ more) ≡ or_else found (end_fault order (head ++ more))
    by_fixed found e more =
        fault-fixed s kind order total (head ++ more) (begun-append s kind order total head more h) may (omega (arith, length-append head more))
        ∙ ap (λ (f : Option Fault). or_else f (end_fault order (head ++ more))) (fixed-append s kind order head more (omega arith) ∙ e)

    -- the fixed bytes are wrong
    pub head-fault : (fault : Fault) → fixed_fault s kind order head ≡ Some fault → (more : List ℕ) → block_fault s (head ++ more) ≡ Some fault
    head-fault fault e more = by_fixed (Some fault) e more

    stated : (more : List ℕ) → total_len order (head ++ more) ≡ total
    stated more = let begun = begun-append s kind order total head more h in begun.states

    module _ (good : fixed_fault s kind order head ≡ None) where
      -- the block ends before its total length
      pub head-cut : (more : List ℕ) → fixed_len kind + length more < total → block_fault s (head ++ more) ≡ Some Cut
      head-cut more short =
          by_fixed None good more
          ∙ ap (λ (n : ℕ). if nat_lt (length (head ++ more)) n then Some Cut else if number order 4 (drop (n - 4) (head ++ more)) == n then None else Some BadBlock)
          (stated more)
          ∙ cond-true (nat_lt (length (head ++ more)) total) _ _
          (lt-ltb (length (head ++ more)) total (omega (arith, length-append head more)))

      by_last : (more : List ℕ) (same : Bool) → total ≤ fixed_len kind + length more
          → (number order 4 (drop (total - 4) (head ++ more)) == total) ≡ same
          → block_fault s (head ++ more) ≡ (if same then None else Some BadBlock)
      by_last more same long e =
          by_fixed None good more
          ∙ ap (λ (n : ℕ). if nat_lt (length (head ++ more)) n then Some Cut else if number order 4 (drop (n - 4) (head ++ more)) == n then None else Some BadBlock)
          (stated more)
          ∙ cond-false (nat_lt (length (head ++ more)) total) _ _
          (le-ltb (length (head ++ more)) total (omega (arith, length-append head more)))
          ∙ ap (λ (b : Bool). if b then None else Some BadBlock) e

      -- the last number, behind the captured bytes and so many others
      last_number : (frame tail rest : List ℕ) (count : ℕ) → fixed_len kind + length frame + count + 4 ≡ total → length tail ≡ count + 4
          → number order 4 (drop (total - 4) (head ++ (frame ++ (tail ++ rest)))) ≡ number order 4 (drop count tail)
      last_number frame tail rest count size long =
          let at : total - 4 ≡ length head + (length frame + count) = omega arith in
          ap (λ (n : ℕ). number order 4 (drop n (head ++ (frame ++ (tail ++ rest))))) at
          ∙ ap (number order 4) (drop-append-add head (frame ++ (tail ++ rest)) (length frame + count) ∙ drop-append-add frame (tail ++ rest) count)
          ∙ number_at-append order count 4 tail rest (omega arith)

      module _ (frame tail : List ℕ) (count : ℕ) (size : fixed_len kind + length frame + count + 4 ≡ total) (long : length tail ≡ count + 4) where
        long_enough : (rest : List ℕ) → total ≤ fixed_len kind + length (frame ++ (tail ++ rest))
        long_enough rest = omega (arith, length-append frame (tail ++ rest), length-append tail rest)

        -- another number than the total length at the end
        pub head-other : number order 4 (drop count tail) ≢ total → (rest : List ℕ) → block_fault s (head ++ (frame ++ (tail ++ rest))) ≡ Some BadBlock
        head-other other rest =
            by_last (frame ++ (tail ++ rest)) false (long_enough rest)
            (ap (λ (n : ℕ). n == total) (last_number frame tail rest count size long) ∙ ne_eqb (number order 4 (drop count tail)) total other)

        -- a whole block
        pub head-whole : number order 4 (drop count tail) ≡ total → (rest : List ℕ) → block_fault s (head ++ (frame ++ (tail ++ rest))) ≡ None
        head-whole same rest =
            by_last (frame ++ (tail ++ rest)) true (long_enough rest)
            (ap (λ (n : ℕ). n == total) (last_number frame tail rest count size long) ∙ eq-eqb (number order 4 (drop count tail)) total same)

-- ---- the records of blocks

pub blocks_in-none : (s : Section) → blocks_in s [] ≡ no_record None
unfolding blocks_in blocks_behind
blocks_in-none s = refl

blocks_behind-append : (s : Section) (xs rest : List ℕ) → blocks_behind s (length xs) (xs ++ rest) ≡ blocks_in s rest
unfolding blocks_in blocks_behind
blocks_behind-append s [] rest = refl
blocks_behind-append s (x ∷ xs) rest = blocks_behind-append s xs rest

-- a block's fault is that of the bytes from there on
pub blocks_in-fault : (s : Section) (bytes : List ℕ) (fault : Fault) → 0 < length bytes → block_fault s bytes ≡ Some fault
    → blocks_in s bytes ≡ no_record (Some fault)
unfolding blocks_in blocks_behind
blocks_in-fault s [] fault some e = absurd (omega arith)
blocks_in-fault s (byte ∷ bytes) fault some e =
    let kind = block_kind_of s.order (byte ∷ bytes) in
    ap (λ (f : Option Fault). after_block f s kind (byte ∷ bytes)
    (blocks_behind (section_behind s kind (byte ∷ bytes)) (total_len (order_in s kind (byte ∷ bytes)) (byte ∷ bytes) - 1) bytes)) e

-- a block without a fault
blocks_in-step : (s now : Section) (kind : Kind) (order : ByteOrder) (skip byte : ℕ) (bytes : List ℕ) → block_fault s (byte ∷ bytes) ≡ None
    → block_kind_of s.order (byte ∷ bytes) ≡ kind → section_behind s kind (byte ∷ bytes) ≡ now → order_told s kind (byte ∷ bytes) ≡ Some order
    → total_len order (byte ∷ bytes) - 1 ≡ skip
    → blocks_in s (byte ∷ bytes) ≡ with_block s kind (byte ∷ bytes) (blocks_behind now skip bytes)
unfolding blocks_in blocks_behind
blocks_in-step s now kind order skip byte bytes good is behind tells total =
    let all = byte ∷ bytes in
    ap (λ (f : Option Fault). after_block f s (block_kind_of s.order all) all
    (blocks_behind (section_behind s (block_kind_of s.order all) all) (total_len (order_in s (block_kind_of s.order all) all) all - 1) bytes)) good
    ∙ ap (λ (k : Kind). with_block s k all (blocks_behind (section_behind s k all) (total_len (order_in s k all) all - 1) bytes)) is
    ∙ ap (λ (n : Section). with_block s kind all (blocks_behind n (total_len (order_in s kind all) all - 1) bytes)) behind
    ∙ ap (λ (o : Option ByteOrder). with_block s kind all (blocks_behind now (total_len (unwrap_or o s.order) all - 1) bytes)) tells
    ∙ ap (λ (n : ℕ). with_block s kind all (blocks_behind now n bytes)) total

-- a whole block, and what follows it
pub blocks_in-whole : (s now : Section) (kind : Kind) (order : ByteOrder) (total : ℕ) (block rest : List ℕ)
    → IsBegun s kind order total (block ++ rest) → block_fault s (block ++ rest) ≡ None → section_behind s kind (block ++ rest) ≡ now
    → length block ≡ total → 0 < total
    → blocks_in s (block ++ rest) ≡ with_block s kind (block ++ rest) (blocks_in now rest)
blocks_in-whole s now kind order total [] rest h good behind size some = absurd (omega arith)
blocks_in-whole s now kind order total (byte ∷ bytes) rest h good behind size some =
    let states = h.states in
    blocks_in-step s now kind order (length bytes) byte (bytes ++ rest) good h.is behind h.tells (omega arith)
    ∙ ap (λ (others : Records). with_block s kind (byte ∷ (bytes ++ rest)) others) (blocks_behind-append now bytes rest)
