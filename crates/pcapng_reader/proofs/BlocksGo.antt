-- A longer capture's records go on from a shorter one's: blocks, and either form.
use Rattle.std.proofs.Common.{◌≡◌, ◌≢◌, ℕ, zero, suc, ◌+◌, ◌-◌, ◌<◌, ◌≤◌, nat_lt, ◌==◌, not, Bool, true, false, ◌||◌}
use Rattle.std.proofs.Common.{List, [], ◌∷◌, ◌++◌, length, take, drop, Option, Some, None, refl, sym, ap, subst, ◌∙◌, arith, ⊎_elim, inl, inr, ◌⊎◌}
use Rattle.std.proofs.{Common.{append_assoc, length-append, length-drop, if◌then◌else◌}, lemmas.Bool.{cases_lt, cases_eq, cond_both, cond-true, cond-false, ltb-false}}
use Rattle.std.proofs.lemmas.List.{length-take-le, take-append-drop}
use Rattle.zr_kinds.specs.{Limits.{longest_record}, declared.fault.Fault.{Fault, TheVariants.{LinkType, Cut, LongRecord, BadBlock, TooManyFlows}}}
use Rattle.pcap_reader.specs.{declared.order.ByteOrder.{ByteOrder}, Records.{number, Records, with_record}}
use Rattle.pcap_reader.specs.Records as classic_form
use Rattle.pcapng_reader.specs.declared.kind.Kind.TheVariants.{SectionHeader, InterfaceDescription, EnhancedPacket, SimplePacket, Other}
use Rattle.pcapng_reader.specs.Blocks.{Section, Kind, Interface, is_section_header, block_kind_of, begin_len, fixed_len, is_packet, order_told, total_len}
use Rattle.pcapng_reader.specs.Blocks.{is_too_many, misfits, padded, packet_fault, interface_of, captured_len, original_len, fixed_fault, end_fault, or_else}
use Rattle.pcapng_reader.specs.{Blocks.{fault_behind, block_fault, section_behind, blocks_in, no_section}, Records.{records_of}, Steps.{IsBegun, MayCome}}
use Rattle.pcapng_reader.proofs.BlockLaws.{section_header-append, begins_within, begun-front, fault-begin, fault-magic, fault-refused, fault-short}
use Rattle.pcapng_reader.proofs.{BlockLaws.{head-fault, head-cut, head-other, fits-room, blocks_in-none, blocks_in-fault}, Heads.{may_come}}
use Rattle.pcapng_reader.proofs.{WholeBlocks.{packet_keeps, block-passed, block-record}, Forms.{opening-short}, Goings.{opening-records}}
use Rattle.pcapng_reader.proofs.ClassicGoes.{GoOn, no-first, one-first, classic-goes}

-- ---- a block's fault is no flow too many

abbrev NotMany : Option Fault → Type 0
NotMany found = found ≢ Some TooManyFlows

packet-kind : (interface : Option Interface) (captured room : ℕ) → NotMany (packet_fault interface captured room)
packet-kind None captured room = λ e. cc
packet-kind (Some i) captured room = cond_both (not (i.link_type == 1)) _ _ NotMany (λ _. λ e. cc)
    (λ _. cond_both (nat_lt longest_record captured) _ _ NotMany (λ _. λ e. cc)
    (λ _. cond_both (nat_lt room (padded captured)) _ _ NotMany (λ _. λ e. cc) (λ _. λ e. cc)))

fixed-kind : (s : Section) (kind : Kind) (order : ByteOrder) (bytes : List ℕ) → NotMany (fixed_fault s kind order bytes)
fixed-kind s SectionHeader order bytes = cond_both (number order 2 (drop 12 bytes) == 1) _ _ NotMany (λ _. λ e. cc) (λ _. λ e. cc)
fixed-kind s InterfaceDescription order bytes = λ e. cc
fixed-kind s Other order bytes = λ e. cc
fixed-kind s EnhancedPacket order bytes = packet-kind (interface_of s EnhancedPacket bytes) _ _
fixed-kind s SimplePacket order bytes = packet-kind (interface_of s SimplePacket bytes) _ _

end-kind : (order : ByteOrder) (bytes : List ℕ) → NotMany (end_fault order bytes)
end-kind order bytes = cond_both (nat_lt (length bytes) (total_len order bytes)) _ _ NotMany (λ _. λ e. cc)
    (λ _. cond_both (number order 4 (drop (total_len order bytes - 4) bytes) == total_len order bytes) _ _ NotMany (λ _. λ e. cc) (λ _. λ e. cc))

or_else-kind : (found later : Option Fault) → NotMany found → NotMany later → NotMany (or_else found later)
or_else-kind (Some fault) later not_found not_later = not_found
or_else-kind None later not_found not_later = not_later

behind-kind : (s : Section) (kind : Kind) (told : Option ByteOrder) (bytes : List ℕ) → NotMany (fault_behind s kind told bytes)
behind-kind s kind None bytes = λ e. cc
behind-kind s kind (Some order) bytes =
    cond_both (is_too_many s kind || misfits kind (total_len order bytes)) _ _ NotMany (λ _. λ e. cc)
    (λ _. cond_both (nat_lt (length bytes) (fixed_len kind)) _ _ NotMany (λ _. λ e. cc)
    (λ _. or_else-kind (fixed_fault s kind order bytes) (end_fault order bytes) (fixed-kind s kind order bytes) (end-kind order bytes)))

block-kind : (s : Section) (bytes : List ℕ) → NotMany (block_fault s bytes)
unfolding block_fault
block-kind s bytes =
    let kind = block_kind_of s.order bytes in
    cond_both (nat_lt (length bytes) (begin_len kind)) _ _ NotMany (λ _. λ e. cc) (λ _. behind-kind s kind (order_told s kind bytes) bytes)

-- ---- a whole block

-- Bytes at the front are passed over, or hold a record, whatever follows them.
record WholeBlock (s : Section) (bytes : List ℕ) : Type 0 where
  block : List ℕ
  rest : List ℕ
  now : Section
  parts : bytes ≡ block ++ rest
  some : 0 < length block
  reads : ((more : List ℕ) → blocks_in s (block ++ more) ≡ blocks_in now more)
      ⊎ ((frame : List ℕ) × (original : ℕ) × ((more : List ℕ) → blocks_in s (block ++ more) ≡ with_record frame original (blocks_in now more)))

-- a packet's bytes have room
packet-fits : (interface : Option Interface) (captured room : ℕ) → packet_fault interface captured room ≡ None → captured ≤ room
packet-fits None captured room good = absurd cc
packet-fits (Some i) captured room good = by_tests (not (i.link_type == 1)) (nat_lt longest_record captured) (nat_lt room (padded captured)) refl good
  where
    by_tests : (link long wide : Bool) → nat_lt room (padded captured) ≡ wide
        → (if link then Some LinkType else if long then Some LongRecord else if wide then Some BadBlock else None) ≡ None
        → captured ≤ room
    by_tests true long wide is good = absurd cc
    by_tests false true wide is good = absurd cc
    by_tests false false true is good = absurd cc
    by_tests false false false is good = let fits = ltb-false room (padded captured) is in omega (arith, fits)

module _ (s : Section) (kind : Kind) (order : ByteOrder) (total : ℕ) (head more : List ℕ) (whole : length head ≡ fixed_len kind)
    (h : IsBegun s kind order total head) (may : MayCome s kind total) (good : fixed_fault s kind order head ≡ None)
    (none : block_fault s (head ++ more) ≡ None)
  where
    all_there : total ≤ fixed_len kind + length more
    all_there = ⊎_elim
        (λ (short : fixed_len kind + length more < total). absurd (let cut = head-cut s kind order total head whole h may good more short in cc))
        (λ (enough : total ≤ fixed_len kind + length more). enough)
        (cases_lt (fixed_len kind + length more) total)

    module _ (frame tail rest : List ℕ) (count : ℕ) (split : more ≡ frame ++ (tail ++ rest)) (size : fixed_len kind + length frame + count + 4 ≡ total)
        (long : length tail ≡ count + 4)
      where
        last : number order 4 (drop count tail) ≡ total
        last = ⊎_elim
            (λ (same : number order 4 (drop count tail) ≡ total). same)
            (λ (other : number order 4 (drop count tail) ≢ total). absurd
            (let bad = head-other s kind order total head whole h may good frame tail count size long other rest in
            let none_here = ap (λ (l : List ℕ). block_fault s (head ++ l)) (sym split) ∙ none in cc))
            (cases_eq (number order 4 (drop count tail)) total)

        parted : head ++ more ≡ (head ++ (frame ++ tail)) ++ rest
        parted =
            ap (λ (l : List ℕ). head ++ l) split ∙ ap (λ (l : List ℕ). head ++ l) (sym (append_assoc frame tail rest))
            ∙ sym (append_assoc head (frame ++ tail) rest)

        some_block : 0 < length (head ++ (frame ++ tail))
        some_block = omega (arith, long, length-append head (frame ++ tail), length-append frame tail)

        passed : is_packet kind ≡ false → WholeBlock s (head ++ more)
        passed other = record {
          block = head ++ (frame ++ tail);
          rest = rest;
          now = section_behind s kind head;
          parts = parted;
          some = some_block;
          reads = inl (block-passed s kind order total head whole h may good frame tail count size (long, last) (section_behind s kind head) other refl);
        }

        recorded : is_packet kind ≡ true → captured_len s kind head ≡ length frame → WholeBlock s (head ++ more)
        recorded packet captured = record {
          block = head ++ (frame ++ tail);
          rest = rest;
          now = s;
          parts = parted;
          some = some_block;
          reads = inr (
            frame,
            original_len s kind head,
            block-record s kind order total head whole h may good frame tail count size (long, last) packet captured (packet_keeps s kind head packet),
          );
        }

    -- a part of the rest, and what follows it
    split_at : (n : ℕ) (bytes : List ℕ) → bytes ≡ take n bytes ++ drop n bytes
    split_at n bytes = sym (take-append-drop n bytes)

    other_block : is_packet kind ≡ false → WholeBlock s (head ++ more)
    other_block other =
        let enough = all_there in
        let room = fits-room kind total may.fits in
        let n : ℕ = total - fixed_len kind in
        passed [] (take n more) (drop n more) (n - 4) (split_at n more) (omega (arith, room))
        (length-take-le n more (omega (arith, enough)) ∙ omega (arith, room)) other

    packet_block : is_packet kind ≡ true → captured_len s kind head ≤ total - (fixed_len kind + 4) → WholeBlock s (head ++ more)
    packet_block packet fits =
        let enough = all_there in
        let room = fits-room kind total may.fits in
        let n : ℕ = captured_len s kind head in
        let m : ℕ = total - fixed_len kind - n in
        let behind : List ℕ = drop n more in
        let size : length (take n more) ≡ n = length-take-le n more (omega (arith, enough, fits)) in
        recorded (take n more) (take m behind) (drop m behind) (m - 4)
        (split_at n more ∙ ap (λ (l : List ℕ). take n more ++ l) (split_at m behind)) (omega (arith, size, fits, room))
        (length-take-le m behind (omega (arith, enough, fits, length-drop n more)) ∙ omega (arith, fits, room)) packet (sym size)

by_kind : (s : Section) (kind : Kind) (order : ByteOrder) (total : ℕ) (head more : List ℕ) → length head ≡ fixed_len kind
    → IsBegun s kind order total head → MayCome s kind total → fixed_fault s kind order head ≡ None → block_fault s (head ++ more) ≡ None
    → WholeBlock s (head ++ more)
by_kind s EnhancedPacket order total head more whole h may good none =
    let states = h.states in
    let fits = packet-fits (interface_of s EnhancedPacket head) _ _ good in
    packet_block s EnhancedPacket order total head more whole h may good none refl (omega (arith, fits, states))
by_kind s SimplePacket order total head more whole h may good none =
    let states = h.states in
    let fits = packet-fits (interface_of s SimplePacket head) _ _ good in
    packet_block s SimplePacket order total head more whole h may good none refl (omega (arith, fits, states))
by_kind s SectionHeader order total head more whole h may good none = other_block s SectionHeader order total head more whole h may good none refl
by_kind s InterfaceDescription order total head more whole h may good none =
    other_block s InterfaceDescription order total head more whole h may good none refl
by_kind s Other order total head more whole h may good none = other_block s Other order total head more whole h may good none refl

module _ (s : Section) (bytes : List ℕ) (none : block_fault s bytes ≡ None) where
  long_begin : begin_len (block_kind_of s.order bytes) ≤ length bytes
  long_begin = ⊎_elim
      (λ (short : length bytes < begin_len (block_kind_of s.order bytes)). absurd
      (let cut = fault-begin s (block_kind_of s.order bytes) bytes refl short in cc))
      (λ (long : begin_len (block_kind_of s.order bytes) ≤ length bytes). long)
      (cases_lt (length bytes) (begin_len (block_kind_of s.order bytes)))

  by_fixed : (order : ByteOrder) → IsBegun s (block_kind_of s.order bytes) order (total_len order bytes) bytes
      → MayCome s (block_kind_of s.order bytes) (total_len order bytes) → fixed_len (block_kind_of s.order bytes) ≤ length bytes
      → (found : Option Fault) → fixed_fault s (block_kind_of s.order bytes) order (take (fixed_len (block_kind_of s.order bytes)) bytes) ≡ found
      → WholeBlock s bytes
  by_fixed order h may long found is =
      let kind = block_kind_of s.order bytes in
      let total = total_len order bytes in
      let head = take (fixed_len kind) bytes in
      let more = drop (fixed_len kind) bytes in
      let all : head ++ more ≡ bytes = take-append-drop (fixed_len kind) bytes in
      let whole : length head ≡ fixed_len kind = length-take-le (fixed_len kind) bytes long in
      let within = begins_within kind in
      let begun : IsBegun s kind order total head =
      begun-front s kind order total head more (omega arith) (subst (IsBegun s kind order total) (sym all) h) in
      let none_here : block_fault s (head ++ more) ≡ None = ap (block_fault s) all ∙ none in
      subst (WholeBlock s) all (judged kind order total head more whole begun may found is none_here)
    where
      judged : (kind : Kind) (order : ByteOrder) (total : ℕ) (head more : List ℕ) → length head ≡ fixed_len kind
          → IsBegun s kind order total head → MayCome s kind total → (found : Option Fault) → fixed_fault s kind order head ≡ found
          → block_fault s (head ++ more) ≡ None
          → WholeBlock s (head ++ more)
      judged kind order total head more whole begun may None is none_here = by_kind s kind order total head more whole begun may is none_here
      judged kind order total head more whole begun may (Some fault) is none_here =
          absurd (let wrong = head-fault s kind order total head whole begun may fault is more in cc)

  by_refusal : (order : ByteOrder) → IsBegun s (block_kind_of s.order bytes) order (total_len order bytes) bytes → (refused : Bool)
      → (is_too_many s (block_kind_of s.order bytes) || misfits (block_kind_of s.order bytes) (total_len order bytes)) ≡ refused → WholeBlock s bytes
  by_refusal order h true is = absurd (let bad = fault-refused s (block_kind_of s.order bytes) order (total_len order bytes) bytes h is in cc)
  by_refusal order h false is =
      let kind = block_kind_of s.order bytes in
      let total = total_len order bytes in
      let may = may_come s kind total false (sym is) refl in
      ⊎_elim
      (λ (short : length bytes < fixed_len kind). absurd (let cut = fault-short s kind order total bytes h may short in cc))
      (λ (long : fixed_len kind ≤ length bytes). by_fixed order h may long (fixed_fault s kind order (take (fixed_len kind) bytes)) refl)
      (cases_lt (length bytes) (fixed_len kind))

  by_order : (told : Option ByteOrder) → order_told s (block_kind_of s.order bytes) bytes ≡ told → WholeBlock s bytes
  by_order None tells = absurd (let bad = fault-magic s (block_kind_of s.order bytes) bytes refl long_begin tells in cc)
  by_order (Some order) tells = by_refusal order (record { long = long_begin; is = refl; tells = tells; states = refl })
      (is_too_many s (block_kind_of s.order bytes) || misfits (block_kind_of s.order bytes) (total_len order bytes)) refl

  -- a block without a fault is whole
  whole_block : WholeBlock s bytes
  whole_block = by_order (order_told s (block_kind_of s.order bytes) bytes) refl

-- ---- more bytes

go_so : (first later f l : Records) → first ≡ f → later ≡ l → GoOn f l → GoOn first later
go_so first later f l first_is later_is go = subst (λ (r : Records). GoOn r later) (sym first_is) (subst (GoOn f) (sym later_is) go)

-- behind a whole block, where it is so for what follows it
behind-whole : (s : Section) (bytes rest : List ℕ) (w : WholeBlock s bytes)
    → GoOn (blocks_in w.now w.rest) (blocks_in w.now (w.rest ++ rest)) → GoOn (blocks_in s bytes) (blocks_in s (bytes ++ rest))
behind-whole s bytes rest w go =
    let parts = w.parts in
    let later : bytes ++ rest ≡ w.block ++ (w.rest ++ rest) = ap (λ (l : List ℕ). l ++ rest) parts ∙ append_assoc w.block w.rest rest in
    ⊎_elim
    (λ passes. go_so _ _ _ _ (ap (blocks_in s) parts ∙ passes w.rest) (ap (blocks_in s) later ∙ passes (w.rest ++ rest)) go)
    (λ (frame, original, reads). one-first frame original _ _ _ _ (ap (blocks_in s) parts ∙ reads w.rest)
    (ap (blocks_in s) later ∙ reads (w.rest ++ rest)) go)
    w.reads

by_found : (s : Section) (n b : ℕ) (bs rest : List ℕ) → length (b ∷ bs) ≤ suc n
    → ((now : Section) (tail : List ℕ) → length tail ≤ n → GoOn (blocks_in now tail) (blocks_in now (tail ++ rest)))
    → (found : Option Fault) → block_fault s (b ∷ bs) ≡ found → GoOn (blocks_in s (b ∷ bs)) (blocks_in s ((b ∷ bs) ++ rest))
by_found s n b bs rest few go None good =
    let w = whole_block s (b ∷ bs) good in
    let some = w.some in
    behind-whole s (b ∷ bs) rest w (go w.now w.rest (omega (arith, few, some, ap length w.parts, length-append w.block w.rest)))
by_found s n b bs rest few go (Some fault) bad =
    no-first (Some fault) _ _ (blocks_in-fault s (b ∷ bs) fault (omega arith) bad) (λ many. block-kind s (b ∷ bs) (bad ∙ many))

pub blocks-go : (s : Section) (n : ℕ) (bytes rest : List ℕ) → length bytes ≤ n → GoOn (blocks_in s bytes) (blocks_in s (bytes ++ rest))
blocks-go s n [] rest few = no-first None _ _ (blocks_in-none s) (λ e. cc)
blocks-go s zero (b ∷ bs) rest few = absurd (omega arith)
blocks-go s (suc n) (b ∷ bs) rest few =
    by_found s n b bs rest few (λ now tail fewer. blocks-go now n tail rest fewer) (block_fault s (b ∷ bs)) refl

-- ---- either form

blocks-form : (bytes : List ℕ) → is_section_header bytes ≡ true → records_of bytes ≡ blocks_in no_section bytes
unfolding records_of
blocks-form bytes is = cond-true (is_section_header bytes) _ _ is

classic-form : (bytes : List ℕ) → is_section_header bytes ≡ false → records_of bytes ≡ classic_form.classic_records_of bytes
unfolding records_of
classic-form bytes is = cond-false (is_section_header bytes) _ _ is

pub capture-goes : (bytes rest : List ℕ) → GoOn (records_of bytes) (records_of (bytes ++ rest))
capture-goes bytes rest = ⊎_elim
    (λ (short : length bytes < 4). no-first (Some Cut) _ _ (opening-records bytes Cut (opening-short bytes short)) (λ e. cc))
    (λ (long : 4 ≤ length bytes). by_form long (is_section_header bytes) refl)
    (cases_lt (length bytes) 4)
  where
    by_form : 4 ≤ length bytes → (form : Bool) → is_section_header bytes ≡ form → GoOn (records_of bytes) (records_of (bytes ++ rest))
    by_form long true is = go_so _ _ _ _ (blocks-form bytes is) (blocks-form (bytes ++ rest) (section_header-append bytes rest long ∙ is))
        (blocks-go no_section (length bytes) bytes rest (omega arith))
    by_form long false is = go_so _ _ _ _ (classic-form bytes is) (classic-form (bytes ++ rest) (section_header-append bytes rest long ∙ is))
        (classic-goes bytes rest)
