-- A whole block: what it adds to the records, and what the rest of it is read for.
use Rattle.std.proofs.Common.{◌≡◌, ℕ, ◌+◌, ◌<◌, ◌≤◌, List, [], ◌++◌, length, take, drop, true, false, Some, None, refl, sym}
use Rattle.std.proofs.{Common.{ap, ◌∙◌, subst, arith, append-nil, append_assoc, length-append}, lemmas.{List.{drop_at, take_at}, Bool.{cond-true, cond-false}}}
use Rattle.zr_kinds.specs.{Limits.{longest_record}, declared.fault.Fault.TheVariants.{Cut}}
use Rattle.pcap_reader.{specs.{declared.order.ByteOrder.{ByteOrder}, Records.{number, Records, with_record}}, proofs.RecordLaws.{number_at-append}}
use Rattle.pcapng_reader.specs.declared.kind.Kind.TheVariants.{SectionHeader, InterfaceDescription, EnhancedPacket, SimplePacket, Other}
use Rattle.pcapng_reader.specs.Blocks.{Section, Kind, Interface, fixed_len, is_packet, limited, first_snaplen, captured_len, original_len, frame_of}
use Rattle.pcapng_reader.specs.{Blocks.{fixed_fault, block_fault, section_behind, with_block, blocks_in}, Capture.{WantsBytes, WantsHere}, Steps.{IsBegun, MayCome}}
use Rattle.pcapng_reader.proofs.BlockLaws.{begun-append, section_behind-append, head-cut, head-whole, blocks_in-whole, fits-room}

-- ---- a packet's numbers, whatever follows its fixed bytes

captured-append : (s : Section) (kind : Kind) (xs rest : List ℕ) → is_packet kind ≡ true → fixed_len kind ≤ length xs
    → captured_len s kind (xs ++ rest) ≡ captured_len s kind xs
captured-append s EnhancedPacket xs rest is long = number_at-append s.order 20 4 xs rest (omega arith)
captured-append s SimplePacket xs rest is long = ap (limited (first_snaplen s.interfaces)) (number_at-append s.order 8 4 xs rest (omega arith))
captured-append s SectionHeader xs rest is long = absurd cc
captured-append s InterfaceDescription xs rest is long = absurd cc
captured-append s Other xs rest is long = absurd cc

original-append : (s : Section) (kind : Kind) (xs rest : List ℕ) → is_packet kind ≡ true → fixed_len kind ≤ length xs
    → original_len s kind (xs ++ rest) ≡ original_len s kind xs
original-append s EnhancedPacket xs rest is long = number_at-append s.order 24 4 xs rest (omega arith)
original-append s SimplePacket xs rest is long = number_at-append s.order 8 4 xs rest (omega arith)
original-append s SectionHeader xs rest is long = absurd cc
original-append s InterfaceDescription xs rest is long = absurd cc
original-append s Other xs rest is long = absurd cc

with_record-same : (xs ys : List ℕ) (m n : ℕ) (others : Records) → xs ≡ ys → m ≡ n → with_record xs m others ≡ with_record ys n others
with_record-same xs ys m n others e f = rw (e, f) refl

pub packet_keeps : (s : Section) (kind : Kind) (bytes : List ℕ) → is_packet kind ≡ true → section_behind s kind bytes ≡ s
packet_keeps s EnhancedPacket bytes is = refl
packet_keeps s SimplePacket bytes is = refl
packet_keeps s SectionHeader bytes is = absurd cc
packet_keeps s InterfaceDescription bytes is = absurd cc
packet_keeps s Other bytes is = absurd cc

pub section-same : (a b : ByteOrder) (xs ys : List Interface) (n : ℕ) → a ≡ b → xs ≡ ys
    → ◌≡◌ {A = Section} (record { order = a; interfaces = xs; others = n }) (record { order = b; interfaces = ys; others = n })
section-same a b xs ys n e f = rw (e, f) refl

regroup : (head frame tail rest : List ℕ) → (head ++ (frame ++ tail)) ++ rest ≡ head ++ (frame ++ (tail ++ rest))
regroup head frame tail rest = append_assoc head (frame ++ tail) rest ∙ ap (λ (l : List ℕ). head ++ l) (append_assoc frame tail rest)

wanted_by : (s : Section) (kind : Kind) (head : List ℕ) → is_packet kind ≡ true → 0 < captured_len s kind head → captured_len s kind head ≤ longest_record
    → WantsBytes s kind head
wanted_by s EnhancedPacket head is some most = (some, most)
wanted_by s SimplePacket head is some most = (some, most)
wanted_by s SectionHeader head is some most = absurd cc
wanted_by s InterfaceDescription head is some most = absurd cc
wanted_by s Other head is some most = absurd cc

module _ (s : Section) (kind : Kind) (order : ByteOrder) (total : ℕ) (head : List ℕ) (whole : length head ≡ fixed_len kind)
    (h : IsBegun s kind order total head) (may : MayCome s kind total) (good : fixed_fault s kind order head ≡ None)
  where
    -- the fixed bytes alone are cut
    pub head-alone : block_fault s (head ++ []) ≡ Some Cut
    head-alone =
        let room = fits-room kind total may.fits in
        head-cut s kind order total head whole h may good [] (omega arith)

    -- what memory is asked for
    pub head-wants : WantsBytes s kind head → WantsHere s (head ++ [])
    head-wants wants = subst (WantsHere s) (sym (append-nil head)) (record {
      whole = whole ∙ ap fixed_len (sym h.is);
      cut = ap (block_fault s) (sym (append-nil head)) ∙ head-alone;
      wants = subst (λ (k : Kind). WantsBytes s k head) (sym h.is) wants;
    })

    pub packet-wants : is_packet kind ≡ true → 0 < captured_len s kind head → captured_len s kind head ≤ longest_record → WantsHere s (head ++ [])
    packet-wants is some most = head-wants (wanted_by s kind head is some most)

    -- a whole block, with its packet's bytes or without
    module _ (frame tail : List ℕ) (count : ℕ) (size : fixed_len kind + length frame + count + 4 ≡ total)
        (last : (length tail ≡ count + 4) × (number order 4 (drop count tail) ≡ total))
      where
        by_block : (rest : List ℕ)
            → blocks_in s ((head ++ (frame ++ tail)) ++ rest)
            ≡ with_block s kind ((head ++ (frame ++ tail)) ++ rest) (blocks_in (section_behind s kind head) rest)
        by_block rest =
            let long = last.0 in
            let same = regroup head frame tail rest in
            let begun = subst (IsBegun s kind order total) (sym same) (begun-append s kind order total head (frame ++ (tail ++ rest)) h) in
            let none = ap (block_fault s) same ∙ head-whole s kind order total head whole h may good frame tail count size last.0 last.1 rest in
            let behind = ap (section_behind s kind) same ∙ section_behind-append s kind head (frame ++ (tail ++ rest)) (omega arith) in
            blocks_in-whole s (section_behind s kind head) kind order total (head ++ (frame ++ tail)) rest begun none behind
            (omega (arith, length-append head (frame ++ tail), length-append frame tail)) (omega arith)

        -- one that is no packet changes the section alone
        pub block-passed : (now : Section) → is_packet kind ≡ false → section_behind s kind head ≡ now → (rest : List ℕ)
            → blocks_in s ((head ++ (frame ++ tail)) ++ rest) ≡ blocks_in now rest
        block-passed now is behind rest =
            by_block rest ∙ cond-false (is_packet kind) _ _ is ∙ ap (λ (n : Section). blocks_in n rest) behind

        -- a packet is the first record
        pub block-record : is_packet kind ≡ true → captured_len s kind head ≡ length frame → section_behind s kind head ≡ s → (rest : List ℕ)
            → blocks_in s ((head ++ (frame ++ tail)) ++ rest) ≡ with_record frame (original_len s kind head) (blocks_in s rest)
        block-record is captured behind rest =
            let same = regroup head frame tail rest in
            let all = head ++ (frame ++ (tail ++ rest)) in
            let body : drop (fixed_len kind) all ≡ frame ++ (tail ++ rest) = drop_at head (frame ++ (tail ++ rest)) (fixed_len kind) whole in
            let bytes : frame_of s kind all ≡ frame =
            ap (λ (n : ℕ). take n (drop (fixed_len kind) all)) (captured-append s kind head (frame ++ (tail ++ rest)) is (omega arith) ∙ captured)
            ∙ ap (take (length frame)) body ∙ take_at frame (tail ++ rest) (length frame) refl in
            by_block rest ∙ cond-true (is_packet kind) _ _ is
            ∙ with_record-same _ _ _ _ _ (ap (frame_of s kind) same ∙ bytes)
            (ap (original_len s kind) same ∙ original-append s kind head (frame ++ (tail ++ rest)) is (omega arith))
            ∙ ap (λ (n : Section). with_record frame (original_len s kind head) (blocks_in n rest)) behind
