-- A section header of another version is refused, and a whole one begins a section without interfaces.
use Rattle.std.{proofs.Common.{◌≡◌, ◌≢◌, ℕ, ◌+◌, ◌==◌, List, [], drop, Some, None, Option, ap, sym, refl, ◌∙◌, arith, eq-eqb, ne_eqb}, specs.Option.{unwrap_or}}
use Rattle.std.proofs.lemmas.{Result.{err_from_is_err_and}, Bool.{cond-true, cond-false}}
use Rattle.zr_kinds.specs.declared.fault.Fault.TheVariants.{Version}
use Rattle.zr_io.proofs.Moved.{Took-weaker}
use Rattle.pcap_reader.specs.{declared.order.ByteOrder.{ByteOrder}, Records.{number}}
use Rattle.pcapng_reader.specs.{declared.kind.Kind.TheVariants.{SectionHeader}, Blocks.{Section, Kind, fixed_len, fixed_fault, is_packet, section_behind, order_told}}
use Rattle.pcapng_reader.{specs.Steps.{told, head_bytes, fault_from, IsHeaderFault}, proofs.BlockLaws.{fits-room, fixed_most, head-fault}}
use Rattle.pcapng_reader.proofs.{BlockSteps.{stops-before, end-stops, end-alone}, Heads.{number_of}, WholeBlocks.{block-passed, section-same}}
use Rattle.pcapng_reader.proofs.blocks.begin_section.Goals as goal

other_version : (s : Section) (kind : Kind) (order : ByteOrder) (bytes : List ℕ) (major : ℕ) → kind ≡ SectionHeader
    → major ≡ number order 2 (drop 12 bytes) → major ≢ 1
    → fixed_fault s kind order bytes ≡ Some Version
other_version s kind order bytes major is states other =
    ap (λ (k : Kind). fixed_fault s k order bytes) is
    ∙ cond-false (number order 2 (drop 12 bytes) == 1) _ _ (ap (λ (n : ℕ). n == 1) (sym states) ∙ ne_eqb major 1 other)

this_version : (s : Section) (kind : Kind) (order : ByteOrder) (bytes : List ℕ) (major : ℕ) → kind ≡ SectionHeader
    → major ≡ number order 2 (drop 12 bytes) → major ≡ 1
    → fixed_fault s kind order bytes ≡ None
this_version s kind order bytes major is states one =
    ap (λ (k : Kind). fixed_fault s k order bytes) is
    ∙ cond-true (number order 2 (drop 12 bytes) == 1) _ _ (ap (λ (n : ℕ). n == 1) (sym states) ∙ eq-eqb major 1 one)

begun : (s : Section) (kind : Kind) (order : ByteOrder) (bytes : List ℕ) (now : Section) → kind ≡ SectionHeader
    → order_told s kind bytes ≡ Some order → now ≡ record { order = order; interfaces = []; others = s.others + 1 }
    → section_behind s kind bytes ≡ now
begun s kind order bytes now is tells same =
    ap (λ (k : Kind). section_behind s k bytes) is
    ∙ section-same _ order [] [] (s.others + 1)
    (ap (λ (o : Option ByteOrder). unwrap_or o s.order) (ap (λ (k : Kind). order_told s k bytes) (sym is) ∙ tells)) refl
    ∙ sym same

pub returns-then-number16-ne-MAJOR_VERSION-clause-passes : goal.returns-then-number16-ne-MAJOR_VERSION-clause-passes
returns-then-number16-ne-MAJOR_VERSION-clause-passes g c =
    let s = told c.args.section.now in
    let head = c.args.head.now in
    let h = c.requires.head in
    let most = fixed_most head.kind in
    let fixed = ap fixed_len c.requires.kind in
    let major = number_of head.order 12 2 (fixed_len head.kind) head.bytes 16 c.number16.result (omega arith) (omega arith) (omega arith)
    c.number16.ensures in
    stops-before IsHeaderFault (fault_from s (head_bytes head)) _ Version tt
    (λ rest. head-fault s head.kind head.order head.total (head_bytes head) h.whole h.begun h.may Version
    (other_version s head.kind head.order (head_bytes head) c.number16.result c.requires.kind major c.if-number16-ne-MAJOR_VERSION.true) rest)
    (λ found e. e) (λ found e. e)

pub returns-in_err-read_end-clause-passes : goal.returns-in_err-read_end-clause-passes
returns-in_err-read_end-clause-passes g c =
    let p = err_from_is_err_and c.from_residual.result c.from_residual.ensures.1 in
    let s = told c.args.section.now in
    let head = c.args.head.now in
    let h = c.requires.head in
    let most = fixed_most head.kind in
    let fixed = ap fixed_len c.requires.kind in
    let major = number_of head.order 12 2 (fixed_len head.kind) head.bytes 16 c.number16.result (omega arith) (omega arith) (omega arith)
    c.number16.ensures in
    let fits = fits-room head.kind head.total h.may.fits in
    rw (p.1, p.2)
    (end-stops s head.kind head.order head.total (head_bytes head) h.whole h.begun h.may
    (this_version s head.kind head.order (head_bytes head) c.number16.result c.requires.kind major c.if-number16-ne-MAJOR_VERSION.false)
    [] c.room.result (omega arith) IsHeaderFault _ _ _ tt tt tt
    c.in_err-read_end.ensures.takes)

pub returns-clause-passes : goal.returns-clause-passes
returns-clause-passes g c =
    let s = told c.args.section.now in
    let head = c.args.head.now in
    let h = c.requires.head in
    let most = fixed_most head.kind in
    let fixed = ap fixed_len c.requires.kind in
    let major = number_of head.order 12 2 (fixed_len head.kind) head.bytes 16 c.number16.result (omega arith) (omega arith) (omega arith)
    c.number16.ensures in
    let fits = fits-room head.kind head.total h.may.fits in (
      ap (λ (n : Section). n.others) c.begin.ensures,
      Took-weaker _ _ _ _ (λ tail last. block-passed s head.kind head.order head.total (head_bytes head)
          h.whole h.begun h.may (this_version s head.kind head.order (head_bytes head) c.number16.result c.requires.kind major c.if-number16-ne-MAJOR_VERSION.false)
          [] tail c.room.result (omega arith) last _ (ap is_packet c.requires.kind)
          (begun s head.kind head.order (head_bytes head) (told c.begin.new.self) c.requires.kind h.begun.tells c.begin.ensures)) c.in_ok-read_end.ensures.takes,
      end-alone s head.kind head.order head.total (head_bytes head) h.whole h.begun h.may
          (this_version s head.kind head.order (head_bytes head) c.number16.result c.requires.kind major c.if-number16-ne-MAJOR_VERSION.false)
          [] c.room.result (omega arith) _ _ c.in_ok-read_end.ensures.takes,
    )
