-- An interface's block adds it to the section. Memory for it is wanted before the rest of the block is read.
use Rattle.std.proofs.{Common.{◌≡◌, ℕ, ◌+◌, rules, List, [], ◌∷◌, ◌++◌, drop, Some, ap, sym, refl, ◌∙◌, arith}, lemmas.Result.{err_from_is_err_and}}
use Rattle.zr_io.proofs.Moved.{Took-weaker, Took-nothing}
use Rattle.pcap_reader.{specs.{declared.order.ByteOrder.{ByteOrder}, Records.{number}}, proofs.Joined.{always, Keeps-same}}
use Rattle.pcapng_reader.specs.declared.kind.Kind.TheVariants.{InterfaceDescription}
use Rattle.pcapng_reader.specs.Blocks.{Section, Kind, Interface, fixed_len, fixed_fault, is_packet, section_behind, order_told}
use Rattle.pcapng_reader.{specs.Steps.{told, head_bytes, IsInterfaceFault}, proofs.{BlockLaws.{fits-room, fixed_most}, BlockSteps.{end-stops, end-alone}}}
use Rattle.pcapng_reader.proofs.{Heads.{number_of}, WholeBlocks.{head-alone, head-wants, block-passed, section-same}}
use Rattle.pcapng_reader.proofs.blocks.add_interface.Goals as goal

interface-same : (a b m n : ℕ) → a ≡ b → m ≡ n
    → ◌≡◌ {A = Interface} (record { link_type = a; snaplen = m }) (record { link_type = b; snaplen = n })
interface-same a b m n e f = rw (e, f) refl

own_order : (s : Section) (kind : Kind) (order : ByteOrder) (bytes : List ℕ) → kind ≡ InterfaceDescription → order_told s kind bytes ≡ Some order
    → s.order ≡ order
own_order s kind order bytes is tells =
    let same : Some s.order ≡ Some order = ap (λ (k : Kind). order_told s k bytes) (sym is) ∙ tells in cc

added : (s : Section) (kind : Kind) (order : ByteOrder) (bytes : List ℕ) (link_type snaplen : ℕ) (interfaces : List Interface)
    → kind ≡ InterfaceDescription → order_told s kind bytes ≡ Some order → link_type ≡ number order 2 (drop 8 bytes) → snaplen ≡ number order 4 (drop 12 bytes)
    → interfaces ≡ s.interfaces ++ record { link_type = link_type; snaplen = snaplen } ∷ []
    → section_behind s kind bytes ≡ record { order = s.order; interfaces = interfaces; others = s.others + 1 }
added s kind order bytes link_type snaplen interfaces is tells link snap more =
    let own = own_order s kind order bytes is tells in
    ap (λ (k : Kind). section_behind s k bytes) is
    ∙ section-same s.order s.order _ interfaces (s.others + 1) refl
    (ap (λ (i : Interface). s.interfaces ++ i ∷ [])
    (interface-same _ link_type _ snaplen (ap (λ (o : ByteOrder). number o 2 (drop 8 bytes)) own ∙ sym link)
    (ap (λ (o : ByteOrder). number o 4 (drop 12 bytes)) own ∙ sym snap)) ∙ sym more)

pub returns-then-is_err-clause-passes : goal.returns-then-is_err-clause-passes
returns-then-is_err-clause-passes g c =
    let s = told c.args.section.now in
    let head = c.args.head.now in
    let h = c.requires.head in (
      tt,
      always _,
      Took-nothing _ _ _ (Keeps-same _)
          (head-alone s head.kind head.order head.total (head_bytes head) h.whole h.begun h.may
          (ap (λ (k : Kind). fixed_fault s k head.order (head_bytes head)) c.requires.kind)),
      λ is. absurd is,
    )

pub returns-then-is_err-clause-memory : goal.returns-then-is_err-clause-memory
returns-then-is_err-clause-memory g c = λ same.
    let s = told c.args.section.now in
    let head = c.args.head.now in
    let h = c.requires.head in
    Took-nothing _ _ _ (Keeps-same _)
    (head-wants s head.kind head.order head.total (head_bytes head) h.whole h.begun h.may
    (ap (λ (k : Kind). fixed_fault s k head.order (head_bytes head)) c.requires.kind)
    (rw c.requires.kind tt))

pub returns-in_err-read_end-clause-passes : goal.returns-in_err-read_end-clause-passes
returns-in_err-read_end-clause-passes g c =
    let p = err_from_is_err_and c.from_residual.result c.from_residual.ensures.1 in
    let s = told c.args.section.now in
    let head = c.args.head.now in
    let h = c.requires.head in
    let fits = fits-room head.kind head.total h.may.fits in
    rw (p.1, p.2)
    (end-stops s head.kind head.order head.total (head_bytes head) h.whole h.begun h.may
    (ap (λ (k : Kind). fixed_fault s k head.order (head_bytes head)) c.requires.kind)
    [] c.room.result (omega arith) IsInterfaceFault _ _ _ tt tt tt
    c.in_err-read_end.ensures.takes)

pub returns-clause-passes : goal.returns-clause-passes
returns-clause-passes g c =
    let s = told c.args.section.now in
    let head = c.args.head.now in
    let h = c.requires.head in
    let fits = fits-room head.kind head.total h.may.fits in
    let most = fixed_most head.kind in
    let fixed = ap fixed_len c.requires.kind in
    let link = number_of head.order 8 2 (fixed_len head.kind) head.bytes 20 c.number16.result (omega arith) (omega arith) (omega arith) c.number16.ensures in
    let snap = number_of head.order 12 4 (fixed_len head.kind) head.bytes 16 c.number32.result (omega arith) (omega arith) (omega arith) c.number32.ensures in (
      refl,
      Took-weaker _ _ _ _ (λ tail last. block-passed s head.kind head.order head.total (head_bytes head) h.whole h.begun h.may
          (ap (λ (k : Kind). fixed_fault s k head.order (head_bytes head)) c.requires.kind)
          [] tail c.room.result (omega arith) last _ (ap is_packet c.requires.kind)
          (added s head.kind head.order (head_bytes head) _ _ _ c.requires.kind h.begun.tells link snap
          (search rules))) c.in_ok-read_end.ensures.takes,
      end-alone s head.kind head.order head.total (head_bytes head) h.whole h.begun h.may
          (ap (λ (k : Kind). fixed_fault s k head.order (head_bytes head)) c.requires.kind)
          [] c.room.result (omega arith) _ _ c.in_ok-read_end.ensures.takes,
    )
