-- The head of a block, and the rest by its kind.
use Rattle.std.proofs.{Common.{◌≡◌, ◌++◌, ℕ, List, Err, ap, refl}, lemmas.Result.{err_from_is_err_and}}
use Rattle.zr_kinds.specs.declared.fault.Fault.TheVariants.{Memory}
use Rattle.pcap_reader.specs.Records.{with_record}
use Rattle.pcapng_reader.specs.{Blocks.{blocks_in}, Capture.{IsRecordFault, WantsHere}, Steps.{told, head_bytes, fault_from, IsHeaderFault, IsInterfaceFault}}
use Rattle.pcapng_reader.proofs.{BlockSteps.{stops-behind, cut-behind, stops-weaker, took-behind, header_comes, interface_comes}, Heads.{head_cut}}
use Rattle.pcapng_reader.proofs.blocks.read_block.Goals as goal

pub returns-in_err-head-clause-takes : goal.returns-in_err-head-clause-takes
returns-in_err-head-clause-takes g c =
    let p = err_from_is_err_and c.from_residual.result c.from_residual.ensures.1 in
    rw (p.1, p.2)
    (stops-weaker IsHeaderFault (fault_from (told c.args.section.now) c.args.start) IsRecordFault _ _ _ header_comes c.in_err-head.ensures.takes)

pub returns-in_err-begin_section-in-SectionHeader-clause-takes :
    goal.returns-in_err-begin_section-in-SectionHeader-clause-takes
returns-in_err-begin_section-in-SectionHeader-clause-takes g c =
    let r = c.from_residual-in_err-begin_section-in-SectionHeader in
    let p = err_from_is_err_and r.result r.ensures.1 in
    let s = told c.args.section.now in
    let front = head_bytes c.in_ok-head.head in
    rw (p.1, p.2)
    (stops-behind s c.args.start front (head_cut s c.in_ok-head.head c.in_ok-head.ensures.is) _ _ _ c.in_ok-head.ensures.takes IsRecordFault _
    (stops-weaker IsHeaderFault (fault_from s front) IsRecordFault _ _ _ header_comes c.in_err-begin_section-in-SectionHeader.ensures.passes))

pub returns-in_ok-begin_section-in-SectionHeader-clause-takes :
    goal.returns-in_ok-begin_section-in-SectionHeader-clause-takes
returns-in_ok-begin_section-in-SectionHeader-clause-takes g c =
    let passes = c.in_ok-begin_section-in-SectionHeader.ensures.passes in
    let s = told c.args.section.now in (
      passes.0,
      took-behind c.args.start (head_bytes c.in_ok-head.head) _ _ _
          (λ block. (rest : List ℕ) → blocks_in s (block ++ rest) ≡ blocks_in (told c.begin_section.new.section) rest) c.in_ok-head.ensures.takes passes.1,
      cut-behind s c.args.start (head_bytes c.in_ok-head.head) (head_cut s c.in_ok-head.head c.in_ok-head.ensures.is) _ _ _ c.in_ok-head.ensures.takes passes.2,
    )

pub returns-in_err-add_interface-in-InterfaceDescription-clause-takes :
    goal.returns-in_err-add_interface-in-InterfaceDescription-clause-takes
returns-in_err-add_interface-in-InterfaceDescription-clause-takes g c =
    let r = c.from_residual-in_err-add_interface-in-InterfaceDescription in
    let p = err_from_is_err_and r.result r.ensures.1 in
    let s = told c.args.section.now in
    let front = head_bytes c.in_ok-head.head in
    rw (p.1, p.2)
    (stops-behind s c.args.start front (head_cut s c.in_ok-head.head c.in_ok-head.ensures.is) _ _ _ c.in_ok-head.ensures.takes IsRecordFault _
    (stops-weaker IsInterfaceFault (fault_from s front) IsRecordFault _ _ _ interface_comes c.in_err-add_interface-in-InterfaceDescription.ensures.passes))

pub returns-in_ok-add_interface-in-InterfaceDescription-clause-takes :
    goal.returns-in_ok-add_interface-in-InterfaceDescription-clause-takes
returns-in_ok-add_interface-in-InterfaceDescription-clause-takes g c =
    let passes = c.in_ok-add_interface-in-InterfaceDescription.ensures.passes in
    let s = told c.args.section.now in (
      passes.0,
      took-behind c.args.start (head_bytes c.in_ok-head.head) _ _ _
          (λ block. (rest : List ℕ) → blocks_in s (block ++ rest) ≡ blocks_in (told c.add_interface.new.section) rest) c.in_ok-head.ensures.takes passes.1,
      cut-behind s c.args.start (head_bytes c.in_ok-head.head) (head_cut s c.in_ok-head.head c.in_ok-head.ensures.is) _ _ _ c.in_ok-head.ensures.takes passes.2,
    )

pub returns-in_err-pass_over-in-Other-clause-takes :
    goal.returns-in_err-pass_over-in-Other-clause-takes
returns-in_err-pass_over-in-Other-clause-takes g c =
    let r = c.from_residual-in_err-pass_over-in-Other in
    let p = err_from_is_err_and r.result r.ensures.1 in
    let s = told c.args.section.now in
    let front = head_bytes c.in_ok-head.head in
    rw (p.1, p.2)
    (stops-behind s c.args.start front (head_cut s c.in_ok-head.head c.in_ok-head.ensures.is) _ _ _ c.in_ok-head.ensures.takes IsRecordFault _
    (stops-weaker IsHeaderFault (fault_from s front) IsRecordFault _ _ _ header_comes c.in_err-pass_over-in-Other.ensures.passes))

pub returns-in_ok-pass_over-in-Other-clause-takes :
    goal.returns-in_ok-pass_over-in-Other-clause-takes
returns-in_ok-pass_over-in-Other-clause-takes g c =
    let passes = c.in_ok-pass_over-in-Other.ensures.passes in
    let s = told c.args.section.now in (
      passes.0,
      took-behind c.args.start (head_bytes c.in_ok-head.head) _ _ _
          (λ block. (rest : List ℕ) → blocks_in s (block ++ rest) ≡ blocks_in (told c.pass_over.new.section) rest) c.in_ok-head.ensures.takes passes.1,
      cut-behind s c.args.start (head_bytes c.in_ok-head.head) (head_cut s c.in_ok-head.head c.in_ok-head.ensures.is) _ _ _ c.in_ok-head.ensures.takes passes.2,
    )

pub returns-in_err-add_interface-in-InterfaceDescription-clause-memory :
    goal.returns-in_err-add_interface-in-InterfaceDescription-clause-memory
returns-in_err-add_interface-in-InterfaceDescription-clause-memory g c = λ same.
    let r = c.from_residual-in_err-add_interface-in-InterfaceDescription in
    let p = err_from_is_err_and r.result r.ensures.1 in
    let wanted : c.in_err-add_interface-in-InterfaceDescription.field-0.0 ≡ Memory = cc (p.1, p.2, same) in
    took-behind c.args.start (head_bytes c.in_ok-head.head) _ _ _ (WantsHere (told c.args.section.now)) c.in_ok-head.ensures.takes
    (c.in_err-add_interface-in-InterfaceDescription.ensures.memory (ap Err wanted))

pub returns-in_err-read_packet-in-EnhancedPacket-clause-memory :
    goal.returns-in_err-read_packet-in-EnhancedPacket-clause-memory
returns-in_err-read_packet-in-EnhancedPacket-clause-memory g c = λ same.
    let r = c.from_residual-in_err-read_packet-in-EnhancedPacket in
    let p = err_from_is_err_and r.result r.ensures.1 in
    let wanted : c.in_err-read_packet-in-EnhancedPacket.field-0.0 ≡ Memory = cc (p.1, p.2, same) in
    took-behind c.args.start (head_bytes c.in_ok-head.head) _ _ _ (WantsHere (told c.args.section.now)) c.in_ok-head.ensures.takes
    (c.in_err-read_packet-in-EnhancedPacket.ensures.memory (ap Err wanted))

pub returns-in_err-read_packet-in-EnhancedPacket-clause-takes :
    goal.returns-in_err-read_packet-in-EnhancedPacket-clause-takes
returns-in_err-read_packet-in-EnhancedPacket-clause-takes g c =
    let r = c.from_residual-in_err-read_packet-in-EnhancedPacket in
    let p = err_from_is_err_and r.result r.ensures.1 in
    rw (p.1, p.2)
    (stops-behind (told c.args.section.now) c.args.start (head_bytes c.in_ok-head.head)
    (head_cut (told c.args.section.now) c.in_ok-head.head c.in_ok-head.ensures.is) _ _ _ c.in_ok-head.ensures.takes IsRecordFault _
    c.in_err-read_packet-in-EnhancedPacket.ensures.takes)

pub returns-in-EnhancedPacket-clause-takes : goal.returns-in-EnhancedPacket-clause-takes
returns-in-EnhancedPacket-clause-takes g c =
    let takes = c.in_ok-read_packet-in-EnhancedPacket.ensures.takes in
    let s = told c.args.section.now in
    let found = c.in_ok-read_packet-in-EnhancedPacket.field-0 in (
      refl,
      (
        takes.0,
        took-behind c.args.start (head_bytes c.in_ok-head.head) _ _ _
            (λ block. (rest : List ℕ) → blocks_in s (block ++ rest) ≡ with_record c.read_packet.new.into.items found.original (blocks_in s rest))
            c.in_ok-head.ensures.takes takes.1,
        cut-behind s c.args.start (head_bytes c.in_ok-head.head) (head_cut s c.in_ok-head.head c.in_ok-head.ensures.is) _ _ _
            c.in_ok-head.ensures.takes takes.2,
      ),
    )
