-- A block that says nothing of packets.
use Rattle.std.proofs.{Common.{[], ap, refl, arith}, lemmas.Result.{err_from_is_err_and}}
use Rattle.zr_io.proofs.Moved.{Took-weaker}
use Rattle.pcapng_reader.{specs.{Blocks.{Kind, fixed_fault, is_packet, section_behind}, Steps.{told, head_bytes, IsHeaderFault}}, proofs.BlockLaws.{fits-room}}
use Rattle.pcapng_reader.proofs.{BlockSteps.{end-stops, end-alone}, WholeBlocks.{block-passed}}
use Rattle.pcapng_reader.proofs.blocks.pass_over.Goals as goal

pub returns-in_err-read_end-clause-passes : goal.returns-in_err-read_end-clause-passes
returns-in_err-read_end-clause-passes g c =
    let p = err_from_is_err_and c.from_residual.result c.from_residual.ensures.1 in
    let s = told c.args.section.now in
    let head = c.args.head.now in
    let h = c.requires.head in
    let fits = fits-room head.kind head.total h.may.fits in
    rw (p.1, p.2)
    (end-stops s head.kind head.order head.total (head_bytes head) h.whole h.begun h.may
    (ap (λ (k : Kind). fixed_fault s k head.order (head_bytes head)) c.requires.kind) [] c.room.result (omega arith) IsHeaderFault _ _ _ tt tt tt
    c.in_err-read_end.ensures.takes)

pub returns-clause-passes : goal.returns-clause-passes
returns-clause-passes g c =
    let s = told c.args.section.now in
    let head = c.args.head.now in
    let h = c.requires.head in
    let fits = fits-room head.kind head.total h.may.fits in (
      refl,
      Took-weaker _ _ _ _ (λ tail last. block-passed s head.kind head.order head.total (head_bytes head) h.whole h.begun h.may
          (ap (λ (k : Kind). fixed_fault s k head.order (head_bytes head)) c.requires.kind) [] tail c.room.result (omega arith) last _
          (ap is_packet c.requires.kind) (ap (λ (k : Kind). section_behind s k (head_bytes head)) c.requires.kind)) c.in_ok-read_end.ensures.takes,
      end-alone s head.kind head.order head.total (head_bytes head) h.whole h.begun h.may
          (ap (λ (k : Kind). fixed_fault s k head.order (head_bytes head)) c.requires.kind) [] c.room.result (omega arith) _ _
          c.in_ok-read_end.ensures.takes,
    )
