-- A packet is judged by its head; then its bytes and the rest of its block are read.
use Rattle.std.proofs.{Common.{◌≡◌, ℕ, ◌+◌, ◌-◌, ◌<◌, true, List, ◌++◌, length, Option, Ok, Err, ap, sym, refl, subst, ◌∙◌, arith}, lemmas.Result.{err_from_is_err_and}}
use Rattle.std.specs.Io.KnownBytes.{Consumes}
use Rattle.zr_kinds.specs.declared.fault.Fault.{Fault, TheVariants.{Memory}}
use Rattle.zr_io.{specs.Moved.{Took}, proofs.Moved.{Took-consumed, Took-nothing, Took-then}}
use Rattle.pcap_reader.{specs.{Records.{with_record}, Steps.{BodyStops}, declared.capture.Record.{Record}}, proofs.Joined.{always, fronts-short}}
use Rattle.pcapng_reader.specs.{declared.head.Head.{Head}, Blocks.{Section, fixed_len, is_packet, block_fault, blocks_in}, Capture.{IsRecordFault, WantsHere}}
use Rattle.pcapng_reader.{specs.Steps.{told, head_bytes, fault_from, IsHead, IsPacket, BlockStops, IsCutBefore, TakesEnd}, proofs.BlockLaws.{head-fault, head-cut}}
use Rattle.pcapng_reader.proofs.BlockSteps.{stops-broken, stops-then, cut-then, packet-stops, end-stops, end-alone}
use Rattle.pcapng_reader.proofs.WholeBlocks.{head-alone, packet-wants, packet_keeps, block-record}
use Rattle.pcapng_reader.proofs.blocks.read_packet.Goals as goal

module _ (s : Section) (head : Head) (h : IsHead s head) (found : Record) (is : IsPacket s head (Ok found)) where
  size : (frame : List ℕ) (room : ℕ) → length frame ≡ found.captured → room + (fixed_len head.kind + 4) ≡ head.total
      → fixed_len head.kind + length frame + (room - found.captured) + 4 ≡ head.total
  size frame room whole rest = let fits = is.4 in omega arith

  -- the captured bytes weren't taken whole
  body-stops : (a b : Option (List ℕ)) (fault : Fault) → BodyStops found.captured a b fault
      → BlockStops IsRecordFault (fault_from s (head_bytes head)) a b fault
  body-stops a b Memory stops = (
    tt,
    always a,
    Took-nothing a b _ stops.1 (head-alone s head.kind head.order head.total (head_bytes head) h.whole h.begun h.may is.0),
    λ bad. absurd bad,
  )
  body-stops a b fault stops =
      stops-broken IsRecordFault (fault_from s (head_bytes head)) a b (λ xs. length xs < found.captured) fault tt tt
      (λ xs short. head-cut s head.kind head.order head.total (head_bytes head) h.whole h.begun h.may is.0 xs
      (let fits = is.4 in omega arith)) stops

  body-wants : is_packet head.kind ≡ true → (a b : Option (List ℕ)) → BodyStops found.captured a b Memory
      → Took a b (λ taken. WantsHere s (head_bytes head ++ taken))
  body-wants packet a b stops =
      let captured = is.1 in
      let most = is.3 in
      let some = stops.0 in
      Took-nothing a b _ stops.1
      (packet-wants s head.kind head.order head.total (head_bytes head) h.whole h.begun h.may is.0 packet (omega arith) (omega arith))

  module _ (a b c : Option (List ℕ)) (frame : List ℕ) (room : ℕ) (whole : length frame ≡ found.captured)
      (rest : room + (fixed_len head.kind + 4) ≡ head.total) (consumed : Consumes a b frame)
    where
      same_frame : (xs ys : List ℕ) → xs ≡ frame → block_fault s (head_bytes head ++ (xs ++ ys)) ≡ block_fault s (head_bytes head ++ (frame ++ ys))
      same_frame xs ys same = ap (λ (l : List ℕ). block_fault s (head_bytes head ++ (l ++ ys))) same

      frame_cuts : (xs : List ℕ) → xs ≡ frame → IsCutBefore (fault_from s (head_bytes head)) xs
      frame_cuts xs same = fronts-short _ xs (λ part short.
          head-cut s head.kind head.order head.total (head_bytes head) h.whole h.begun h.may is.0 part
          (let fits = is.4 in omega (arith, ap length same)))

      tail-stops : (fault : Fault) → TakesEnd head.order head.total (room - found.captured) b c (Err fault)
          → BlockStops IsRecordFault (fault_from s (head_bytes head)) a c fault
      tail-stops fault ends =
          stops-then IsRecordFault (fault_from s (head_bytes head)) (λ ys. block_fault s (head_bytes head ++ (frame ++ ys))) a b c (λ xs. xs ≡ frame) fault
          same_frame frame_cuts (Took-consumed a b frame _ consumed refl)
          (end-stops s head.kind head.order head.total (head_bytes head) h.whole h.begun h.may is.0 frame (room - found.captured) (size frame room whole rest)
          IsRecordFault b c fault tt tt tt ends)

      packet-alone : TakesEnd head.order head.total (room - found.captured) b c (Ok tt) → Took a c (IsCutBefore (fault_from s (head_bytes head)))
      packet-alone ends =
          cut-then IsRecordFault (fault_from s (head_bytes head)) (λ ys. block_fault s (head_bytes head ++ (frame ++ ys))) a b c (λ xs. xs ≡ frame)
          same_frame frame_cuts (Took-consumed a b frame _ consumed refl)
          (end-alone s head.kind head.order head.total (head_bytes head) h.whole h.begun h.may is.0 frame (room - found.captured) (size frame room whole rest)
          b c ends)

      took-packet : is_packet head.kind ≡ true → TakesEnd head.order head.total (room - found.captured) b c (Ok tt)
          → Took a c (λ taken. (more : List ℕ) → blocks_in s ((head_bytes head ++ taken) ++ more) ≡ with_record frame found.original (blocks_in s more))
      took-packet packet ends =
          Took-then a b c (λ xs. xs ≡ frame) _ _
          (λ xs tail same last more. ap (λ (l : List ℕ). blocks_in s ((head_bytes head ++ (l ++ tail)) ++ more)) same
          ∙ block-record s head.kind head.order head.total (head_bytes head) h.whole h.begun h.may is.0 frame tail (room - found.captured)
          (size frame room whole rest) last packet (is.1 ∙ sym whole) (packet_keeps s head.kind (head_bytes head) packet) more
          ∙ ap (λ (n : ℕ). with_record frame n (blocks_in s more)) is.2)
          (Took-consumed a b frame _ consumed refl) ends

pub returns-in_err-record-clause-takes : goal.returns-in_err-record-clause-takes
returns-in_err-record-clause-takes g c =
    let p = err_from_is_err_and c.from_residual.result c.from_residual.ensures.1 in
    let s = told c.args.section.now in
    let head = c.args.head.now in
    let h = c.requires.head in
    let judged = c.in_err-record.ensures in
    rw (p.1, p.2)
    (packet-stops (fault_from s (head_bytes head)) _ _ judged.0
    (λ rest. head-fault s head.kind head.order head.total (head_bytes head) h.whole h.begun h.may _ judged.1 rest))

pub returns-in_err-read_body-clause-takes : goal.returns-in_err-read_body-clause-takes
returns-in_err-read_body-clause-takes g c =
    let p = err_from_is_err_and c.from_residual-in_err-read_body.result c.from_residual-in_err-read_body.ensures.1 in
    rw (p.1, p.2)
    (body-stops (told c.args.section.now) c.args.head.now c.requires.head c.in_ok-record.record c.in_ok-record.ensures _ _ _ c.in_err-read_body.ensures.takes)

pub returns-in_err-read_body-clause-memory : goal.returns-in_err-read_body-clause-memory
returns-in_err-read_body-clause-memory g c = λ same.
    let p = err_from_is_err_and c.from_residual-in_err-read_body.result c.from_residual-in_err-read_body.ensures.1 in
    let wanted : c.in_err-read_body.field-0.0 ≡ Memory = cc (p.1, p.2, same) in
    body-wants (told c.args.section.now) c.args.head.now c.requires.head c.in_ok-record.record c.in_ok-record.ensures c.requires.kind _ _
    (subst (BodyStops c.in_ok-record.record.captured _ _) wanted c.in_err-read_body.ensures.takes)

pub returns-in_err-read_end-clause-takes : goal.returns-in_err-read_end-clause-takes
returns-in_err-read_end-clause-takes g c =
    let p = err_from_is_err_and c.from_residual-in_err-read_end.result c.from_residual-in_err-read_end.ensures.1 in
    let body = c.in_ok-read_body.ensures.takes in
    let fits = c.in_ok-record.ensures.4 in
    rw (p.1, p.2)
    (tail-stops (told c.args.section.now) c.args.head.now c.requires.head c.in_ok-record.record c.in_ok-record.ensures _ _ _ c.read_body.new.into.items
    c.room.result body.0 (omega arith) body.1 _ c.in_err-read_end.ensures.takes)

pub returns-clause-takes : goal.returns-clause-takes
returns-clause-takes g c =
    let body = c.in_ok-read_body.ensures.takes in
    let fits = c.in_ok-record.ensures.4 in (
      sym body.0,
      took-packet (told c.args.section.now) c.args.head.now c.requires.head c.in_ok-record.record c.in_ok-record.ensures _ _ _
          c.read_body.new.into.items c.room.result body.0 (omega arith) body.1 c.requires.kind c.in_ok-read_end.ensures.takes,
      packet-alone (told c.args.section.now) c.args.head.now c.requires.head c.in_ok-record.record c.in_ok-record.ensures _ _ _
          c.read_body.new.into.items c.room.result body.0 (omega arith) body.1 c.in_ok-read_end.ensures.takes,
    )
