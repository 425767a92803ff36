-- An enhanced packet's numbers stand in its fixed bytes.
use Rattle.std.proofs.Common.{◌≡◌, length, arith, ◌∙◌}
use Rattle.pcapng_reader.proofs.Heads.{number_of, item_found}
use Rattle.pcapng_reader.proofs.packet.enhanced.Goals as goal

pub returns : goal.returns
returns c =
    let order = c.args.section.now.order in
    let bytes = c.args.head.now.bytes in
    let size : length bytes ≡ 28 = omega arith in
    rw c.requires.kind (
      item_found _ _ _ c.get.ensures.lookup ∙ cc (number_of order 8 4 28 bytes 20 c.number32-number.result (omega arith) (omega arith) (omega arith) c.number32-number.ensures, c.deref.ensures.value),
      number_of order 20 4 28 bytes 8 c.number32.result (omega arith) (omega arith) (omega arith) c.number32.ensures,
      number_of order 24 4 28 bytes 4 c.number32-2.result (omega arith) (omega arith) (omega arith) c.number32-2.ensures,
    )
