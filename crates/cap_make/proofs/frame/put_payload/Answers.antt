use Rattle.std.proofs.Common.{◌≡◌, ◌+◌, ◌*◌, ◌++◌, length, ap, ◌∙◌, append_assoc, length-append, arith}
use Rattle.cap_make.proofs.Payload.{length-bytes_from, bytes_from-snoc}
use Rattle.cap_make.proofs.frame.put_payload.Goals as goal

pub push-requires : goal.push-requires
push-requires c =
    let shift = 31 * c.from.result + c.from-2.result in
    let many : length c.loop-i.block.items ≡ length c.args.block.now.items + c.loop-i.i =
    ap length c.loop-i.invariant ∙ length-append c.args.block.now.items _
    ∙ ap (λ n. length c.args.block.now.items + n) (length-bytes_from shift c.args.piece.first c.loop-i.i) in
    (omega arith, omega arith)

pub loop-i-preserved : goal.loop-i-preserved
loop-i-preserved c =
    let shift = 31 * c.from.result + c.from-2.result in
    rw (c.push.ensures.items, c.loop-i.invariant, append_assoc) (ap (λ l. c.args.block.now.items ++ l) (bytes_from-snoc shift c.args.piece.first c.loop-i.i))

pub returns : goal.returns
returns c =
    let same : c.loop-i.i ≡ c.args.piece.count = omega arith in
    rw (c.loop-i.invariant, same, c.from.ensures, c.from-2.ensures)
