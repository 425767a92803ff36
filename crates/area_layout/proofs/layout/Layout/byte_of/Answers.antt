use Rattle.std.proofs.Common.{arith}
use Rattle.area_layout.proofs.Words.{byte-within}
use Rattle.area_layout.proofs.layout.Layout.byte_of.Goals as goal

pub returns-clause-within : goal.returns-clause-within
returns-clause-within c =
    let within = byte-within c.args.self.now c.args.p.now c.begin_of.ensures.sound c.requires in
    omega (arith, c.begin_of.ensures.value, c.from.ensures)

pub overflow_add-result : goal.overflow_add-result
overflow_add-result c =
    let within = byte-within c.args.self.now c.args.p.now c.begin_of.ensures.sound c.requires in
    omega (arith, c.begin_of.ensures.value, c.from.ensures)
