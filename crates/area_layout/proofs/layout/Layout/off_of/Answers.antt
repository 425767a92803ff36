use Rattle.std.proofs.Common.{◌≡◌, ◌*◌, arith}
use Rattle.area_layout.{specs.Layout.{begin_in_area}, proofs.Words.{place-within}}
use Rattle.area_layout.proofs.layout.Layout.off_of.Goals as goal

pub returns-clause-fits : goal.returns-clause-fits
returns-clause-fits c =
    let number = c.number_in_area.ensures.value in
    let size = c.size_of.ensures.value in
    let begin : c.from.result * c.from-2.result ≡ begin_in_area c.args.self.now c.args.p.now.buffer = cc in
    let within = place-within c.args.self.now c.args.p.now c.number_in_area.ensures.sound c.requires in
    omega arith
