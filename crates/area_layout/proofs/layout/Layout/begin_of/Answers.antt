use Rattle.std.proofs.Common.{◌≡◌, ◌*◌, ◌<◌, length, get_or, arith}
use Rattle.area_layout.{specs.Layout.{Shape, no_area}, proofs.{Areas.{upto-here, upto-later, upto-behind}, Words.{first_size, upto-now, part-few}}}
use Rattle.area_layout.proofs.layout.Layout.begin_of.Goals as goal

pub returns-then-left-area-clause-value : goal.returns-then-left-area-clause-value
returns-then-left-area-clause-value c =
    let inside : Shape = record { areas = c.self.inside.areas; reserves = c.self.inside.reserves } in
    let there : c.loop-area.area-index < length inside.areas = let four = c.self.invariant.four in omega arith in
    let upto = upto-now inside c.args.self.now c.args.buffer c.self.view_is in
    let here = upto-here (first_size inside) inside.areas c.loop-area.area-index c.loop-area.left no_area there c.if-left-area.true in
    let product : c.from.result * c.from-then-left-area.result ≡ c.loop-area.left * (get_or inside.areas c.loop-area.area-index no_area).size = cc in
    omega (arith, c.loop-area.invariant)

pub overflow_add-result : goal.overflow_add-result
overflow_add-result c =
    let inside : Shape = record { areas = c.self.inside.areas; reserves = c.self.inside.reserves } in
    let there : c.loop-area.area-index < length inside.areas = let four = c.self.invariant.four in omega arith in
    let few = part-few inside c.args.self.now c.args.buffer c.loop-area.bytes _ c.self.view_is c.self.invariant c.requires c.loop-area.invariant in
    let here = upto-here (first_size inside) inside.areas c.loop-area.area-index c.loop-area.left no_area there c.if-left-area.true in
    let product : c.from.result * c.from-then-left-area.result ≡ c.loop-area.left * (get_or inside.areas c.loop-area.area-index no_area).size = cc in
    omega arith

pub overflow_add-bytes : goal.overflow_add-bytes
overflow_add-bytes c =
    let inside : Shape = record { areas = c.self.inside.areas; reserves = c.self.inside.reserves } in
    let there : c.loop-area.area-index < length inside.areas = let four = c.self.invariant.four in omega arith in
    let few = part-few inside c.args.self.now c.args.buffer c.loop-area.bytes _ c.self.view_is c.self.invariant c.requires c.loop-area.invariant in
    let later = upto-later (first_size inside) inside.areas c.loop-area.area-index c.loop-area.left no_area there (omega arith) in
    let area = get_or inside.areas c.loop-area.area-index no_area in
    let product : c.from-in-loop-area.result * c.from-in-loop-area-2.result ≡ area.buffers * area.size = cc in
    omega arith

pub overflow_add-result-2 : goal.overflow_add-result-2
overflow_add-result-2 c =
    let inside : Shape = record { areas = c.self.inside.areas; reserves = c.self.inside.reserves } in
    let few = part-few inside c.args.self.now c.args.buffer c.loop-area.bytes _ c.self.view_is c.self.invariant c.requires c.loop-area.invariant in
    let four = c.self.invariant.four in
    let behind = upto-behind (first_size inside) inside.areas c.loop-area.area-index c.loop-area.left (omega arith) in
    let product : c.from-2.result * c.from-3.result ≡ c.loop-area.left * first_size inside = cc in
    omega arith

pub returns-clause-value : goal.returns-clause-value
returns-clause-value c =
    let inside : Shape = record { areas = c.self.inside.areas; reserves = c.self.inside.reserves } in
    let upto = upto-now inside c.args.self.now c.args.buffer c.self.view_is in
    let four = c.self.invariant.four in
    let behind = upto-behind (first_size inside) inside.areas c.loop-area.area-index c.loop-area.left (omega arith) in
    let product : c.from-2.result * c.from-3.result ≡ c.loop-area.left * first_size inside = cc in
    omega (arith, c.loop-area.invariant)
