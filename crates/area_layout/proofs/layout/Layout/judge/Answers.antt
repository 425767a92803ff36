use Rattle.std.proofs.Common.{ap, arith}
use Rattle.area_layout.{specs.Layout.{Shape, area_at, area_of}, proofs.Words.{get_or-le-buffers}}
use Rattle.area_layout.proofs.layout.Layout.judge.Goals as goal

pub returns-then-buffer-area-clause-within : goal.returns-then-buffer-area-clause-within
returns-then-buffer-area-clause-within c =
    let n = area_of c.args.e.now.off in
    let all = get_or-le-buffers c.args.self.now n in
    let same = ap (λ (s : Shape). (area_at s n).buffers) c.self.view_is in
    let before = c.buffers_before.ensures.value in
    let within = c.if-buffer-area.true in
    omega arith
