use Rattle.std.proofs.Common.{◌≡◌, ℕ, ◌≤◌, ◌∙◌, sym, ap, subst, arith}
use Rattle.area_layout.{specs.Layout.{Shape, IsBufferSize, least_size, size_of}, proofs.{Areas.{least-end}, Words.{first_size, layout-now, in_order}}}
use Rattle.area_layout.proofs.layout.Layout.size.Goals as goal

least-found : (c : goal.After-loop-area) → c.loop-area.least ≡ least_size c.args.self.now
least-found c =
    let inside : Shape = record { areas = c.self.inside.areas; reserves = c.self.inside.reserves } in
    let four = c.self.invariant.four in
    least-end (first_size inside) c.loop-area.least inside.areas c.loop-area.area-index (omega arith) c.loop-area.invariant.most
    c.loop-area.invariant.least
    ∙ ap (λ (s : Shape). least_size s) c.self.view_is

pub returns-clause-within : goal.returns-clause-within
returns-clause-within c =
    let P : ℕ → Type 0 = IsBufferSize in
    subst P (sym (least-found c)) (in_order c.args.self.now (layout-now _ _ c.self.view_is c.self.invariant)).some

pub returns-clause-least : goal.returns-clause-least
returns-clause-least c = λ b there.
    let P : ℕ → Type 0 = λ n. n ≤ size_of c.args.self.now b in
    subst P (sym (least-found c)) ((in_order c.args.self.now (layout-now _ _ c.self.view_is c.self.invariant)).least b)
