use Rattle.std.proofs.Common.{◌≡◌, ◌∙◌, sym, ap, subst, ℕ}
use Rattle.area_layout.{specs.Layout.{Shape, IsBufferSize, area_at, area_of_buffer}, proofs.Words.{size-fits}}
use Rattle.area_layout.proofs.layout.Layout.size_of.Goals as goal

pub returns-clause-within : goal.returns-clause-within
returns-clause-within c =
    let inside : Shape = record { areas = c.self.inside.areas; reserves = c.self.inside.reserves } in
    let area : c.area_of.result ≡ area_of_buffer inside c.args.buffer =
    c.area_of.ensures.value ∙ ap (λ (s : Shape). area_of_buffer s c.args.buffer) (sym c.self.view_is) in
    let P : ℕ → Type 0 = λ n. IsBufferSize (area_at inside n).size in
    subst P (sym area) (size-fits inside c.args.buffer c.self.invariant)
