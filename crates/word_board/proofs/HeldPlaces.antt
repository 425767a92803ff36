-- Where a held piece ends.
use Rattle.std.{proofs.Common.{ℕ, ◌+◌, ◌^◌, ◌<◌, List, ap, arith}, specs.Prelude.{◌==◌}}
use Rattle.zr_kinds.specs.declared.place.Place.{Place}
use Rattle.area_layout.{specs.Layout.{all_buffers, size_of}, proofs.Words.{words_apart}}
use Rattle.board_face.specs.{AppCalls.{HasHeld}, Sides.{IsApp}, declared.views.{parts.Setting.{Setting}, nic.NicSide.{NicSide}, app.AppSide.{AppSide}}}
use Rattle.board_face.proofs.{ListLemmas.{eqb_same}, Tallies.{one_if}, PlaceTallies.{in_buffer}, LiesLemmas.{helds-at, lies-by}}
use Rattle.ref_words.specs.{Words.{Words}, Rule.{BoardRule}}

pub held-ends : (setting : Setting) (words : Words) (nic : NicSide) (apps : List AppSide) (a : ℕ) (app : AppSide) (p : Place)
    → BoardRule setting words nic apps → IsApp apps a app → HasHeld app.view p → p.buffer < all_buffers setting.layout → p.offset + p.len < 2 ^ 32
held-ends setting words nic apps a app p rule here out within =
    let card = rule.refs.sides.set.card in
    let lies = lies-by nic apps a app here p (rule.refs.sides.placed p.buffer)
    (λ past. absurd (omega (arith, ap (λ s. all_buffers s.layout) card, past, within)))
    (omega (arith, helds-at app.view.helds p (λ q. q.buffer == p.buffer) out, ap one_if (eqb_same p.buffer)))
    (λ test. omega (arith, helds-at app.view.helds p (in_buffer p.buffer test) out)) in
    omega (arith, lies.0.bytes, ap (λ s. size_of s.layout p.buffer) card, ((words_apart setting.layout rule.refs.layout).size p.buffer).most)
