use Rattle.std.{proofs.Common.{◌≡◌, ◌+◌, suc, nat_eq, take, None, ◌∙◌, ap, subst, sym, arith}, specs.Map.{lookup}}
use Rattle.zc_forward.{specs.{declared.sent.Sent.{Sent}, Sending.{tags_of}}, proofs.Sents.{at-same, first-gone, none-yet}}
use Rattle.zc_forward.proofs.sent.place_of.Goals as goal

pub returns-then-out-i : goal.returns-then-out-i
returns-then-out-i c =
    let here = c.loop-i-test.true in
    let is = c.index-out-i.is in
    let tag = ap (λ (s : Sent). s.tag) is ∙ c.if-out-i.true in (
      here,
      λ sent at. ap (λ (s : Sent). s.tag) (at-same c.loop-i.i c.args.out.now c.index-out-i.result sent here is at) ∙ tag,
      first-gone c.args.tag c.loop-i.i c.args.out.now c.index-out-i.result c.loop-i.invariant here is tag,
    )

pub loop-i-preserved : goal.loop-i-preserved
loop-i-preserved c =
    let is = c.index-out-i.is in
    let next : suc c.loop-i.i ≡ c.loop-i.i + 1 = omega arith in
    subst (λ i. lookup (nat_eq c.args.tag) (tags_of (take i c.args.out.now)) ≡ None) next
    (none-yet c.args.tag c.loop-i.i c.args.out.now c.index-out-i.result c.loop-i.invariant c.loop-i-test.true is
    (λ same. c.if-out-i.false (ap (λ (s : Sent). s.tag) (sym is) ∙ same)))
