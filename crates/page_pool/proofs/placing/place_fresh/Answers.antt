use Rattle.std.proofs.Common.{◌≡◌, ◌<◌, ◌+◌, [], ◌∷◌, length, take, drop, arith, refl, ap, ◌∙◌, length-append, length-take, length-drop}
use Rattle.board_face.specs.{Tokens.{filled_by}, declared.views.nic.NicView.{NicView}}
use Rattle.page_pool.proofs.PlacedParts.{FreshSoFar-none, FreshSoFar-next, FreshSoFar-last, FreshSoFar-cached, own-some, fewer-parts, owns-placed}
use Rattle.page_pool.proofs.placing.place_fresh.Goals as goal

pub loop-at-init : goal.loop-at-init
loop-at-init g c = record {
  so_far = FreshSoFar-none _ _ _ c.requires.out.0 c.requires.out.1 c.requires.out.2 c.requires.enough;
  before = c.requires.offer.some;
  total_is = refl;
  beside = refl;
}

pub returns-then-at-total-clause-places : goal.returns-then-at-total-clause-places
returns-then-at-total-clause-places g c =
    let inv = c.loop-at.invariant in
    let n_is = rw c.size.ensures.value at c.min-len.ensures in
    let size : length (take c.min-len.result (drop c.loop-at.at c.args.offer.now.payload.now))
    ≡ c.min-len.result = simp (length-take, length-drop) (grind (arith, n_is)) in
    rw (c.place_part.ensures.view, c.place_part.ensures.pieces, c.place_part.ensures.own)
    (FreshSoFar-last c.args.offer.now _ _ _ c.in_ok-own.own _ c.loop-at.at c.min-len.result _ c.requires.sound inv.so_far
    c.in_ok-own.ensures.view n_is refl size inv.before c.if-at-total.true c.requires.offer.app c.requires.offer.most)

pub loop-at-preserved : goal.loop-at-preserved
loop-at-preserved g c =
    let inv = c.loop-at.invariant in
    let n_is = rw c.size.ensures.value at c.min-len.ensures in
    let size : length (take c.min-len.result (drop c.loop-at.at c.args.offer.now.payload.now))
    ≡ c.min-len.result = simp (length-take, length-drop) (grind (arith, n_is)) in
    let rest : c.loop-at.at + c.min-len.result < length c.args.offer.now.payload.now = grind (arith, n_is, inv.before, c.if-at-total.false) in
    let closed = rw (c.place_part.ensures.view, c.place_part.ensures.own) at c.shut.ensures.view in
    record {
      so_far = rw c.place_part.ensures.pieces
          (FreshSoFar-next c.args.offer.now _ _ _ _ c.in_ok-own.own _ c.loop-at.at c.min-len.result _ inv.so_far c.in_ok-own.ensures.view
          n_is refl size rest c.requires.offer.app c.requires.offer.most closed);
      before = rest;
      total_is = refl;
      beside = cc;
    }

pub returns-clause-places : goal.returns-clause-places
returns-clause-places g c = absurd (omega (arith, c.loop-at.invariant.before, c.loop-at-test.false))

pub returns-in_err-own-clause-places : goal.returns-in_err-own-clause-places
returns-in_err-own-clause-places g c =
    let inv = c.loop-at.invariant in
    absurd (FreshSoFar-cached _ _ _ _ _ c.requires.sound inv.so_far inv.before c.in_err-own.ensures.view.0)

pub returns-in_err-own-clause-few : goal.returns-in_err-own-clause-few
returns-in_err-own-clause-few g c =
    let inv = c.loop-at.invariant in
    omega (arith, fewer-parts _ _ _ _ _ c.requires.sound inv.so_far inv.before, c.requires.few)

pub place_part-requires-clause-part : goal.place_part-requires-clause-part
place_part-requires-clause-part g c =
    let inv = c.loop-at.invariant in
    let some = own-some _ _ _ _ _ _ _ c.requires.sound inv.so_far c.in_ok-own.ensures.view in
    record {
      some = omega (arith, some, c.size.ensures.value, c.min-len.ensures, inv.before);
      within = omega (arith, c.min-len.ensures, inv.before, inv.total_is);
      most = c.requires.offer.most;
    }

pub place_part-requires-clause-room : goal.place_part-requires-clause-room
place_part-requires-clause-room g c =
    let inv = c.loop-at.invariant in
    omega (arith, fewer-parts _ _ _ _ _ c.requires.sound inv.so_far inv.before, c.requires.few)

pub returns-then-at-total-clause-few : goal.returns-then-at-total-clause-few
returns-then-at-total-clause-few g c =
    let inv = c.loop-at.invariant in
    let fewer = fewer-parts _ _ _ _ _ c.requires.sound inv.so_far inv.before in
    simp (c.place_part.ensures.pieces, length-append) (omega (arith, fewer, c.requires.few))

pub shut-requires-clause-out : goal.shut-requires-clause-out
shut-requires-clause-out g c =
    let n_is = rw c.size.ensures.value at c.min-len.ensures in
    let size : length (take c.min-len.result (drop c.loop-at.at c.args.offer.now.payload.now))
    ≡ c.min-len.result = simp (length-take, length-drop) (grind (arith, n_is)) in
    let out = ap (λ (v : NicView). v.owns) c.place_part.ensures.view
    ∙ owns-placed _ _ c.in_ok-own.own (take c.min-len.result (drop c.loop-at.at c.args.offer.now.payload.now)) c.loop-at.invariant.so_far.owns
    c.in_ok-own.ensures.view ∙ ap (λ n. filled_by c.in_ok-own.own n ∷ []) size in
    rw (out, c.place_part.ensures.own) (0, omega arith, refl)

pub loop-at-smaller : goal.loop-at-smaller
loop-at-smaller g c =
    let inv = c.loop-at.invariant in
    let some = own-some _ _ _ _ _ _ _ c.requires.sound inv.so_far c.in_ok-own.ensures.view in
    omega (arith, some, c.size.ensures.value, c.min-len.ensures, inv.before)
