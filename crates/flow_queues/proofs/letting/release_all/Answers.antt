use Rattle.std.proofs.Common.{rules, ◌≡◌, ℕ, ◌≤◌, ◌<◌, ◌∙◌, [], ◌∷◌, List, length, set, get_or, sym, ap, arith}
use Rattle.board_face.specs.declared.views.app.{HeldPiece.{HeldPiece}, AppView.{AppView}}
use Rattle.flow_queues.specs.{declared.queues.FlowQueue.{FlowQueue}, Core.{total, over_kept, over_waiting, short_len, short_bytes}, Pieces.{OnlyHelds}}
use Rattle.flow_queues.proofs.{Tokens.{total-append}, Standing.{At, split-at, total-changed}}
use Rattle.flow_queues.proofs.Releasing.{map-set, total-take-set, length-set-same, total-take-all, total-none}
use Rattle.flow_queues.proofs.letting.release_all.Goals as goal

pub release_kept-requires-clause-out : goal.release_kept-requires-clause-out
release_kept-requires-clause-out g c = λ f.
    let v : AppView = g.F.AppFace.seen c.loop-i.face in
    let own : FlowQueue = c.index_mut.result.now in
    let flows : List FlowQueue = c.loop-i.flows.items in
    let within : c.loop-i.i < length flows = search rules in
    let at : At flows c.loop-i.i own = split-at flows c.loop-i.i own within c.index_mut.ensures.value in
    let over : FlowQueue → ℕ = λ flow. over_kept f flow.queue in
    omega (arith, c.loop-i.invariant.2 f, ap (total over) at.is, total-append over at.before (own ∷ at.after))

pub returns-clause-released : goal.returns-clause-released
returns-clause-released g c =
    let inv = c.loop-i.invariant in
    let v : AppView = g.F.AppFace.seen c.loop-i.face in
    let past : length c.loop-i.flows.items ≤ c.loop-i.i = search rules in
    let none : total (λ _. 1) v.helds ≡ 0 = inv.2 (λ _. 1)
    ∙ sym (total-take-all (λ flow. over_kept (λ _. 1) flow.queue) c.loop-i.flows.items c.loop-i.i past) ∙ inv.3 in
    let empty : v.helds ≡ [] = total-none v.helds none in
    record {
      view = inv.0 ∙ ap (λ hs. record (g.F.AppFace.seen c.args.face.now) { helds = hs }) empty;
      facts = inv.5;
      short = sym (total-take-all (λ flow. short_bytes flow.queue) c.loop-i.flows.items c.loop-i.i past) ∙ inv.7;
    }

pub loop-i-preserved : goal.loop-i-preserved
loop-i-preserved g c =
    let inv = c.loop-i.invariant in
    let v : AppView = g.F.AppFace.seen c.loop-i.face in
    let w : AppView = g.F.AppFace.seen c.release_kept.new.face in
    let own : FlowQueue = c.index_mut.result.now in
    let now : FlowQueue = record own { queue = c.release_kept.new.queue } in
    let flows : List FlowQueue = c.loop-i.flows.items in
    let i : ℕ = c.loop-i.i in
    let within : i < length flows = search rules in
    let value : own ≡ get_or flows i own = c.index_mut.ensures.value in
    let at : At flows i own = split-at flows i own within value in
    let only : OnlyHelds v w (λ f. over_kept f own.queue) (λ f. 0) = c.release_kept.ensures.only in
    let none : (f : HeldPiece → ℕ) → over_kept f c.release_kept.new.queue
    ≡ 0 = λ f. ap (total (λ k. over_waiting f k.piece)) c.release_kept.ensures.empty in
    let no_bytes : short_bytes c.release_kept.new.queue ≡ 0 = ap (total (λ k. short_len k.piece)) c.release_kept.ensures.empty in
    let sums : (f : HeldPiece → ℕ) → total f w.helds ≡ total (λ flow. over_kept f flow.queue) (set flows i now) = λ f.
    (let over : FlowQueue → ℕ = λ flow. over_kept f flow.queue in omega
    (arith, only.moved f, inv.2 f, ap (total over) at.is, ap (total over) (at.set_is now), total-changed at.before at.after own now over, none f)) in (
      only.view ∙ ap (λ (x : AppView). record x { helds = w.helds }) inv.0,
      only.apart,
      sums,
      total-take-set (λ flow. over_kept (λ _. 1) flow.queue) flows i now within ∙ (omega (arith, inv.3, none (λ _. 1))),
      omega (arith, length-set-same flows i now),
      map-set _ flows i own now within value (ap (λ b. record { number = own.number; base = b; bytes = own.bytes }) c.release_kept.ensures.base) ∙ inv.5,
      search rules,
      total-take-set (λ flow. short_bytes flow.queue) flows i now within ∙ (omega (arith, inv.7, no_bytes)),
    )
