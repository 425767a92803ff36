use Rattle.std.proofs.Common.{rules, ℕ, ◌≤◌, ◌∙◌, refl, arith}
use Rattle.board_face.specs.declared.views.app.{AppView.{AppView}, HeldPiece.{HeldPiece}}
use Rattle.tcp_reorder.specs.{Queue.{Queue}, Gaps.{LosesFirst}}
use Rattle.flow_queues.{specs.{declared.queues.Waiting.{Waiting}, Core.{total, over_kept}, Pieces.{OnlyHelds, IsOut}}, proofs.Lends.{first-is-out}}
use Rattle.flow_queues.proofs.Releasing.{released-one}
use Rattle.flow_queues.proofs.letting.release_kept.Goals as goal

pub loop-waiting-init : goal.loop-waiting-init
loop-waiting-init g c = (record { view = refl; apart = c.requires.holds.apart; moved = λ f. refl }, refl, refl)

-- the first piece is out
out-too : (u v : AppView) (was now : Queue Waiting) → ((f : HeldPiece → ℕ) → over_kept f was ≤ total f u.helds)
    → OnlyHelds u v (λ f. over_kept f was) (λ f. over_kept f now) → (f : HeldPiece → ℕ) → over_kept f now ≤ total f v.helds
out-too u v was now out only f = omega (arith, out f, only.moved f)

pub give_back-requires-clause-out : goal.give_back-requires-clause-out
give_back-requires-clause-out g c =
    let u : AppView = g.F.AppFace.seen c.args.face.now in
    let v : AppView = g.F.AppFace.seen c.loop-waiting.face in
    let loses : LosesFirst c.loop-waiting.queue c.pull.new.self c.in-Some.waiting c.in-Some.field-0-1 = c.in-Some.ensures.popped in
    first-is-out v c.loop-waiting.queue c.pull.new.self c.in-Some.waiting c.in-Some.field-0-1 loses
    (out-too u v c.args.queue.now c.loop-waiting.queue c.requires.out c.loop-waiting.invariant.0)

pub loop-waiting-preserved : goal.loop-waiting-preserved
loop-waiting-preserved g c =
    let u : AppView = g.F.AppFace.seen c.args.face.now in
    let v : AppView = g.F.AppFace.seen c.loop-waiting.face in
    let loses : LosesFirst c.loop-waiting.queue c.pull.new.self c.in-Some.waiting c.in-Some.field-0-1 = c.in-Some.ensures.popped in
    let out : IsOut v c.in-Some.waiting = first-is-out v c.loop-waiting.queue c.pull.new.self c.in-Some.waiting c.in-Some.field-0-1 loses
    (out-too u v c.args.queue.now c.loop-waiting.queue c.requires.out c.loop-waiting.invariant.0) in
    rw c.give_back.ensures.view (
      released-one u v (λ f. over_kept f c.args.queue.now) c.loop-waiting.queue c.pull.new.self c.in-Some.waiting c.in-Some.field-0-1
          loses out c.loop-waiting.invariant.0,
      loses.base ∙ c.loop-waiting.invariant.1,
      search rules,
    )
