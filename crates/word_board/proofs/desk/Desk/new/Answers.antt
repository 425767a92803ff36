-- A desk that gave nothing, and to which nobody went back.
use Rattle.std.{proofs.Common.{◌≡◌, ℕ, suc, ◌∷◌, [], false, get_or, refl, ap, sym, ◌∙◌, arith, subst, length-append}, specs.Prelude.{IfSome, Option, Some}}
use Rattle.std.proofs.lemmas.List.Elements.{All-nil}
use Rattle.board_face.{specs.NicCalls.{apps_of}, proofs.Tallies.{one_if}}
use Rattle.ref_words.specs.{declared.view.View.{View}, Over.{CardIsOver, AppIsOver}, Seated.{times_in}}
use Rattle.word_board.specs.{Desk.{AreOver, cache_back}, Hands.{IsNew}, declared.hands.AppHand.{AppHand}}
use Rattle.word_board.proofs.AtDesk.{hands-push, none-given, none-more, HasDealt-none}
use Rattle.word_board.proofs.desk.Desk.new.Goals as goal

pub loop-app-init : goal.loop-app-init
loop-app-init c = rw c.in_ok-hands.ensures.items (record { many = refl; fresh = λ a. tt; untaken = refl })

pub loop-app-preserved : goal.loop-app-preserved
loop-app-preserved c =
    let h = c.loop-app.invariant in
    let hand = c.in_ok-new.field-0 in
    let made = c.in_ok-new.ensures in
    let n = c.loop-app._app in
    let setting = c.args.setting in
    let keeps : ℕ → Option AppHand → Type 0 = λ a o. IfSome o
    (λ hand. IsNew setting hand.note hand.entry hand.raw hand.loans.items hand.filled.items) in
    let new : IsNew setting hand.note hand.entry hand.raw hand.loans.items hand.filled.items = record {
      slots = made.slots;
      none_out = made.loans;
      none_filled = made.filled;
    } in
    rw c.in_ok-push.ensures.items (record {
      many = omega (arith, length-append c.loop-app.hands.items (Some hand ∷ []), h.many);
      fresh = hands-push keeps (λ a. tt) c.loop-app.hands.items hand h.fresh new;
      untaken = none-given c.loop-app.hands.items hand n h.untaken;
    })

pub invariant_of-result : goal.invariant_of-result
invariant_of-result c =
    let h = c.loop-app.invariant in
    let setting = c.args.setting in
    let view = ap (λ me. me.0) c.requires.role in
    let many : c.loop-app._app ≡ apps_of setting = omega (arith, c.buffers-buffers.ensures.value, c.total.ensures.value) in (
      c.requires.number,
      ap (λ me. me.1) c.requires.role,
      (λ r. ap (λ (v : View). times_in {V = View} (λ v. v.dealt) (λ x. x) r v.dealt) view
          ∙ sym (ap (λ bs. one_if (get_or (false ∷ bs) r false)) h.untaken ∙ HasDealt-none (suc c.loop-app._app) r)),
      h.many ∙ many,
      h.fresh,
      subst AreOver (sym view) (record { card = All-nil CardIsOver; apps = All-nil AppIsOver; due = refl }),
      c.new-2.ensures ∙ sym (ap (λ (v : View). cache_back v.nics) view),
      omega (arith, c.in_ok-vec.field-0.ok, c.in_ok-vec.ensures.len, c.buffers-buffers.ensures.value),
      c.in_ok-with_capacity.ensures.items,
      omega (arith, c.in_ok-with_capacity.ensures.capacity, c.buffers-buffers.ensures.value),
    )

pub returns : goal.returns
returns c =
    let h = c.loop-app.invariant in
    let many : c.loop-app._app ≡ apps_of c.args.setting = omega (arith, c.buffers-buffers.ensures.value, c.total.ensures.value) in
    rw (ap (λ me. me.0) c.requires.role, h.untaken, many, none-more (apps_of c.args.setting)) refl
