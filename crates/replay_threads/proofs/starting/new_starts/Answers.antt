-- What one more application begins with.
use Rattle.std.{proofs.Common.{◌≡◌, length, Some, None, sym, ap, ◌∙◌, subst, arith}, specs.List.{slice_get}}
use Rattle.replay_threads.specs.{Seated.{IsStart}, declared.seated.Start.{Start}}
use Rattle.run_account.proofs.Places.{here, there, in-push, length-push}
use Rattle.replay_threads.proofs.starting.new_starts.Goals as goal

pub loop-app-init : goal.loop-app-init
loop-app-init c = record {
  many = ap length c.in_ok-starts.ensures.items;
  each = λ a w is.
      let not : None ≡ Some w = sym (ap (λ items. slice_get items a) c.in_ok-starts.ensures.items) ∙ is in
      absurd (cc);
}

pub loop-app-preserved : goal.loop-app-preserved
loop-app-preserved c =
    let new : Start = c.in_ok-start.start in
    let at : length c.loop-app.starts.items ≡ c.loop-app.app = c.loop-app.invariant.many in
    record {
      many = let longer = ap length c.in_ok-push.ensures.items in let l = length-push c.loop-app.starts.items new in omega (arith, longer, l, at);
      each = λ a w is. elim (in-push c.loop-app.starts.items new a w (ap (λ items. slice_get items a) (sym c.in_ok-push.ensures.items) ∙ is)) [
        | here last same ↦ subst (λ x. IsStart c.args.plan.now a x) (sym same) (subst (λ n. IsStart c.args.plan.now n new) (sym (last ∙ at))
            c.in_ok-start.ensures)
        | there other is_there ↦ c.loop-app.invariant.each a w is_there
      ];
    }

pub returns : goal.returns
returns c = record {
  many = omega (arith, c.len-apps.ensures, c.loop-app-test.false, c.loop-app.auto.app-end, c.loop-app.invariant.many);
  each = c.loop-app.invariant.each;
}
