-- When an application quits.
use Rattle.std.{proofs.Common.{◌≡◌, ◌≢◌, ℕ, ◌+◌, ◌-◌, ◌^◌, ◌<◌, ◌≤◌, min, List, [], Option, Some, None, refl, sym, ap, ◌∙◌, arith}, specs.Prelude.{IfSome}}
use Rattle.zr_kinds.specs.declared.behaviour.Stopped.TheVariants as stop
use Rattle.board_face.specs.declared.views.app.AppView.{AppView}
use Rattle.app_worker.{specs.{State.{State, app_steps}, Whole.{ReadQuit}, Letting.{LetGo}, Stages.{Through, HasQuit}}, proofs.Moving.{moves-then}}
use Rattle.app_worker.proofs.Through.{goes-then, bare-stopped}
use Rattle.flow_queues.specs.Totals.{Quits, wanted_of}

no-quit : stop.No ≢ stop.Quit
no-quit e = absurd (cc)

pub wanted-part : (quit : Option ℕ) (written len most : ℕ) → most ≡ wanted_of quit written len → most ≤ len
wanted-part None written len most is = omega (arith, is)
wanted-part (Some n) written len most is = omega (arith, is)

-- what was read in part was short of it
pub quits-short : (quit : Option ℕ) (written more most then len : ℕ) → most ≡ wanted_of quit written len → more < most
    → then ≡ min (written + more) (2 ^ 64 - 1) → Quits quit written stop.No → Quits quit then stop.No
quits-short None written more most then len is few count quits = no-quit
quits-short (Some n) written more most then len is few count quits = (
  omega (arith, is, few, count),
  ((λ e. absurd (no-quit e)), (λ e. absurd (omega (arith, is, few, count, e)))),
)

-- what was read whole isn't it yet
pub quits-not : (quit : Option ℕ) (written most then len : ℕ) → IfSome quit (λ n. n < 2 ^ 64) → most ≡ wanted_of quit written len
    → then ≡ min (written + most) (2 ^ 64 - 1) → quit ≢ Some then → Quits quit written stop.No → Quits quit then stop.No × (most ≡ len)
quits-not None written most then len range is count other quits = (no-quit, is)
quits-not (Some n) written most then len range is count other quits =
    let differs : then ≢ n = λ e. other (ap Some (sym e)) in
    let below : then < n = omega (arith, is, count, quits.0, differs) in
    ((omega (arith, below), ((λ e. absurd (no-quit e)), (λ e. absurd (differs e)))), omega (arith, is, count, below, range))

-- and then it is
pub quits-now : (quit : Option ℕ) (written then : ℕ) → quit ≡ Some then → Quits quit then stop.Quit
quits-now None written then is = absurd (cc)
quits-now (Some n) written then is = let e : n ≡ then = cc in (omega (arith, e), ((λ _. sym e), (λ _. refl)))

-- the oldest loan was appended in part, and all was given up
pub has-quit : {was mid now : State} {old midv new : AppView} {kept kept_now : ℕ → Option (List ℕ)}
    → was.posted.entries ≡ [] → ReadQuit was mid old midv kept kept_now → LetGo mid now midv new → HasQuit was now old new kept kept_now
has-quit {mid} {now} {midv} {new} {kept_now} reaped quit gone =
    let stopped : now.stopped ≡ stop.Quit = ap (λ (s : State). s.stopped) gone.same ∙ quit.stopped in
    record {
      bare = bare-stopped now new now.stopped (λ e. absurd (let f : stop.Quit ≡ stop.No = sym stopped ∙ e in cc)) mid midv gone;
      is_bare = ap (λ (s : State). s.bare) gone.same;
      common = gone.common;
      goes = record {
        moves = moves-then quit.moves gone.moves;
        shelved = λ _ first begin. gone.shelved first kept_now (quit.shelved first begin);
        failed = λ is. absurd (let f : stop.Quit ≡ stop.Write = sym stopped ∙ is in cc);
      };
      reaped = ap (λ (s : State). s.posted.entries) gone.same ∙ ap (λ (s : State). s.posted.entries) quit.same ∙ reaped;
      stopped = stopped;
      steps = omega (arith, quit.moves.steps, gone.steps);
      taken = gone.taken ∙ quit.taken;
      left = gone.left ∙ quit.left;
    }

-- it quit after other steps
pub quit-later : {a b c : State} {u v w : AppView} {k l m : ℕ → Option (List ℕ)} → Through a b u v k l → HasQuit b c v w l m → HasQuit a c u w k m
quit-later {a} {c} {u} {w} first quit =
    let steps : app_steps a u < app_steps c w = omega (arith, first.goes.moves.steps, quit.steps) in
    assumption (goes-then first.goes quit.goes, quit.taken ∙ first.taken, quit.left ∙ first.left)
