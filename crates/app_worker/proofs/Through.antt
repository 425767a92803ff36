-- Stages one after another.
use Rattle.std.proofs.Common.{◌≡◌, ◌≢◌, ℕ, ◌<◌, ◌≤◌, false, List, [], Option, Some, None, length, refl, sym, ap, subst, ◌∙◌, arith}
use Rattle.zr_kinds.specs.declared.behaviour.Stopped.{Stopped}
use Rattle.zr_kinds.specs.declared.behaviour.Stopped.TheVariants as stop
use Rattle.board_face.specs.{AppCalls.{AppOnlySaw}, declared.views.app.{AppLook.TheVariants.{RefillInUse}, AppView.{AppView}}}
use Rattle.app_worker.specs.{declared.turning.Read.{Read, TheVariants.{Did, NoneUnread, Quit, Failed}}, State.{State, Working, Common, Bare, app_steps}}
use Rattle.app_worker.specs.{Moves.{Moves, Goes, KeptSince, Reaps}, Whole.{GaveLoansBack, ReadOne, ReadFailed, Reads}, Letting.{LetGo}, Stages.{Through, WriteStopped}}
use Rattle.app_worker.{proofs.{Moving.{moves-then, no-write as no-writes}, Flushing.{flushes-none, flushes-then, flushes-saw}}, specs.Flushing.{FlushesUnread}}
use Rattle.app_worker.proofs.Seeing.{goes-none}
use Rattle.flow_queues.specs.{Core.{Each}, Flows.{IsAtRest}, Totals.{Quits}}
use Rattle.zr_io.specs.Moved.{Rose}

-- what the shelf failed at stays so
write-stays : (a b : Stopped) → (a ≢ stop.No → b ≡ a) → b ≢ stop.Write → a ≢ stop.Write
write-stays a b stays other is = other (stays (λ none. absurd (no-write (sym is ∙ none))) ∙ is)
  where
    no-write : stop.Write ≡ stop.No → ⊥
    no-write e = absurd (cc)

pub goes-then : {a b c : State} {u v w : AppView} {k l m : ℕ → Option (List ℕ)} → Goes a b u v k l → Goes b c v w l m → Goes a c u w k m
goes-then {a} {b} {c} first second = record {
  moves = moves-then first.moves second.moves;
  shelved = λ other begin was. second.shelved other begin (first.shelved (write-stays b.stopped c.stopped second.moves.stays other) begin was);
  failed = λ is begin exact front. second.failed is begin
      (λ other. first.shelved other begin (exact (write-stays a.stopped b.stopped first.moves.stays other)))
      (λ yes. first.failed yes begin exact front);
}

pub through-none : (st : State) (v : AppView) (kept : ℕ → Option (List ℕ)) → Working st v → Common st v → st.posted.entries ≡ []
    → Through st st v v kept kept
through-none st v kept working common reaped = assumption (flushes-none st v, goes-none st v kept)

pub through-then : {a b c : State} {u v w : AppView} {k l m : ℕ → Option (List ℕ)} → Through a b u v k l → Through b c v w l m → Through a c u w k m
through-then {a} first second = assumption (
  flushes-then first.flushes second.flushes,
  goes-then first.goes second.goes,
  second.ended ∙ first.ended,
  λ (at : Each IsAtRest a.flows). second.rest (first.rest at),
  second.taken ∙ first.taken,
  second.left ∙ first.left,
)

-- ---- one loan

pub read-did : (was now : State) (old new : AppView) (kept kept_now : ℕ → Option (List ℕ)) (faults faults_now : ℕ) (read : Read) → read ≢ Failed
    → read ≢ Quit → 0 < length was.unread → Reads was now old new kept kept_now faults faults_now read → ReadOne was now old new kept kept_now
read-did was now old new kept kept_now faults faults_now Did other going some reads = reads
read-did was now old new kept kept_now faults faults_now NoneUnread other going some reads = absurd (omega (arith, some, ap length reads.2))
read-did was now old new kept kept_now faults faults_now Quit other going some reads = absurd (going refl)
read-did was now old new kept kept_now faults faults_now Failed other going some reads = absurd (other refl)

pub through-read : {was now : State} {old new : AppView} {kept kept_now : ℕ → Option (List ℕ)} → was.posted.entries ≡ []
    → ReadOne was now old new kept kept_now → Through was now old new kept kept_now
through-read reaped read = assumption (
  ap (λ (s : State). s.posted.entries) read.same ∙ reaped,
  ap (λ (s : State). s.ended) read.same,
)

pub through-gave : {was now : State} {old new : AppView} {kept : ℕ → Option (List ℕ)} → was.posted.entries ≡ [] → Working now new → Common now new
    → Goes was now old new kept kept → GaveLoansBack was now old new → Through was now old new kept kept
through-gave {was} reaped working common goes gave = assumption (
  ap (λ (s : State). s.posted.entries) gave.same ∙ reaped,
  ap (λ (s : State). s.ended) gave.same,
  λ (at : Each IsAtRest was.flows). subst (Each IsAtRest) (sym (ap (λ (s : State). s.flows) gave.same)) at,
)

-- ---- the shelf failed

-- for this cause
abbrev pub stopped_by : State → Stopped → State
stopped_by st cause = record st { stopped = cause }

-- it has nothing out once all is given up
pub bare-stopped : (st : State) (v : AppView) (cause : Stopped) → cause ≢ stop.No → (was : State) (old : AppView) → LetGo was st old v
    → Bare (stopped_by st cause) v
bare-stopped st v cause other was old gone = record {
  helds = gone.helds;
  loans = gone.loans;
  due = ap (λ (s : State). s.due) gone.same;
  leaked = ap (λ (s : State). s.leaked.items) gone.same;
  none_left = gone.none_left;
  given = gone.given;
  abandoned = λ none. absurd (other none);
  unread = ap (λ (s : State). s.unread) gone.same;
  flows = gone.ends;
  distinct = gone.distinct;
  index = gone.index;
  whole = λ none. absurd (other none);
  appended = λ none. absurd (other none);
  within_lent = gone.within_lent;
  whole_given = gone.whole_given;
  known = λ none. absurd (other none);
}

-- another cause than that it has written enough
quits-by : (quit : Option ℕ) (written : ℕ) (cause : Stopped) → cause ≢ stop.Quit → Quits quit written stop.No → Quits quit written cause
quits-by None written cause other quits = other
quits-by (Some n) written cause other quits = (quits.0, ((λ is. absurd (other is)), (λ is. absurd (let e : stop.No ≡ stop.Quit = quits.1.1 is in cc))))

pub common-stopped : (st : State) (v : AppView) (cause : Stopped) → st.stopped ≡ stop.No → cause ≢ stop.Quit → Common st v
    → Common (stopped_by st cause) v
common-stopped st v cause none other common =
    assumption (quits-by st.how.quit st.written cause other (subst (Quits st.how.quit st.written) none common.quits), common)

pub moves-stopped : (was st : State) (old v : AppView) (cause : Stopped) → was.stopped ≡ stop.No → Moves was st old v
    → Moves was (stopped_by st cause) old v
moves-stopped was st old v cause none moves =
    let keeps : (n r : ℕ) → (was.bare ≡ false → KeptSince n r was old) → st.bare ≡ false → KeptSince n r (stopped_by st cause) v =
    λ n r before live. (let k = moves.keeps n r before live in record { lent = k.lent; kept = k.kept }) in
    let reaps : Reaps was (stopped_by st cause) old v =
    (let r = moves.reaps in record { read = r.read; more = r.more; in_order = r.in_order; lent = r.lent; tells = r.tells; gone = r.gone }) in
    let stays : was.stopped ≢ stop.No → cause ≡ was.stopped = λ other. absurd (other none) in
    assumption

pub write-stopped : {was mid now : State} {old midv new : AppView} {kept kept_now : ℕ → Option (List ℕ)} {faults faults_now : ℕ}
    → was.stopped ≡ stop.No → was.posted.entries ≡ [] → ReadFailed was mid old midv kept kept_now faults faults_now → LetGo mid now midv new
    → WriteStopped was (stopped_by now stop.Write) old new kept kept_now faults faults_now
write-stopped {was} {mid} {now} {old} {midv} {new} {kept_now} none reaped failed gone =
    let moves : Moves was now old new = moves-then failed.moves gone.moves in
    record {
      bare = bare-stopped now new stop.Write (λ e. absurd (cc)) mid midv gone;
      is_bare = ap (λ (s : State). s.bare) gone.same;
      common = common-stopped now new stop.Write
          (ap (λ (s : State). s.stopped) gone.same ∙ ap (λ (s : State). s.stopped) failed.same ∙ none) (λ e. absurd (cc)) gone.common;
      goes = record {
        moves = moves-stopped was now old new stop.Write none moves;
        shelved = λ other. absurd (other refl);
        failed = λ is begin exact front. gone.fronts begin kept_now (failed.fronts begin (exact (λ yes. absurd (no-writes was.stopped none yes))));
      };
      reaped = ap (λ (s : State). s.posted.entries) gone.same ∙ ap (λ (s : State). s.posted.entries) failed.same ∙ reaped;
      stopped = refl;
      rose = failed.rose;
      steps = omega (arith, failed.moves.steps, gone.steps);
      taken = gone.taken ∙ failed.taken;
      left = gone.left ∙ failed.left;
    }

-- it failed after other steps
pub write-later : {a b c : State} {u v w : AppView} {k l m : ℕ → Option (List ℕ)} {f f1 f2 : ℕ} → f ≤ f1 → Through a b u v k l
    → WriteStopped b c v w l m f1 f2 → WriteStopped a c u w k m f f2
write-later {a} {c} {u} {w} {f} {f2} later first stopped =
    let rose : Rose f f2 = omega (arith, later, stopped.rose) in
    let steps : app_steps a u < app_steps c w = omega (arith, first.goes.moves.steps, stopped.steps) in
    assumption (goes-then first.goes stopped.goes, stopped.taken ∙ first.taken, stopped.left ∙ first.left)

-- a loan that was read can't be given back yet
pub through-in-use : {was now : State} {old new : AppView} {kept : ℕ → Option (List ℕ)} → was.posted.entries ≡ [] → Working now new
    → Common now new → Goes was now old new kept kept → now ≡ was → AppOnlySaw RefillInUse old new → Through was now old new kept kept
through-in-use {was} {old} {new} reaped working common goes same saw = assumption (
  subst (λ (s : State). FlushesUnread was s old new) (sym same) (flushes-saw was old new RefillInUse saw),
  ap (λ (s : State). s.posted.entries) same ∙ reaped,
  ap (λ (s : State). s.ended) same,
  λ (at : Each IsAtRest was.flows). subst (Each IsAtRest) (sym (ap (λ (s : State). s.flows) same)) at,
  ap (λ (v : AppView). v.taken) saw.event,
  ap (λ (v : AppView). v.left) saw.event,
)
