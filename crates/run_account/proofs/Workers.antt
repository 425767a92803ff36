-- A turn of an application goes on with its part of the run.
use Rattle.std.proofs.Common.{◌≡◌, ◌≢◌, ℕ, ◌≤◌, ◌⊎◌, inl, inr, true, List, Option, refl, sym, ◌∙◌, subst, arith}
use Rattle.zr_kinds.specs.declared.behaviour.{Behaviour.{Behaviour}, Stopped.{Stopped}}
use Rattle.zr_kinds.specs.declared.behaviour.Stopped.TheVariants as stop
use Rattle.zr_kinds.specs.declared.fault.Fault.TheVariants as fault
use Rattle.zr_io.specs.Moved.{Rose, ShelfCounts}
use Rattle.board_face.specs.declared.views.app.AppView.{AppView}
use Rattle.app_worker.specs.{Marks.{FramesStandTogether}, State.{State}, Moves.{CountsOn}, Turns.{AnswersTurn, Turns}, declared.turn.Turn.{Turn, TheVariants.{Failed, Finished}}}
use Rattle.flow_queues.specs.{Shelves.{AreShelved, AreFronts}, Streams.{HasFronts, HasAll}}
use Rattle.run_account.specs.{Running.{WorkerRuns}, declared.run.Worker.{Worker}}

-- its shelf failed, or it didn't
pub is-write : (s : Stopped) → (s ≡ stop.Write) ⊎ (s ≢ stop.Write)
is-write stop.No = inr (λ e. absurd (cc))
is-write stop.Quit = inr (λ e. absurd (cc))
is-write stop.Write = inl refl
is-write stop.Memory = inr (λ e. absurd (cc))

write-stops : (s : Stopped) → s ≡ stop.Write → s ≢ stop.No
write-stops s is none = let e : stop.Write ≡ stop.No = sym is ∙ none in absurd (cc)

rose-later : (a b c : ℕ) → Rose a b → b ≤ c → Rose a c
rose-later a b c rose later = omega (arith, rose, later)

rose-before : (a b c : ℕ) → a ≤ b → Rose b c → Rose a c
rose-before a b c before rose = omega (arith, rose, before)

-- What a turn says besides `Turns`.
pub record WorkerTells (first kept_now : ℕ → Option (List ℕ)) (new : AppView) (now : State) (finished : Type 0) : Type 0 where
  pub fronts : FramesStandTogether new.taken → AreShelved first kept_now now.flows new → HasFronts first kept_now new
  pub failed : FramesStandTogether new.taken → AreFronts first kept_now now.flows new → HasFronts first kept_now new
  pub whole : finished → now.stopped ≡ stop.No → FramesStandTogether new.taken → AreShelved first kept_now now.flows new → HasAll first kept_now new
  pub copies : now.copied ≤ now.loans
  pub counts : now.bare ≡ true → now.stopped ≡ stop.No → now.loans ≤ now.written

module _ (first kept kept_now : ℕ → Option (List ℕ)) (losses losses_old losses_now : ShelfCounts) (how : Behaviour) (old new : AppView) (was now : Worker)
    (result : Turn) (runs : WorkerRuns first kept losses losses_old how old was)
    (turns : Turns was.state now.state old new kept kept_now losses_old.faults losses_now.faults result) (later : losses_old.faults ≤ losses_now.faults)
    (is_left : now.left ≡ true → result ≡ Finished) (tells : WorkerTells first kept_now new now.state (result ≡ Finished))
    (gone : now.left ≡ true → now.state.bare ≡ true) (still : result ≢ Failed fault.Write → losses_now.faults ≡ losses_old.faults)
    (appended : CountsOn was.state.written now.state.written losses_old.appended losses_now.appended) where
  -- its shelf hadn't failed before, where it hasn't now
  before : now.state.stopped ≢ stop.Write → was.state.stopped ≢ stop.Write
  before not was_write = not (turns.goes.moves.stays (write-stops was.state.stopped was_write) ∙ was_write)

  shelved : now.state.stopped ≢ stop.Write → AreShelved first kept_now now.state.flows new
  shelved not = turns.goes.shelved not first (runs.shelved (before not))

  failed : now.state.stopped ≡ stop.Write → AreFronts first kept_now now.state.flows new
  failed is = turns.goes.failed is first runs.shelved runs.failed

  cause : now.state.stopped ≡ stop.Write → Rose losses.faults losses_now.faults
  cause is = elim (is-write was.state.stopped) [
    | inl was_write ↦ rose-later losses.faults losses_old.faults losses_now.faults (runs.cause was_write) later
    | inr not ↦ rose-before losses.faults losses_old.faults losses_now.faults runs.later (turns.cause not is)
  ]

  -- the turn didn't stop it by its shelf, where that hadn't failed
  no-failure : now.state.stopped ≢ stop.Write → result ≢ Failed fault.Write
  no-failure not is = not (subst (λ turn. AnswersTurn was.state now.state old new losses_old.faults losses_now.faults turn) is turns.answer).1

  fronts : FramesStandTogether new.taken → HasFronts first kept_now new
  fronts are = elim (is-write now.state.stopped) [
    | inl is ↦ tells.failed are (failed is)
    | inr not ↦ tells.fronts are (shelved not)
  ]

  not-write : now.state.stopped ≡ stop.No → now.state.stopped ≢ stop.Write
  not-write none is = write-stops now.state.stopped is none

  pub goes-on : WorkerRuns first kept_now losses losses_now how new now
  goes-on = record {
    how_is = turns.goes.moves.how.1 ∙ runs.how_is;
    shelved = shelved;
    failed = failed;
    later = omega (arith, runs.later, later);
    cause = cause;
    still = λ not. still (no-failure not) ∙ runs.still (before not);
    appended = appended losses.appended runs.appended;
    fronts = fronts;
    whole = λ left none are. tells.whole (is_left left) none are (shelved (not-write none));
    copies = tells.copies;
    counts = λ left none. tells.counts (gone left) none;
  }
