-- An application that has taken no turn.
use Rattle.std.proofs.Common.{◌≡◌, ℕ, true, false, Bool, if◌then◌else◌, List, [], Option, Some, None, refl, sym, ap, ◌∙◌, append-nil, arith}
use Rattle.zr_kinds.specs.declared.behaviour.Stopped.TheVariants as stop
use Rattle.zr_io.specs.Moved.{Gained, ShelfCounts}
use Rattle.board_face.specs.{Opened.{new_app_view}, declared.views.{parts.Setting.{Setting}, app.AppView.{AppView}}}
use Rattle.app_worker.specs.Kept.{IsFreshApp, is_nothing}
use Rattle.card_feed.specs.{Plan.{TakesTurns}, declared.plan.Plan.{Plan}}
use Rattle.run_account.specs.{Behind.{begins}, Running.{IsNewWorker, WorkerFits, WorkerGoes, WorkerRuns}, declared.run.Worker.{Worker}}

fresh : (s : Setting) (a : ℕ) → IsFreshApp a (new_app_view s a)
fresh s a = record {
  app_is = refl;
  helds = refl;
  owns = refl;
  loans = refl;
  returned = refl;
  written = refl;
  taken = refl;
  spares = refl;
  ended = refl;
  counted = refl;
}

gained-nothing : (kept : Option (List ℕ)) (P : List ℕ → Type 0) → P [] → Gained kept kept P
gained-nothing None P none = tt
gained-nothing (Some xs) P none = ([], sym (append-nil xs), none)

no-write : (b : Bool) → (if b then stop.Quit else stop.No) ≡ stop.Write → ⊥
no-write true is = absurd (cc)
no-write false is = absurd (cc)

module _ (plan : Plan) (s : Setting) (a : ℕ) (v : AppView) (w : Worker) (is : v ≡ new_app_view s a) (new : IsNewWorker plan a w) where
  stays : w.left ≡ true → ⊥
  stays left = let e = new.left_is in absurd (cc)

  pub new-fits : WorkerFits v w
  new-fits = rw is (record { stands = new.stands _ (fresh s a); here = λ left. refl; gone = λ left. absurd (stays left) })

  writes : w.state.stopped ≡ stop.Write → ⊥
  writes is_write = no-write (is_nothing plan.options.how.quit) (sym (ap (λ st. st.stopped) new.state_is) ∙ is_write)

  pub new-runs : (kept : ℕ → Option (List ℕ)) (losses : ShelfCounts) → WorkerRuns kept kept losses losses plan.options.how v w
  new-runs kept losses = record {
    how_is = ap (λ st. st.how) new.state_is;
    shelved = λ not. new.shelved kept v;
    failed = λ is_write. absurd (writes is_write);
    later = omega arith;
    cause = λ is_write. absurd (writes is_write);
    still = λ not. refl;
    appended = let none = ap (λ st. st.written) new.state_is in omega (arith, none);
    fronts = λ are flow. gained-nothing (kept flow) _ (record { read = []; rest = _; parts = refl; are = tt });
    whole = λ left. absurd (stays left);
    copies = let none = ap (λ st. st.copied) new.state_is in omega (arith, none);
    counts = λ left. absurd (stays left);
  }

  pub new-goes : TakesTurns plan → (kept : ℕ → Option (List ℕ)) (losses : ShelfCounts) → WorkerGoes plan kept kept losses losses v w
  new-goes by_turns kept losses = record { runs = new-runs kept losses; came = rw (new.state_is, is) (by_turns, s, a, begins) }
