-- A turn of what has its loans polled goes on with its part of the run, or leaves.
use Rattle.std.proofs.Common.{◌≡◌, ℕ, List, Option, Some, None, refl, sym, subst}
use Rattle.zr_kinds.specs.{declared.behaviour.Behaviour.{Behaviour}, Options.{plain_behaviour}}
use Rattle.zr_io.specs.Moved.{ShelfCounts}
use Rattle.board_face.specs.declared.views.app.AppView.{AppView}
use Rattle.flow_queues.specs.{Ends.{HasLeft}, Returned.{HasReturned}}
use Rattle.zc_poll.specs.{PourTurns.{pour_end}, declared.to_shelf.Poured.{Poured}}
use Rattle.replay_threads.specs.{declared.seated.{Forwarding.{Forwarding}, Pouring.{Pouring}}, Seated.{ForwardsSince, SeatedGoes, PoursSince, RunsOn, StandsOn, forward_moment, poll_moment}}
use Rattle.run_account.specs.{Behind.{behind}, Ways.{ForwardTurns, PollTurns}}
use Rattle.replay_threads.specs.declared.seated.Seated.TheVariants as seated

-- what stood since a beginning
pub stood : (Stands : (ℕ → Option (List ℕ)) → ShelfCounts → Type 0) (v : AppView) (poured : Option Poured) → poured ≡ None → StandsOn Stands v poured
    → (first : ℕ → Option (List ℕ)) × (count : ShelfCounts) × Stands first count
stood Stands v poured none fits = subst (StandsOn Stands v) none fits

-- what it has left with is what any application owes that keeps nothing and never quits
abbrev pub LeavesWith : ((ℕ → Option (List ℕ)) → ShelfCounts → Type 0) → (ℕ → Option (List ℕ)) → ShelfCounts → AppView → Poured → Type 0
LeavesWith Was kept losses v poured = (first : ℕ → Option (List ℕ)) (count : ShelfCounts) → Was first count → (how : Behaviour)
    → (how.quit ≡ None → HasLeft how first kept count losses v (pour_end poured))
    × (how.leak ≡ 0 → how.stray ≡ 0 → HasReturned how poured.stopped poured.written v)

module _ (Was Now : (ℕ → Option (List ℕ)) → ShelfCounts → Type 0) (v v_now : AppView) (poured poured_now : Option Poured) (here : poured ≡ None)
    (fits : StandsOn Was v poured) where
  -- it goes on
  module _ (none : poured_now ≡ None) (gives : (first : ℕ → Option (List ℕ)) (count : ShelfCounts) → Was first count → Now first count) where
    pub on-fits : StandsOn Now v_now poured_now
    on-fits =
        let (first, count, stands) = stood Was v poured here fits in
        subst (StandsOn Now v_now) (sym none) (first, count, gives first count stands)

    pub on-runs : (first kept kept_now : ℕ → Option (List ℕ)) (count losses losses_now : ShelfCounts)
        → RunsOn (Was first count) first kept count losses v poured → RunsOn (Now first count) first kept_now count losses_now v_now poured_now
    on-runs first kept kept_now count losses losses_now runs =
        subst (RunsOn (Now first count) first kept_now count losses_now v_now) (sym none)
        (gives first count (subst (RunsOn (Was first count) first kept count losses v) here runs))

  -- or it has left with this
  module _ (left_with : Poured) (some : poured_now ≡ Some left_with) (kept_now : ℕ → Option (List ℕ)) (losses_now : ShelfCounts)
      (gives : LeavesWith Was kept_now losses_now v_now left_with) where
    pub end-fits : StandsOn Now v_now poured_now
    end-fits =
        let (first, count, stands) = stood Was v poured here fits in
        subst (StandsOn Now v_now) (sym some) ((gives first count stands plain_behaviour).0 refl).left

    pub end-runs : (first kept : ℕ → Option (List ℕ)) (count losses : ShelfCounts) → RunsOn (Was first count) first kept count losses v poured
        → RunsOn (Now first count) first kept_now count losses_now v_now poured_now
    end-runs first kept count losses runs =
        let ends = gives first count (subst (RunsOn (Was first count) first kept count losses v) here runs) plain_behaviour in
        subst (RunsOn (Now first count) first kept_now count losses_now v_now) (sym some) (ends.0 refl, ends.1 refl refl)

module _ {T : Type 0} (kept : T → ℕ → Option (List ℕ)) (losses : T → ShelfCounts) where
  -- ---- into a shelf

  module _ (was now : Pouring T) (here : was.poured ≡ None) (fits : StandsOn (PoursSince kept losses was.stream) was.stream.face.side.view was.poured)
      (board : now.stream.face.board ≡ was.stream.face.board) (app : now.stream.face.side.view.app ≡ was.stream.face.side.view.app)
      (does : PollTurns (poll_moment was) (poll_moment now)) where
    abbrev Since : (ℕ → Option (List ℕ)) → ShelfCounts → Type 0
    Since = PoursSince kept losses was.stream

    abbrev Now : (ℕ → Option (List ℕ)) → ShelfCounts → Type 0
    Now = PoursSince kept losses now.stream

    pub pours : now.poured ≡ None → ((first : ℕ → Option (List ℕ)) (count : ShelfCounts) → Since first count → Now first count)
        → SeatedGoes kept losses (seated.Pouring was) (seated.Pouring now)
    pours none gives = record {
      board = board;
      app = app;
      fits = record { side = on-fits Since Now was.stream.face.side.view now.stream.face.side.view was.poured now.poured here fits none gives };
      runs = λ first count how runs. (
        runs.0,
        on-runs Since Now was.stream.face.side.view now.stream.face.side.view was.poured now.poured here fits none gives first
            (kept was.stream.shelf) (kept now.stream.shelf) count (losses was.stream.shelf) (losses now.stream.shelf) runs.1,
      );
      comes = λ plan first count comes. (comes.0, comes.1, comes.2, behind _ _ comes.3 does);
    }

    pub pours-out : (poured : Poured) → now.poured ≡ Some poured
        → LeavesWith Since (kept now.stream.shelf) (losses now.stream.shelf) now.stream.face.side.view poured
        → SeatedGoes kept losses (seated.Pouring was) (seated.Pouring now)
    pours-out poured some gives = record {
      board = board;
      app = app;
      fits = record {
        side = end-fits Since Now was.stream.face.side.view now.stream.face.side.view was.poured now.poured here fits poured some
            (kept now.stream.shelf) (losses now.stream.shelf) gives;
      };
      runs = λ first count how runs. (
        runs.0,
        end-runs Since Now was.stream.face.side.view now.stream.face.side.view was.poured now.poured here fits poured some
            (kept now.stream.shelf) (losses now.stream.shelf) gives first (kept was.stream.shelf) count (losses was.stream.shelf) runs.1,
      );
      comes = λ plan first count comes. (comes.0, comes.1, comes.2, behind _ _ comes.3 does);
    }

  -- ---- by a carrier over a shelf

  module _ (was now : Forwarding T) (here : was.poured ≡ None)
      (fits : StandsOn (ForwardsSince kept losses was.forward) was.forward.face.side.view was.poured)
      (board : now.forward.face.board ≡ was.forward.face.board) (app : now.forward.face.side.view.app ≡ was.forward.face.side.view.app)
      (does : ForwardTurns (forward_moment was) (forward_moment now)) where
    abbrev SinceThen : (ℕ → Option (List ℕ)) → ShelfCounts → Type 0
    SinceThen = ForwardsSince kept losses was.forward

    abbrev NowThen : (ℕ → Option (List ℕ)) → ShelfCounts → Type 0
    NowThen = ForwardsSince kept losses now.forward

    pub forwards : now.poured ≡ None → ((first : ℕ → Option (List ℕ)) (count : ShelfCounts) → SinceThen first count → NowThen first count)
        → SeatedGoes kept losses (seated.Forwarding was) (seated.Forwarding now)
    forwards none gives = record {
      board = board;
      app = app;
      fits = record { side = on-fits SinceThen NowThen was.forward.face.side.view now.forward.face.side.view was.poured now.poured here fits none gives };
      runs = λ first count how runs. (
        runs.0,
        on-runs SinceThen NowThen was.forward.face.side.view now.forward.face.side.view was.poured now.poured here fits none gives first
            (kept was.forward.carrier.shelf) (kept now.forward.carrier.shelf) count (losses was.forward.carrier.shelf)
            (losses now.forward.carrier.shelf) runs.1,
      );
      comes = λ plan first count comes. (comes.0, comes.1, comes.2, comes.3, comes.4, behind _ _ comes.5 does);
    }

    pub forwards-out : (poured : Poured) → now.poured ≡ Some poured
        → LeavesWith SinceThen (kept now.forward.carrier.shelf) (losses now.forward.carrier.shelf) now.forward.face.side.view poured
        → SeatedGoes kept losses (seated.Forwarding was) (seated.Forwarding now)
    forwards-out poured some gives = record {
      board = board;
      app = app;
      fits = record {
        side = end-fits SinceThen NowThen was.forward.face.side.view now.forward.face.side.view was.poured now.poured here fits poured some
            (kept now.forward.carrier.shelf) (losses now.forward.carrier.shelf) gives;
      };
      runs = λ first count how runs. (
        runs.0,
        end-runs SinceThen NowThen was.forward.face.side.view now.forward.face.side.view was.poured now.poured here fits poured some
            (kept now.forward.carrier.shelf) (losses now.forward.carrier.shelf) gives first (kept was.forward.carrier.shelf) count
            (losses was.forward.carrier.shelf) runs.1,
      );
      comes = λ plan first count comes. (comes.0, comes.1, comes.2, comes.3, comes.4, behind _ _ comes.5 does);
    }
