-- What a turn answers: it brought the run further, or did nothing since its role can do nothing.
use Rattle.std.proofs.Common.{◌≡◌, ◌≢◌, ℕ, ◌+◌, ◌<◌, ◌≤◌, Bool, true, false, set, List, [], Option, Some, inl, inr, ⊎_elim, refl, sym, ap, ◌∙◌, subst, arith}
use Rattle.std.{specs.{Prelude.{MatchBool}, List.{slice_get}}, proofs.lemmas.{Bool.{cases_Bool, Decides.{eqb_tells}}, List.{set-get_or}}}
use Rattle.std.proofs.lemmas.Option.{get_or_from_slice_get}
use Rattle.board_face.specs.{AppEvents.{app_gist, reserve_of}, NicCalls.{apps_of}, declared.views.{app.{AppSide.{AppSide}, AppView.{AppView}}, nic.NicSide.{NicSide}}}
use Rattle.board_face.specs.{declared.views.nic.NicView.{NicView}, Sides.{side_in}}
use Rattle.page_pool.specs.Dealing.{CountsStrays}
use Rattle.plain_board.specs.{Board.{Board, side_of, others_of}, Seen.{IsSeenBy, IsSeenByCard}}
use Rattle.app_worker.specs.{Core.{Each}, Stages.{NoneInReserve}, State.{State, LiesOutside}, Turns.{AnswersTurn, Because, IsCaughtUp, MayPoll, Turns, look_of}}
use Rattle.app_worker.specs.declared.turn.{Turn.{Turn, TheVariants.{Idle, Finished}}, Why.{Why, TheVariants.{NoNote, RefillFull, Unsettled, ReserveHeld, NotQuiet}}}
use Rattle.card_feed.specs.{Feed.{FeedState, feed_steps}, Turns.{IsIdle}}
use Rattle.replay_turns.specs.{Rounds.{DidNothing}, Steps.{worker_steps, steps_from, run_steps}, Stuck.{IsAppKeptBack}, declared.role.Role.TheVariants.{Card, App}}
use Rattle.replay_turns.proofs.Rising.{steps-alike, steps-set}
use Rattle.run_account.specs.declared.run.{Run.{Run}, Worker.{Worker}}

-- ---- the card

module _ (board board_now : Board) (was now : Run) (workers : now.workers.items ≡ was.workers.items) (apps : board_now.apps ≡ board.apps) where
  sides : (a : ℕ) → app_gist (side_of board_now a).view ≡ app_gist (side_of board a).view
  sides a = ap (λ all. app_gist (side_in all a).view) apps

  apps-same : steps_from board_now 0 now.workers.items ≡ steps_from board 0 was.workers.items
  apps-same = ap (steps_from board_now 0) workers ∙ steps-alike board board_now 0 was.workers.items (λ a later. sides a)

  card-rises : feed_steps was.feed board.nic.view < feed_steps now.feed board_now.nic.view → run_steps board was < run_steps board_now now
  card-rises rises = omega (arith, rises, apps-same)

  pub card-later : feed_steps was.feed board.nic.view ≤ feed_steps now.feed board_now.nic.view → run_steps board was ≤ run_steps board_now now
  card-later later = omega (arith, later, apps-same)

  card-idle : IsIdle IsSeenByCard board_now.apps was.feed now.feed board.nic.view board_now.nic.view → DidNothing Card board board_now was now
  card-idle idle =
      let many : apps_of board_now.nic.view.setting ≡ apps_of board.nic.view.setting = ap (λ (v : NicView). apps_of v.setting) idle.view in
      record {
        same = record { feed = idle.feed; stats = idle.stats; workers = workers; card = idle.view; app = sides };
        stuck = record {
          rings = λ a few. (idle.rings a (omega (arith, many, few))).1;
          notes = ⊎_elim
              (λ closed. inl (ap (λ (f : FeedState). f.closed) idle.feed ∙ closed))
              (λ (a, few, rose, full). inr (a, omega (arith, many, few), full))
              idle.notes;
        };
      }

  pub card-answers : (did : Bool) → MatchBool did (feed_steps was.feed board.nic.view < feed_steps now.feed board_now.nic.view)
      (IsIdle IsSeenByCard board_now.apps was.feed now.feed board.nic.view board_now.nic.view)
      → MatchBool did (run_steps board was < run_steps board_now now) (DidNothing Card board board_now was now)
  card-answers true rises = card-rises rises
  card-answers false idle = card-idle idle

-- ---- an application

-- what it knows of its refill slots, and its looks, are no part of a reason
reserve-same : (v u : AppView) → app_gist u ≡ app_gist v → reserve_of u ≡ reserve_of v
reserve-same v u same = ap (λ (x : AppView). reserve_of x) same

none-stays : (st : State) (v u : AppView) → app_gist u ≡ app_gist v → NoneInReserve st v → NoneInReserve st u
none-stays st v u same none = subst (λ b. Each (LiesOutside b) st.unread) (sym (reserve-same v u same)) none

caught-up : (st : State) (v u : AppView) → app_gist u ≡ app_gist v → IsCaughtUp st v → IsCaughtUp st u
caught-up st v u same is = record {
  live = is.live;
  given = is.given;
  none_left = is.none_left;
  posted = is.posted;
  unread = is.unread;
  reserve = none-stays st v u same is.reserve;
}

may-poll : (st : State) (v u : AppView) → app_gist u ≡ app_gist v → MayPoll st v → MayPoll st u
may-poll st v u same may = record {
  in_order = may.in_order;
  given = may.given;
  none_left = may.none_left;
  posted = may.posted;
  unread = may.unread;
  reserve = none-stays st v u same may.reserve;
}

pub because-stays : (why : Why) (st : State) (v u : AppView) → app_gist u ≡ app_gist v → Because why st v → Because why st u
because-stays NoNote st v u same because = (because.0, λ live. may-poll st v u same (because.1 live))
because-stays RefillFull st v u same because = because
because-stays Unsettled st v u same because = (caught-up st v u same because.0, because.1)
because-stays ReserveHeld st v u same because = (caught-up st v u same because.0, because.1)
because-stays NotQuiet st v u same because = because

-- it has left, so nothing was done
pub gone-idle : (board : Board) (run : Run) (app : ℕ) (w : Worker) → slice_get run.workers.items app ≡ Some w → w.left ≡ true
    → DidNothing (App app) board board run run
gone-idle board run app w at left = record {
  same = record { feed = refl; stats = record { strays = inl (omega arith); others = refl }; workers = refl; card = refl; app = λ a. refl };
  stuck = λ other at_other. let is : other ≡ w = cc in inl (ap (λ (x : Worker). x.left) is ∙ left);
}

same-worker : (w u : Worker) → w.state ≡ u.state → w.left ≡ u.left → w ≡ u
same-worker w u state left =
    ap (λ (st : State). record w { state = st }) state ∙ ap (λ (gone : Bool). record u { left = gone }) left

module _ (board board_now : Board) (was now : Run) (app : ℕ) (w_was w_now : Worker) (is_was : slice_get was.workers.items app ≡ Some w_was)
    (feed_is : now.feed ≡ was.feed) (items_are : now.workers.items ≡ set was.workers.items app w_now) (nic_is : board_now.nic ≡ board.nic)
    (others : (b : ℕ) → b ≢ app → side_of board_now b ≡ side_of board b) where
  pub app-rises : worker_steps (side_of board app).view w_was < worker_steps (side_of board_now app).view w_now
      → run_steps board was < run_steps board_now now
  app-rises rises =
      let e : 0 + app ≡ app = omega arith in
      let went = steps-set board board_now 0 app was.workers.items w_was w_now is_was (λ b other. others b (λ is. other (is ∙ sym e))) in
      let before : worker_steps (side_of board (0 + app)).view w_was ≡ worker_steps (side_of board app).view w_was =
      ap (λ n. worker_steps (side_of board n).view w_was) e in
      let after : worker_steps (side_of board_now (0 + app)).view w_now ≡ worker_steps (side_of board_now app).view w_now =
      ap (λ n. worker_steps (side_of board_now n).view w_now) e in
      let items : steps_from board_now 0 now.workers.items ≡ steps_from board_now 0 (set was.workers.items app w_now) =
      ap (steps_from board_now 0) items_are in
      let feed : feed_steps now.feed board_now.nic.view ≡ feed_steps was.feed board.nic.view =
      ap (λ (f : FeedState). feed_steps f board_now.nic.view) feed_is ∙ ap (λ (nic : NicSide). feed_steps was.feed nic.view) nic_is in
      omega (arith, rises, went, before, after, items, feed)

  module _ (still : w_now ≡ w_was) (gist : app_gist (side_of board_now app).view ≡ app_gist (side_of board app).view) where
    items-same : now.workers.items ≡ was.workers.items
    items-same = items_are ∙ ap (set was.workers.items app) (still ∙ sym (get_or_from_slice_get was.workers.items app w_was w_was is_was))
        ∙ set-get_or was.workers.items app w_was

    all-gists : (b : ℕ) → app_gist (side_of board_now b).view ≡ app_gist (side_of board b).view
    all-gists b = ⊎_elim
        (λ (t, is). subst (λ n. app_gist (side_of board_now n).view ≡ app_gist (side_of board n).view) (sym is) gist)
        (λ (t, other). ap (λ (side : AppSide). app_gist side.view) (others b other))
        (eqb_tells b app)

    app-idle : IsAppKeptBack board_now app w_now → DidNothing (App app) board board_now was now
    app-idle kept = record {
      same = record {
        feed = subst (λ (f : FeedState). f ≡ record was.feed { pool = record was.feed.pool { stats = f.pool.stats } }) (sym feed_is) refl;
        stats = subst (λ (f : FeedState). CountsStrays was.feed.pool.stats f.pool.stats []) (sym feed_is)
            (record { strays = inl (omega arith); others = refl });
        workers = items-same;
        card = ap (λ (nic : NicSide). record nic.view { looks = [] }) nic_is;
        app = all-gists;
      };
      stuck = λ w at.
          let at_was : slice_get was.workers.items app ≡ Some w = ap (λ items. slice_get items app) (sym items-same) ∙ at in
          let is : w_now ≡ w = cc in
          inr (subst (IsAppKeptBack board_now app) is kept);
    }

  -- what keeps it back is so after the turn too
  pub app-idles : (kept kept_now : ℕ → Option (List ℕ)) (faults faults_now : ℕ) (result : Turn)
      → Turns w_was.state w_now.state (side_of board app).view (side_of board_now app).view kept kept_now faults faults_now result
      → w_was.left ≡ false → (w_now.left ≡ true → result ≡ Finished) → (why : Why) → result ≡ Idle why
      → IsSeenBy (look_of why) (app_gist (side_of board_now app).view) (others_of board_now app) → DidNothing (App app) board board_now was now
  app-idles kept kept_now faults faults_now result did here leaves why is seen =
      let old = (side_of board app).view in
      let new = (side_of board_now app).view in
      let before = subst (λ turn. AnswersTurn w_was.state w_now.state old new faults faults_now turn) is did.answer in
      let gist : app_gist new ≡ app_gist old = ap (λ (v : AppView). app_gist v) before.0.view in
      let stays : w_now.left ≡ false = ⊎_elim
      (λ (left : w_now.left ≡ true). absurd (let wrong : Idle why ≡ Finished = sym is ∙ leaves left in let none : ⊥ = cc in none))
      (λ (on : w_now.left ≡ false). on)
      (cases_Bool w_now.left) in
      app-idle (same-worker w_now w_was before.0.state (stays ∙ sym here)) gist (record {
        why = why;
        because = because-stays why w_now.state old new gist (subst (λ st. Because why st old) (sym before.0.state) (did.idle why is).1);
        seen = seen;
      })
