-- A turn goes on with the run: one of the card, and one of an application.
use Rattle.std.proofs.{Common.{◌≡◌, ◌≢◌, ℕ, ◌<◌, ◌≤◌, List, [], ◌∷◌, All, length, set, Some, sym, ap, ◌∙◌, subst, arith}, lemmas.List.{length-set, drop-set-lt}}
use Rattle.std.specs.List.{slice_get}
use Rattle.zr_kinds.specs.Limits.{most_records}
use Rattle.board_face.specs.{declared.views.{app.AppSide.{AppSide}, parts.Setting.{Setting}, nic.{Dealt.{Dealt}, NicSide.{NicSide}}}, Sides.{side_in}}
use Rattle.plain_board.specs.{Board.{Board, stand_of, sides_of, side_of}, Recorded.{IsRecorded}, Stand.{setting_of_arrays}, Sound.{IsSound}}
use Rattle.card_feed.specs.{Feed.{FeedState, IsFeedReady, FeedStands}, Turns.{FeedTurns}, declared.plan.Plan.{Plan}}
use Rattle.run_account.specs.{Behind.{behind}, CardTurns.{CardActs, card_moment, turns}}
use Rattle.run_account.{specs.{Running.{WorkerFits, WorkerGoes}, Views.{Ends, Streams, counts_at, ends_at, kept_at}, declared.run.{Run.{Run}, Worker.{Worker}}}, proofs.DealtEntries.{dealt-of}}
use Rattle.run_account.proofs.Places.{InSet, here, there, in-set, get-set_same, get-set_other, get-within, kept-here, kept-there, losses-here, losses-there}
use Rattle.replay_turns.specs.Running.{Moment, PlaysTurns, RunFits, RunsSince, moment, moment_at}

-- ---- the board

-- as many applications, so as many reserves
reserves-same : (board board_now : Board) → IsSound (stand_of board) → IsSound (stand_of board_now) → length board_now.apps ≡ length board.apps
    → board_now.arrays.layout.reserves ≡ board.arrays.layout.reserves
reserves-same board board_now sound sound_now many = sym sound_now.set.many ∙ many ∙ sound.set.many

one-setting : (s t : Setting) (apps : List AppSide) → 0 < length apps → All (λ (app : AppSide). app.view.setting ≡ s) apps
    → All (λ (app : AppSide). app.view.setting ≡ t) apps → t ≡ s
one-setting s t [] some are are_t = absurd (omega arith)
one-setting s t (app ∷ apps) some are are_t = sym (are_t 0 app (omega arith)) ∙ are 0 app (omega arith)

-- the applications have one setting with the card, so it is that of before
setting-same : (board board_now : Board) → IsSound (stand_of board) → IsSound (stand_of board_now) → board_now.apps ≡ board.apps → 0 < length board.apps
    → board_now.nic.view.setting ≡ board.nic.view.setting
setting-same board board_now sound sound_now apps some =
    sound_now.set.card
    ∙ one-setting (setting_of_arrays board.arrays) (setting_of_arrays board_now.arrays) board.apps some sound.set.roles
    (subst (λ all. All (λ (app : AppSide). app.view.setting ≡ setting_of_arrays board_now.arrays) all) apps sound_now.set.roles)
    ∙ sym sound.set.card

-- ---- the card

module _ (board board_now : Board) (was now : Run) (workers : now.workers.items ≡ was.workers.items) (apps : board_now.apps ≡ board.apps)
    (sound_now : IsSound (stand_of board_now)) (ready : IsFeedReady now.feed board_now.nic.view) where
  pub card-fits : (n : ℕ) → RunFits board was n → IsRecorded (sides_of board_now) board_now.log → RunFits board_now now n
  card-fits n fits recorded = record {
    sound = sound_now;
    recorded = recorded;
    roles = record {
      ready = ready;
      worker = λ a w is. subst (λ all. WorkerFits (side_in all a).view w) (sym apps)
          (fits.roles.worker a w (ap (λ items. slice_get items a) (sym workers) ∙ is));
    };
    many = ap length workers ∙ fits.many ∙ sym (reserves-same board board_now fits.sound sound_now (ap length apps));
    shelves_enough = let same : length now.workers.items ≡ length was.workers.items = ap length workers in omega (arith, same, fits.shelves_enough);
  }

  pub card-on : {S T : Type 0} {m : Streams S T} (first ends : Ends m) (source_now : S) (plan : Plan) → RunFits board was (length ends.shelves)
      → (runs : RunsSince first plan (moment ends board was)) → (more : List (List ℕ))
      → FeedStands m.source.left m.source.failed first.source source_now plan.ports.items plan.options.split more now.feed board_now.nic.view
      → CardActs plan.ports.items plan.options.split (card_moment runs.frames was.feed board.nic.view) (card_moment more now.feed board_now.nic.view)
      → now.feed.tally.records ≤ most_records → All (λ (d : Dealt). d.app < length plan.ports.items) board_now.nic.view.dealt
      → RunsSince first plan (moment_at m source_now ends.shelves board_now now)
  card-on first ends source_now plan fits runs more stands acts records dealt =
      let some : 0 < length board.apps =
      omega (arith, runs.many, fits.many, fits.sound.set.many, runs.plan_is.some) in
      record {
        plan_is = runs.plan_is;
        by_turns = runs.by_turns;
        frames = more;
        feed = stands;
        turns = (runs.turns.0, behind _ _ runs.turns.1 acts);
        setting = setting-same board board_now fits.sound sound_now apps some ∙ runs.setting;
        many = ap length workers ∙ runs.many;
        worker = λ a w is. subst
            (λ all. WorkerGoes plan (kept_at first a) (kept_at ends a) (counts_at first a) (counts_at ends a) (side_in all a).view w) (sym apps)
            (runs.worker a w (ap (λ items. slice_get items a) (sym workers) ∙ is));
        many_shelves = runs.many_shelves;
        beyond = runs.beyond;
        records = records;
        dealt = dealt;
      }

  pub card-runs : {S T : Type 0} {m : Streams S T} (first ends : Ends m) (source_now : S) (plan : Plan) → RunFits board was (length ends.shelves)
      → (runs : RunsSince first plan (moment ends board was))
      → FeedTurns m.source.left m.source.failed first.source source_now plan.ports.items plan.options.split runs.frames was.feed now.feed board.nic.view
      board_now.nic.view → now.feed.tally.records ≤ most_records → RunsSince first plan (moment_at m source_now ends.shelves board_now now)
  card-runs first ends source_now plan fits runs turn records =
      card-on first ends source_now plan fits runs turn.more turn.stands
      (turns now.feed board_now.nic.view
      (record { read = turn.read; more = turn.more; only = turn.only; reads = turn.reads; waits = turn.waits; plays = turn.plays })) records
      (dealt-of (length plan.ports.items) turn.read now.feed board.nic.view board_now.nic.view turn.plays
      (ap (λ s. s.layout.reserves) fits.sound.set.card ∙ sym fits.many ∙ runs.many) runs.dealt)

-- ---- an application

module _ (board board_now : Board) (was now : Run) (app : ℕ) (w_was w_now : Worker) (is_was : slice_get was.workers.items app ≡ Some w_was)
    (feed_is : now.feed ≡ was.feed) (items_are : now.workers.items ≡ set was.workers.items app w_now)
    (nic_is : board_now.nic ≡ board.nic) (others : (b : ℕ) → b ≢ app → side_of board_now b ≡ side_of board b)
    (many_apps : length board_now.apps ≡ length board.apps) (sound_now : IsSound (stand_of board_now)) where
  many-now : length now.workers.items ≡ length was.workers.items
  many-now = ap length items_are ∙ length-set was.workers.items app w_now

  get-now : (a : ℕ) (w : Worker) → slice_get now.workers.items a ≡ Some w → InSet was.workers.items app w_now a w
  get-now a w is = in-set was.workers.items app w_now a w (ap (λ items. slice_get items a) (sym items_are) ∙ is)

  pub app-fits : (n : ℕ) → RunFits board was n → WorkerFits (side_of board_now app).view w_now → IsRecorded (sides_of board_now) board_now.log → RunFits board_now now n
  app-fits n fits worker_now recorded = record {
    sound = sound_now;
    recorded = recorded;
    roles = record {
      ready = subst (λ f. IsFeedReady f board_now.nic.view) (sym feed_is) (subst (λ nic. IsFeedReady was.feed nic.view) (sym nic_is) fits.roles.ready);
      worker = λ a w is. elim (get-now a w is) [
        | here at same ↦ subst (λ b. WorkerFits (side_of board_now b).view w) (sym at)
            (subst (λ x. WorkerFits (side_of board_now app).view x) (sym same) worker_now)
        | there other is_there ↦ subst (λ side. WorkerFits side.view w) (sym (others a other)) (fits.roles.worker a w is_there)
      ];
    };
    many = many-now ∙ fits.many ∙ sym (reserves-same board board_now fits.sound sound_now many_apps);
    shelves_enough = let same = many-now in omega (arith, same, fits.shelves_enough);
  }

  pub app-runs : {S T : Type 0} {m : Streams S T} (first ends : Ends m) (plan : Plan) (shelf shelf_now : T) → slice_get ends.shelves app ≡ Some shelf
      → RunsSince first plan (moment ends board was)
      → (WorkerGoes plan (kept_at first app) (m.shelf.kept shelf) (counts_at first app) (m.shelf.counts shelf) (side_of board app).view w_was
      → WorkerGoes plan (kept_at first app) (m.shelf.kept shelf_now) (counts_at first app) (m.shelf.counts shelf_now) (side_of board_now app).view w_now)
      → RunsSince first plan (moment_at m ends.source (set ends.shelves app shelf_now) board_now now)
  app-runs {m} first ends plan shelf shelf_now shelf_is runs goes =
      let kept = m.shelf.kept in
      let counts = m.shelf.counts in
      let shelves = ends.shelves in
      let later = ends_at m ends.source (set shelves app shelf_now) in
      let within : app < length shelves = get-within shelves app shelf shelf_is in
      let below : app < length plan.ports.items = omega (arith, get-within was.workers.items app w_was is_was, runs.many) in
      let here_is = get-set_same shelves app shelf_now within in
      let was_runs = subst (λ k. WorkerGoes plan (kept_at first app) k (counts_at first app) (counts shelf) (side_of board app).view w_was)
      (kept-here kept shelves app shelf shelf_is)
      (subst (λ n. WorkerGoes plan (kept_at first app) (kept_at ends app) (counts_at first app) n (side_of board app).view w_was)
      (losses-here counts shelves app shelf shelf_is) (runs.worker app w_was is_was)) in
      let now_runs = subst (λ k. WorkerGoes plan (kept_at first app) k (counts_at first app) (counts_at later app)
      (side_of board_now app).view w_now)
      (sym (kept-here kept later.shelves app shelf_now here_is))
      (subst (λ n. WorkerGoes plan (kept_at first app) (kept shelf_now) (counts_at first app) n (side_of board_now app).view w_now)
      (sym (losses-here counts later.shelves app shelf_now here_is)) (goes was_runs)) in
      record {
        plan_is = runs.plan_is;
        by_turns = runs.by_turns;
        frames = runs.frames;
        turns = rw (feed_is, nic_is) runs.turns;
        feed = rw (feed_is, nic_is) runs.feed;
        setting = ap (λ nic. nic.view.setting) nic_is ∙ runs.setting;
        many = many-now ∙ runs.many;
        worker = λ a w is. elim (get-now a w is) [
          | here at same ↦
              subst (λ b. WorkerGoes plan (kept_at first b) (kept_at later b) (counts_at first b) (counts_at later b) (side_of board_now b).view w)
              (sym at) (subst (WorkerGoes plan _ _ _ _ (side_of board_now app).view) (sym same) now_runs)
          | there other is_there ↦
              let shelf_there = get-set_other shelves app a shelf_now other in
              subst (λ k. WorkerGoes plan (kept_at first a) k (counts_at first a) (counts_at later a) (side_of board_now a).view w)
              (sym (kept-there kept shelves later.shelves a shelf_there))
              (subst (λ n. WorkerGoes plan (kept_at first a) (kept_at ends a) (counts_at first a) n (side_of board_now a).view w)
              (sym (losses-there counts shelves later.shelves a shelf_there))
              (subst (λ side. WorkerGoes plan (kept_at first a) (kept_at ends a) (counts_at first a)
              (counts_at ends a) side.view w)
              (sym (others a other)) (runs.worker a w is_there)))
        ];
        many_shelves = length-set shelves app shelf_now ∙ runs.many_shelves;
        beyond = drop-set-lt (length plan.ports.items) shelves app shelf_now below ∙ runs.beyond;
        records = subst (λ (f : FeedState). f.tally.records ≤ most_records) (sym feed_is) runs.records;
        dealt = subst (λ (nic : NicSide). All (λ (d : Dealt). d.app < length plan.ports.items) nic.view.dealt) (sym nic_is) runs.dealt;
      }

-- ---- turns behind turns

pub plays-through : {S T : Type 0} {m : Streams S T} (a b c : Moment m) → PlaysTurns a b → PlaysTurns b c → PlaysTurns a c
plays-through a b c before after = record {
  fits = after.fits;
  workers = after.workers ∙ before.workers;
  many = after.many ∙ before.many;
  room = after.room ∙ before.room;
  runs = λ first plan runs. after.runs first plan (before.runs first plan runs);
}
