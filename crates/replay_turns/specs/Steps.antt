-- How far a run has come, and how far it can come.
use Rattle.std.specs.Prelude.{◌≡◌, ◌≢◌, ◌<◌, true, false, ℕ, suc, ◌+◌, ◌*◌, ◌≤◌, List, [], ◌∷◌, length, Option}
use Rattle.zr_kinds.specs.Limits.{longest_payload, most_records}
use Rattle.board_face.specs.declared.views.app.AppView.{AppView}
use Rattle.plain_board.specs.Board.{Board, side_of}
use Rattle.app_worker.specs.{State.{app_steps, one_if}, Turns.{Turns}, declared.turn.{Turn.{Turn, TheVariants.{Idle, Finished}}, Why.{Why}}}
use Rattle.card_feed.specs.{Feed.{feed_steps}, declared.plan.Plan.{Plan}}
use Rattle.run_account.specs.{Views.{Ends, Streams}, declared.run.{Run.{Run}, Worker.{Worker}}}
use Rattle.replay_turns.specs.Running.{Moment, RunFits, RunsSince}

-- ---- how far it has come

-- Each note, loan and entry of an application at the place that it has come to, and what comes once; and 1 each once it has
-- nothing any more, and once it has left.
abbrev pub worker_steps : AppView → Worker → ℕ
worker_steps v w = app_steps w.state v + one_if w.state.bare + one_if w.left

-- those of these applications, which have the numbers from `a` on
abbrev pub steps_from : Board → ℕ → List Worker → ℕ
steps_from board a [] = 0
steps_from board a (w ∷ workers) = worker_steps (side_of board a).view w + steps_from board (suc a) workers

-- Records read, notes sent and entries dealt with, the end of the reading and closing; and what the applications did.
abbrev pub run_steps : Board → Run → ℕ
run_steps board run = feed_steps run.feed board.nic.view + steps_from board 0 run.workers.items

-- A turn of an application that is here brings it back in nothing and, unless it did nothing, further.
abbrev pub TurnsRise : Type 0
TurnsRise =
    (was now : Worker) (old new : AppView) (kept kept_now : ℕ → Option (List ℕ)) (faults faults_now : ℕ) (result : Turn)
    → Turns was.state now.state old new kept kept_now faults faults_now result → was.left ≡ false → (result ≡ Finished → now.left ≡ true)
    → (worker_steps old was ≤ worker_steps new now) × (((why : Why) → result ≢ Idle why) → worker_steps old was < worker_steps new now)

-- ---- how far it can come

-- How many bytes the payloads of all records have at most. Each note shows one of them at least, and each loan is of one at least.
abbrev pub most_bytes : ℕ
most_bytes = longest_payload * most_records

-- Each loan comes to four places, and its entry is followed by at most `stray` others. The 7 are for the loan that is due, for
-- the end of its notes, for its scrub, and twice each for having nothing any more and for having left.
abbrev pub worker_most : ℕ → ℕ
worker_most stray = most_bytes + 4 * most_bytes + stray * most_bytes + 7

-- the entries of an application: one for each loan, and those that follow it
abbrev pub entries_most : ℕ → ℕ
entries_most stray = most_bytes + stray * most_bytes

abbrev pub run_most : ℕ → ℕ → ℕ
run_most apps stray = most_records + most_bytes + 2 + apps * entries_most stray + apps * worker_most stray

-- A run of a plan goes no further.
abbrev pub RunsStayWithin : {S T : Type 0} → Streams S T → Type 0
RunsStayWithin m =
    (first : Ends m) (now : Moment m) (plan : Plan) → RunFits now.board now.run (length now.ends.shelves) → RunsSince first plan now
    → run_steps now.board now.run ≤ run_most (length plan.ports.items) plan.options.how.stray
