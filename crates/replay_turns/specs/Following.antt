-- The turns of a run by a text: from one state of a run to the next only the side of the letter's role moves.
use Rattle.std.specs.{Prelude.{◌≡◌, ◌≢◌, ℕ, zero, suc, ◌<◌, ◌⊎◌, true, false, List, [], ◌∷◌, ◌++◌, length, map, set, Some}, List.{slice_get}}
use Rattle.board_face.specs.AppEvents.{app_gist}
use Rattle.plain_board.specs.{Board.{Board, new_board, stand_of, side_of, others_of}, Seen.{IsSeenBy, IsSeenByCard}, Sound.{IsSound}}
use Rattle.app_worker.specs.{Turns.{Turns, look_of}, declared.turn.{Turn.{Turn, TheVariants.{Idle, Finished}}, Why.{Why}}}
use Rattle.card_feed.specs.{Counts.{sweeping_in, sweeps_in}, Feed.{FeedStands, WantsRecord, feed_steps, new_feed}, Plan.{layout_of}, Turns.{FeedTurns, IsIdle}, declared.outcome.Outcome.{Outcome}}
use Rattle.card_feed.specs.declared.plan.Plan.{Plan}
use Rattle.run_account.specs.{Ran.{Ran, TellsOf, Told, told_of}, Running.{AreNew, IsRunOver}, Views.{Ends, Streams}, declared.run.{Run.{Run}, Worker.{Worker}}}
use Rattle.replay_turns.specs.{Events.{LeavesBoard, log_room_of}, Running.{Moment, moment}, Schedule.{role_of}, declared.role.Role.{Role, TheVariants.{Card, App}}}

-- Nothing of a board but an application's side moved, and what its log has.
pub record OnlyAppMoved (app : ℕ) (was now : Board) : Type 0 where
  pub card : now.nic ≡ was.nic
  pub others : (b : ℕ) → b ≢ app → side_of now b ≡ side_of was b
  pub many : length now.apps ≡ length was.apps
  pub room : now.log.room ≡ was.log.room

-- The card had a turn: it did something, or there was nothing that it can do. Only its side moved, with the source.
pub record CardMoves {S T : Type 0} {m : Streams S T} (was now : Moment m) : Type 0 where
  pub turns : (first : S) (ports : List ℕ) (split : ℕ) (frames : List (List ℕ))
      → FeedStands m.source.left m.source.failed first was.ends.source ports split frames was.run.feed was.board.nic.view
      → FeedTurns m.source.left m.source.failed first now.ends.source ports split frames was.run.feed now.run.feed was.board.nic.view
      now.board.nic.view
  pub answer : (feed_steps was.run.feed was.board.nic.view < feed_steps now.run.feed now.board.nic.view)
      ⊎ IsIdle IsSeenByCard now.board.apps was.run.feed now.run.feed was.board.nic.view now.board.nic.view
  pub unread : ¬ WantsRecord was.run.feed → now.ends.source ≡ was.ends.source
  pub ports : now.run.feed.ports ≡ was.run.feed.ports
  pub apps : now.board.apps ≡ was.board.apps
  pub workers : now.run.workers.items ≡ was.run.workers.items
  pub shelves : now.ends.shelves ≡ was.ends.shelves
  pub sound : IsSound (stand_of now.board)

-- An application had a turn, with this answer; where it did nothing, that is so. Only its side moved, with its shelf.
pub record AppMoves {S T : Type 0} {m : Streams S T} (app : ℕ) (worker : Worker) (was now : Moment m) : Type 0 where
  pub worker_now : Worker
  pub shelf : T
  pub shelf_now : T
  pub shelf_at : slice_get was.ends.shelves app ≡ Some shelf
  pub answer : Turn
  pub turns : Turns worker.state worker_now.state (side_of was.board app).view (side_of now.board app).view
      (m.shelf.kept shelf) (m.shelf.kept shelf_now) (m.shelf.counts shelf).faults (m.shelf.counts shelf_now).faults answer
  pub seen : (why : Why) → answer ≡ Idle why → IsSeenBy (look_of why) (app_gist (side_of now.board app).view) (others_of now.board app)
  pub leaves : answer ≡ Finished → worker_now.left ≡ true
  pub stays : answer ≢ Finished → worker_now.left ≡ false
  pub workers : now.run.workers.items ≡ set was.run.workers.items app worker_now
  pub shelves : now.ends.shelves ≡ set was.ends.shelves app shelf_now
  pub feed : now.run.feed ≡ was.run.feed
  pub source : now.ends.source ≡ was.ends.source
  pub card : now.board.nic ≡ was.board.nic
  pub others : (b : ℕ) → b ≢ app → side_of now.board b ≡ side_of was.board b
  pub many : length now.board.apps ≡ length was.board.apps
  pub sound : IsSound (stand_of now.board)

-- The role had a turn. An application that has left does nothing in it.
abbrev pub RoleMoves : {S T : Type 0} → {m : Streams S T} → Role → Moment m → Moment m → Type 0
RoleMoves Card was now = CardMoves was now
RoleMoves (App app) was now = (worker : Worker) × (slice_get was.run.workers.items app ≡ Some worker)
    × (((worker.left ≡ true) × (now ≡ was)) ⊎ ((worker.left ≡ false) × AppMoves app worker was now))

-- These roles had turns, one after another.
abbrev pub Follows : {S T : Type 0} → {m : Streams S T} → List Role → Moment m → Moment m → Type 0
Follows [] was now = now ≡ was
Follows {S} {T} {m} (role ∷ roles) was now = (next : Moment m) × RoleMoves role was next × Follows roles next now

-- the first applications, in their order
abbrev pub first_apps : ℕ → List Role
first_apps zero = []
first_apps (suc n) = first_apps n ++ App n ∷ []

-- a round: the card, and then each application
abbrev pub round_of : ℕ → List Role
round_of apps = Card ∷ first_apps apps

abbrev pub rounds_of : ℕ → ℕ → List Role
rounds_of apps zero = []
rounds_of apps (suc n) = rounds_of apps n ++ round_of apps

-- Whole rounds were made.
abbrev pub FollowsRounds : {S T : Type 0} → {m : Streams S T} → ℕ → Moment m → Moment m → Type 0
FollowsRounds apps was now = (rounds : ℕ) × Follows (rounds_of apps rounds) was now

-- Nobody has taken a turn.
pub record IsNewRun (plan : Plan) (board : Board) (run : Run) : Type 0 where
  pub board_is : board ≡ new_board (layout_of plan) plan.options.ring (log_room_of plan)
  pub feed_is : run.feed ≡ new_feed plan.ports.items plan.options.split
  pub workers : AreNew plan run.workers.items

-- A run by a text of turns: nobody had taken a turn, the turns were those of the text, one a letter, and then whole rounds, until all
-- was over, and that is what is told.
pub record RunsBy {S T : Type 0} {m : Streams S T} (was now : Ends m) (plan : Plan) (turns : List ℕ) (told : Told) (board_now : Board)
    : Type 0 where
  pub opened : Board
  pub begun : Run
  pub new : IsNewRun plan opened begun
  pub last : Run
  pub rounds : ℕ
  pub follows : Follows (map role_of turns ++ rounds_of (length plan.ports.items) rounds) (moment was opened begun) (moment now board_now last)
  pub over : IsRunOver last
  pub outcome : Outcome
  pub tells : TellsOf last plan.ports.items outcome
  pub told_is : told ≡ told_of outcome

-- ---- what whole runs leave

-- The stream theorem, what the outcome says, and that all is over at the board and it accounts for the run. The board is sound, and its
-- log tells of it, which has room for `most_events` where the plan asks for a log.
pub record RanAlone {S T : Type 0} {m : Streams S T} (was now : Ends m) (plan : Plan) (told : Told) (board : Board) : Type 0 where
  pub ran : Ran was now plan told board.nic board.apps
  pub leaves : LeavesBoard plan board

-- And its turns were those of the text, one a letter, and then whole rounds.
pub record RanByText {S T : Type 0} {m : Streams S T} (was now : Ends m) (plan : Plan) (turns : List ℕ) (told : Told) (board : Board)
    : Type 0 where
  pub alone : RanAlone was now plan told board
  pub follows : RunsBy was now plan turns told board
  -- Each sweep of the free list was made by a search that is counted as one that swept it.
  pub swept : sweeping_in told.pool ≡ sweeps_in board.nic.view
