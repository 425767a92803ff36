-- A run in which no turn can do anything, and what keeps each role back.
use Rattle.std.specs.{Prelude.{◌≡◌, ℕ, ◌<◌, ◌⊎◌, true, Some}, List.{slice_get}}
use Rattle.board_face.specs.{AppEvents.{app_gist}, NicCalls.{apps_of}, NicEvents.{nic_gist}, declared.views.nic.NicLook.TheVariants.{RingEmpty, NoteInUse}}
use Rattle.plain_board.specs.{Board.{Board, side_of, others_of}, Seen.{IsSeenBy, IsSeenByCard}}
use Rattle.app_worker.specs.{Turns.{Because, look_of}, declared.turn.Why.{Why}}
use Rattle.run_account.specs.{Running.{IsRunOver}, declared.run.{Run.{Run}, Worker.{Worker}}}
use Rattle.replay_turns.specs.{Running.{RunFits}, declared.role.Role.{Role, TheVariants.{Card, App}}}

-- Each refill ring is empty and, unless the card was closed, a note ring is full.
pub record IsCardStuck (board : Board) (run : Run) : Type 0 where
  pub rings : (a : ℕ) → a < apps_of board.nic.view.setting → IsSeenByCard (RingEmpty a) (nic_gist board.nic.view) board.apps
  pub notes : (run.feed.closed ≡ true)
      ⊎ ((a : ℕ) × (a < apps_of board.nic.view.setting) × IsSeenByCard (NoteInUse a) (nic_gist board.nic.view) board.apps)

-- There is something that keeps the application back, and that is so.
pub record IsAppKeptBack (board : Board) (a : ℕ) (w : Worker) : Type 0 where
  pub why : Why
  pub because : Because why w.state (side_of board a).view
  pub seen : IsSeenBy (look_of why) (app_gist (side_of board a).view) (others_of board a)

-- It has left or is kept back.
abbrev pub IsAppStuck : Board → Run → ℕ → Type 0
IsAppStuck board run a = (w : Worker) → slice_get run.workers.items a ≡ Some w → (w.left ≡ true) ⊎ IsAppKeptBack board a w

-- The role can do nothing.
abbrev pub IsStuck : Role → Board → Run → Type 0
IsStuck Card board run = IsCardStuck board run
IsStuck (App a) board run = IsAppStuck board run a

-- Nobody can do anything.
pub record AreStuck (board : Board) (run : Run) : Type 0 where
  pub card : IsCardStuck board run
  pub app : (a : ℕ) → IsAppStuck board run a

-- Nobody waits for anybody but where all are gone.
abbrev pub StuckRunsAreOver : Type 0
StuckRunsAreOver = (board : Board) (run : Run) (shelves : ℕ) → RunFits board run shelves → AreStuck board run → IsRunOver run
