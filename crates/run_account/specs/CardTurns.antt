-- All that the card does in a run: turns, steps for what the reading beside it sends, looks ahead, and looks for leaves.
use Rattle.std.specs.Prelude.{◌≡◌, ◌⊎◌, ℕ, ◌≤◌, List, []}
use Rattle.board_face.specs.{NicCalls.{NicOnlySaw}, NicEvents.{saw_leave}, Opened.{new_nic_view}}
use Rattle.board_face.specs.declared.views.{parts.Setting.{Setting}, nic.{NicLook.TheVariants.{NotLeft}, NicView.{NicView}}}
use Rattle.page_pool.specs.Searching.{LooksAhead}
use Rattle.card_feed.specs.{Feed.{FeedState, WantsRecord, new_feed}, Turns.{FeedPlays, FeedSteps, MayArrive, OnlyReadsFrames, ReadsOne}}
use Rattle.card_feed.specs.declared.arrived.Arrived.{Arrived}
use Rattle.run_account.specs.Behind.{Behind}

-- between two of its acts: the frames that it has read, what it keeps, and what it has seen
pub record CardMoment : Type 0 where
  pub frames : List (List ℕ)
  pub feed : FeedState
  pub view : NicView

abbrev pub card_moment : List (List ℕ) → FeedState → NicView → CardMoment
card_moment frames feed view = record { frames = frames; feed = feed; view = view }

-- A turn in which the card itself reads a record, where it wants one.
pub record ReadsAndPlays (ports : List ℕ) (was : CardMoment) (now : FeedState) (new : NicView) : Type 0 where
  pub read : FeedState
  pub more : List (List ℕ)
  pub only : OnlyReadsFrames was.feed read
  pub reads : WantsRecord was.feed → ReadsOne ports read was.frames more
  pub waits : ¬ WantsRecord was.feed → (read ≡ was.feed) × (more ≡ was.frames)
  pub plays : FeedPlays read now was.view new

-- It looked whether an application has left: it has, or it hasn't yet.
abbrev pub LooksForLeave : NicView → NicView → Type 0
LooksForLeave old new = (app : ℕ) × ((new ≡ saw_leave old app) ⊎ NicOnlySaw (NotLeft app) old new)

-- The card took a turn; or a step for what came; or it looked for so many buffers, before it offers a frame that needs them; or it looked
-- whether applications have left.
pub data CardActs (ports : List ℕ) (split : ℕ) (was : CardMoment) : CardMoment → Type 0 where
  turns : (now : FeedState) (new : NicView) → (turn : ReadsAndPlays ports was now new) → CardActs ports split was (card_moment turn.more now new)
  steps : (came : Arrived) (now : FeedState) (new : NicView) → MayArrive was.feed came
      → (step : FeedSteps ports split was.frames came was.feed now was.view new) → CardActs ports split was (card_moment step.more now new)
  prepares : (need : ℕ) (now : FeedState) (new : NicView) → need ≤ 64 → LooksAhead need was.feed.pool now.pool was.view new
      → now ≡ record was.feed { pool = now.pool } → CardActs ports split was (card_moment was.frames now new)
  sees : (new : NicView) → LooksForLeave was.view new → CardActs ports split was (card_moment was.frames was.feed new)

-- All that it did since nothing was read and nothing seen at its side, and the frames that it read meanwhile.
abbrev pub CardTurns : List ℕ → ℕ → List (List ℕ) → FeedState → NicView → Type 0
CardTurns ports split frames feed v =
    (setting : Setting) × Behind (CardActs ports split) (card_moment [] (new_feed ports split) (new_nic_view setting)) (card_moment frames feed v)
