-- How the card goes on at its seat.
use Rattle.std.specs.Prelude.{◌≡◌, ◌≢◌, ◌⊎◌, ℕ, ◌+◌, ◌<◌, true, List, [], ◌∷◌, ◌++◌, length, All, Option, Some, None}
use Rattle.zr_kinds.specs.declared.fault.Fault.{Fault}
use Rattle.board_face.specs.{NicCalls.{NicOnlySaw}, NicEvents.{saw_leave}, declared.views.nic.{NicLook.TheVariants.{NotLeft}, NicView.{NicView}}}
use Rattle.card_feed.specs.{Ending.{ending_at}, FramesRead.{EndsAt}, Coming.{is_over}, Feed.{FeedState, IsFeedReady, FeedKnows, feed_steps}, Offered.{WantsRoom}}
use Rattle.card_feed.specs.declared.{arrived.Arrived.{Arrived}, intake.Stage.{Stage}}
use Rattle.card_feed.specs.declared.arrived.Arrived.TheVariants as arrived
use Rattle.card_feed.specs.declared.intake.Stage.TheVariants as stage
use Rattle.page_pool.specs.Pool.{pending_count}
use Rattle.run_account.specs.CardTurns.{CardTurns}
use Rattle.rtrb.specs.Ring.{received, SameConsumer}
use Rattle.replay_threads.specs.{Carried.{MayFollow, arrived_of}, declared.{carried.Carried.{Carried}, card.CardLane.{CardLane}}}
use Rattle.replay_threads.specs.declared.carried.Carried.TheVariants as carried

-- It looked whether the next application has left: it has, and is counted, or it hasn't yet. Or it didn't look. Nothing else changed.
pub record CardLooks (was now : CardLane) : Type 0 where
  pub board : now.seat.board ≡ was.seat.board
  pub feed : now.feed ≡ was.feed
  pub frames : now.frames ≡ was.frames
  pub sees : ((now.gone ≡ was.gone)
      × ((now.seat.side.view ≡ was.seat.side.view) ⊎ NicOnlySaw (NotLeft was.gone) was.seat.side.view now.seat.side.view))
      ⊎ ((now.gone ≡ was.gone + 1) × (now.seat.side.view ≡ saw_leave was.seat.side.view was.gone))

-- ---- what the reading sends

-- The next message was taken, and is what came; or none was.
abbrev pub Came : List Carried → List Carried → Arrived → Type 0
Came old new arrived.Nothing = new ≡ old
Came old new came = (m : Carried) × (new ≡ old ++ m ∷ []) × MayFollow old m × (arrived_of m ≡ came)

-- No frame is taken now: one is at hand, notes are pending, or the reading has ended.
abbrev pub FeedWaits : FeedState → Type 0
FeedWaits feed = (feed.at_hand ≢ None) ⊎ ((0 < pending_count feed.pool) ⊎ (is_over feed.stage ≡ true))

pub record CardTakes (was now : CardLane) (came : Arrived) : Type 0 where
  pub seat : now.seat ≡ was.seat
  pub feed : now.feed ≡ was.feed
  pub ring : SameConsumer was.frames now.frames
  pub came_is : Came (received was.frames) (received now.frames) came
  pub gone : now.gone ≡ was.gone

-- the message is a frame of these bytes
abbrev pub IsFrame : Carried → List ℕ → Type 0
IsFrame (carried.Frame number found bytes) frame = bytes.items ≡ frame
IsFrame (carried.Over end) frame = ⊥

-- What the messages brought: these frames, and perhaps the end of the reading. What comes behind that is dropped.
pub data Brought (split : ℕ) (ports : List ℕ) : List Carried → List (List ℕ) → Stage → Type 0 where
  nothing : Brought split ports [] [] stage.Unopened
  frame : (before : List Carried) (frames : List (List ℕ)) (m : Carried) (bytes : List ℕ) → Brought split ports before frames stage.Unopened
      → MayFollow before m → IsFrame m bytes → ending_at ports frames bytes ≡ None
      → Brought split ports (before ++ m ∷ []) (frames ++ bytes ∷ []) stage.Unopened
  ends : (before : List Carried) (frames : List (List ℕ)) (m : Carried) (bytes : List ℕ) (fault : Fault)
      → Brought split ports before frames stage.Unopened → MayFollow before m → IsFrame m bytes
      → EndsAt (WantsRoom split ports) ports frames bytes fault → Brought split ports (before ++ m ∷ []) frames (stage.Over (Some fault))
  over : (before : List Carried) (frames : List (List ℕ)) (m : Carried) (end : Option Fault) → Brought split ports before frames stage.Unopened
      → MayFollow before m → arrived_of m ≡ arrived.Over end → Brought split ports (before ++ m ∷ []) frames (stage.Over end)
  dropped : (before : List Carried) (frames : List (List ℕ)) (m : Carried) (end : Option Fault)
      → Brought split ports before frames (stage.Over end) → MayFollow before m → Brought split ports (before ++ m ∷ []) frames (stage.Over end)

-- ---- turns

-- It came further: frames were read, notes sent, entries dealt with, or the reading ended, or the card was closed; or it saw one more
-- application leave.
abbrev pub CardDid : CardLane → CardLane → Type 0
CardDid was now = (feed_steps was.feed was.seat.side.view < feed_steps now.feed now.seat.side.view) ⊎ (was.gone < now.gone)

-- It stands by the frames that these messages brought, came to that by turns of its own, and each entry that was dealt with is of an
-- application.
pub record CardStands (ports : List ℕ) (split : ℕ) (messages : List Carried) (feed : FeedState) (v : NicView) : Type 0 where
  pub frames : List (List ℕ)
  pub knows : FeedKnows ports split frames feed v
  pub brought : Brought split ports messages frames feed.stage
  pub turns : CardTurns ports split frames feed v
  pub dealt : All (λ d. d.app < length ports) v.dealt

-- Some turns: it is ready for the next, at the same board and the same ring, and stands by all that was sent to it.
pub record CardGoes (was now : CardLane) : Type 0 where
  pub board : now.seat.board ≡ was.seat.board
  pub ready : IsFeedReady now.feed now.seat.side.view
  pub ports : now.feed.ports ≡ was.feed.ports
  pub ring : SameConsumer was.frames now.frames
  pub stands : (ports : List ℕ) (split : ℕ) → CardStands ports split (received was.frames) was.feed was.seat.side.view
      → CardStands ports split (received now.frames) now.feed now.seat.side.view

-- ---- what isn't wanted any more

-- The next message was taken, and nothing else changed.
pub record CardDrops (was now : CardLane) : Type 0 where
  pub seat : now.seat ≡ was.seat
  pub feed : now.feed ≡ was.feed
  pub ring : SameConsumer was.frames now.frames
  pub message : Carried
  pub follows : MayFollow (received was.frames) message
  pub taken : received now.frames ≡ received was.frames ++ message ∷ []
