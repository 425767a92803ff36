-- What the card keeps between its turns, and how that stands to the source and to what its face has seen.
use Rattle.std.specs.Prelude.{◌≡◌, ◌≢◌, ℕ, ◌+◌, ◌<◌, Bool, true, false, List, [], length, Option, None}
use Rattle.zr_kinds.specs.declared.{fault.Fault.{Fault}, outcome.Tally.{Tally}}
pub use Rattle.zr_kinds.specs.Counting.{one_if}
use Rattle.flow_table.specs.Flows.{Flow, flows_of}
use Rattle.board_face.specs.{NicCalls.{apps_of, IsOpen}, declared.views.nic.NicView.{NicView}}
use Rattle.page_pool.specs.{Frames.{Offered}, Pool.{PoolState, PoolStands, HasNonePending, pending_count, all_notes, new_pool}}
use Rattle.card_feed.specs.{Ending.{steered_in}, Tally.{tally_of, no_tally}}
use Rattle.card_feed.specs.{declared.intake.Stage.{Stage}, Coming.{ComesTo, is_over}, Offered.{offers_of, AreSettled, WantsRoom}, Counts.{AreOffersCounted, AreFound, HaveSwept}}
use Rattle.card_feed.specs.Need.{AreNeeded}
use Rattle.card_feed.specs.declared.intake.Stage.TheVariants as stage

pub record FeedState : Type 0 where
  pub ports : List ℕ
  -- how far the reading has come
  pub stage : Stage
  pub tally : Tally
  pub flows : List Flow
  -- the numbers of the frames that were refused
  pub refused : List ℕ
  -- the frame that is to be offered
  pub at_hand : Option Offered
  pub pool : PoolState
  pub closed : Bool

-- nothing was read
abbrev pub new_feed : List ℕ → ℕ → FeedState
new_feed ports split = record {
  ports = ports;
  stage = stage.Unopened;
  tally = no_tally;
  flows = [];
  refused = [];
  at_hand = None;
  pool = new_pool split;
  closed = false;
}

-- what ended the reading, if it wasn't the end of the bytes
abbrev pub fault_of_stage : Stage → Option Fault
fault_of_stage stage.Unopened = None
fault_of_stage (stage.Open capture) = None
fault_of_stage (stage.Over end) = end

-- a turn begins with a record
pub record WantsRecord (feed : FeedState) : Type 0 where
  pub none : feed.at_hand ≡ None
  pub goes : is_over feed.stage ≡ false

-- The tokens and pending notes are those of this feed's turns. Once the card was closed, nothing is pending and nothing
-- read any more.
pub record FeedFits (feed : FeedState) (v : NicView) : Type 0 where
  pub stands : PoolStands feed.pool v
  pub apps : length feed.ports ≡ apps_of v.setting
  pub on : feed.closed ≡ false → IsOpen v
  pub ended : feed.closed ≡ true → v.ended ≡ true
  pub over : feed.closed ≡ true → is_over feed.stage ≡ true
  pub none : feed.closed ≡ true → feed.at_hand ≡ None
  pub sent : feed.closed ≡ true → HasNonePending feed.pool

-- and between two turns a frame is at hand only behind pending notes
pub record IsFeedReady (feed : FeedState) (v : NicView) : Type 0 where
  pub fits : FeedFits feed v
  pub waits : feed.at_hand ≢ None → 0 < pending_count feed.pool

-- These frames came. They are counted, their flows are known, the notes that were sent and those that are pending show what was
-- offered of them, the pool's counts say how that went, and what they used is within their need.
pub record FeedKnows (ports : List ℕ) (split : ℕ) (frames : List (List ℕ)) (feed : FeedState) (v : NicView) : Type 0 where
  pub ports_are : feed.ports ≡ ports
  pub split_is : feed.pool.split ≡ split
  pub tally_is : feed.tally ≡ tally_of ports frames
  pub flows_are : feed.flows ≡ flows_of (steered_in ports frames)
  pub settled : AreSettled split (offers_of (steered_in ports frames)) feed.refused feed.at_hand (all_notes feed.pool v)
  pub counted : AreOffersCounted split (offers_of (steered_in ports frames)) feed.refused feed.at_hand v.dealt feed.pool.stats
  pub needed : AreNeeded v.setting.layout split (offers_of (steered_in ports frames)) feed.refused feed.at_hand (all_notes feed.pool v) v.used
  pub found : AreFound (all_notes feed.pool v) feed.pool
  pub swept : HaveSwept feed.pool v

-- And they were read since the source was as at first.
pub record FeedStands {S : Type 0} (left : S → Option (List ℕ)) (faults : S → ℕ) (first now : S) (ports : List ℕ) (split : ℕ)
    (frames : List (List ℕ)) (feed : FeedState) (v : NicView) : Type 0 where
  pub knows : FeedKnows ports split frames feed v
  pub comes : ComesTo (WantsRoom split ports) left faults first now ports feed.stage frames

-- A new feed has read nothing.
abbrev pub NewFeedsStand : {S : Type 0} → (S → Option (List ℕ)) → (S → ℕ) → Type 0
NewFeedsStand {S} left faults =
    (source : S) (ports : List ℕ) (split : ℕ) (v : NicView) → v.sent ≡ [] → v.dealt ≡ [] → v.used ≡ []
    → FeedStands left faults source source ports split [] (new_feed ports split) v

-- ---- how far the card has come

abbrev pub card_steps : Bool → NicView → ℕ
card_steps closed v = length v.sent + length v.dealt + one_if closed

-- Frames read, notes sent, entries dealt with, and 1 each for the end of the reading and for closing.
abbrev pub feed_steps : FeedState → NicView → ℕ
feed_steps feed v = feed.tally.records + one_if (is_over feed.stage) + card_steps feed.closed v
