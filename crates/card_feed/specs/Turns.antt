-- What a turn of the card does.
use Rattle.std.specs.Prelude.{◌≡◌, ℕ, ◌<◌, ◌⊎◌, true, false, List, [], ◌∷◌, ◌++◌, Option, Some, None}
use Rattle.zr_kinds.specs.declared.fault.Fault.{Fault}
use Rattle.board_face.specs.{Looks.{NicRose}, NicCalls.{apps_of}, NicEvents.{nic_gist}, declared.views.nic.NicLook.{NicLook, TheVariants.{RingEmpty, NoteInUse}}}
use Rattle.board_face.specs.declared.views.nic.NicView.{NicView}
use Rattle.page_pool.specs.{declared.offer.{Offer.{Offer}, Verdict.{Verdict, TheVariants.{Accepted, NoRoom, Busy}}}, Frames.{Offered, offered}}
use Rattle.page_pool.specs.{Dealing.{DrainsRings, CountsStrays}, Pool.{PoolState, HasNonePending, IsNextApp, OnlySends, Closes}, Offer.{Offers}}
use Rattle.page_pool.specs.declared.search_end.SearchEnd.TheVariants.{Fast}
use Rattle.card_feed.specs.{Ending.{ending_at}, FramesRead.{EndsAt}}
use Rattle.card_feed.specs.{declared.arrived.Arrived.{Arrived}, Coming.{is_over}, Offered.{WantsRoom, offer_next}, Feed.{FeedState, FeedKnows, FeedStands, WantsRecord}}
use Rattle.card_feed.specs.declared.arrived.Arrived.TheVariants as arrived
use Rattle.card_feed.specs.declared.intake.Stage.TheVariants as stage

-- ---- reading

-- One more record was read, and its frame is at hand where it is offered; or the reading ended.
abbrev pub ReadsOne : List ℕ → FeedState → List (List ℕ) → List (List ℕ) → Type 0
ReadsOne ports now frames more =
    ((frame : List ℕ) × (more ≡ frames ++ frame ∷ []) × (now.at_hand ≡ offer_next ports frames frame) × (is_over now.stage ≡ false))
    ⊎ ((more ≡ frames) × (now.at_hand ≡ None) × (is_over now.stage ≡ true))

-- and nothing else of the feed changed
abbrev pub OnlyReadsFrames : FeedState → FeedState → Type 0
OnlyReadsFrames was now = now ≡ record was { stage = now.stage; tally = now.tally; flows = now.flows; at_hand = now.at_hand }

-- ---- what arrives

-- It brings nothing where a frame is at hand, and once the reading has ended.
abbrev pub MayArrive : FeedState → Arrived → Type 0
MayArrive feed (arrived.Frame found bytes) = WantsRecord feed
MayArrive feed arrived.Nothing = Unit {0}
MayArrive feed (arrived.Over end) = WantsRecord feed

-- One more frame came, and is at hand where it is offered.
pub record TakesOneFrame (ports : List ℕ) (was now : FeedState) (frames : List (List ℕ)) (frame : List ℕ) (more : List (List ℕ)) : Type 0 where
  pub more_are : more ≡ frames ++ frame ∷ []
  pub goes : ending_at ports frames frame ≡ None
  pub hand : now.at_hand ≡ offer_next ports frames frame
  pub stage_is : now.stage ≡ was.stage

-- A frame came that ends the reading: nothing of it was taken.
pub record EndsOn (split : ℕ) (ports : List ℕ) (now : FeedState) (frames : List (List ℕ)) (frame : List ℕ) (more : List (List ℕ)) : Type 0 where
  pub fault : Fault
  pub ends : EndsAt (WantsRoom split ports) ports frames frame fault
  pub more_are : more ≡ frames
  pub hand : now.at_hand ≡ None
  pub stage_is : now.stage ≡ stage.Over (Some fault)

-- What arrived was taken.
abbrev pub ReceivesArrived : ℕ → List ℕ → FeedState → FeedState → List (List ℕ) → List (List ℕ) → Arrived → Type 0
ReceivesArrived split ports was now frames more (arrived.Frame found bytes) =
    TakesOneFrame ports was now frames bytes.items more ⊎ EndsOn split ports now frames bytes.items more
ReceivesArrived split ports was now frames more arrived.Nothing = (now ≡ was) × (more ≡ frames)
ReceivesArrived split ports was now frames more (arrived.Over end) =
    (more ≡ frames) × (now.at_hand ≡ None) × (now.stage ≡ stage.Over end)

-- ---- what a turn leaves alone

-- the greatest payload that isn't split, and the board's setting
pub record KeepsSetting (was now : PoolState) (old new : NicView) : Type 0 where
  pub split : now.split ≡ was.split
  pub setting : new.setting ≡ old.setting

-- ---- the frame at hand

-- It is accepted; or it is refused, and its number is noted; or it stays at hand, and the rings are drained.
abbrev pub Settles : FeedState → FeedState → NicView → NicView → Offer → Verdict → Type 0
Settles was now old new o Accepted = Offers was.pool now.pool old new o Accepted × (now ≡ record was { at_hand = None; pool = now.pool })
Settles was now old new o (NoRoom cached need) =
    Offers was.pool now.pool old new o (NoRoom cached need) × (now ≡ record was { refused = was.refused ++ o.frame ∷ []; at_hand = None; pool = now.pool })
Settles was now old new o Busy =
    (pool : PoolState) × (mid : NicView) × (count : ℕ) × Offers was.pool pool old mid o Busy × DrainsRings pool.stats now.pool.stats mid new count
    × (now ≡ record was { pool = record pool { stats = now.pool.stats } })

pub record OffersHand (was now : FeedState) (old new : NicView) (o : Offered) : Type 0 where
  pub offer : Offer
  pub is : offered offer ≡ o
  pub verdict : Verdict
  pub settles : Settles was now old new offer verdict

-- ---- the end of the reading

-- What was pending is sent and the card closed; or a slot is in use, and the rings are drained.
abbrev pub FinishesCard : FeedState → FeedState → NicView → NicView → Type 0
FinishesCard was now old new =
    (pool : PoolState) × (mid : NicView) × OnlySends was.pool pool old mid
    × ((HasNonePending pool × Closes pool.current mid new × (now ≡ record was { pool = record pool { current = None }; closed = true }))
    ⊎ (((app : ℕ) × IsNextApp pool app × NicRose (NoteInUse app) old mid) × ((count : ℕ) × DrainsRings pool.stats now.pool.stats mid new count
    × (now ≡ record was { pool = record pool { stats = now.pool.stats } }))))

-- ---- a turn, once it has read what it reads

pub data FeedPlays (was now : FeedState) (old new : NicView) : Type 0 where
  drains : was.closed ≡ true → (count : ℕ) → DrainsRings was.pool.stats now.pool.stats old new count
      → now ≡ record was { pool = record was.pool { stats = now.pool.stats } } → FeedPlays was now old new
  offers : was.closed ≡ false → (o : Offered) → was.at_hand ≡ Some o → OffersHand was now old new o → FeedPlays was now old new
  finishes : was.closed ≡ false → was.at_hand ≡ None → is_over was.stage ≡ true → FinishesCard was now old new → FeedPlays was now old new
  -- what was searched ahead was for a frame that isn't offered
  rests : was.closed ≡ false → was.at_hand ≡ None → is_over was.stage ≡ false → now ≡ record was { pool = record was.pool { ahead = Fast } }
      → new ≡ old → FeedPlays was now old new

-- A turn: a record is read where one is wanted, and then the rest is done.
pub record FeedTurns {S : Type 0} (left : S → Option (List ℕ)) (faults : S → ℕ) (first source : S) (ports : List ℕ) (split : ℕ)
    (frames : List (List ℕ)) (was now : FeedState) (old new : NicView) : Type 0 where
  pub read : FeedState
  pub more : List (List ℕ)
  pub only : OnlyReadsFrames was read
  pub reads : WantsRecord was → ReadsOne ports read frames more
  pub waits : ¬ WantsRecord was → (read ≡ was) × (more ≡ frames)
  pub plays : FeedPlays read now old new
  pub stands : FeedStands left faults first source ports split more now new

-- ---- a step, by what arrived

-- A record is wanted, and none has come yet.
abbrev pub IsAwaiting : FeedState → Arrived → Type 0
IsAwaiting feed (arrived.Frame found bytes) = ⊥
IsAwaiting feed arrived.Nothing = WantsRecord feed
IsAwaiting feed (arrived.Over end) = ⊥

-- Until one comes, what is pending is sent, up to a slot in use, and the rings are drained.
abbrev pub KeepsUp : FeedState → FeedState → NicView → NicView → Type 0
KeepsUp was now old new =
    (pool : PoolState) × (mid : NicView) × OnlySends was.pool pool old mid
    × (HasNonePending pool ⊎ ((app : ℕ) × IsNextApp pool app × NicRose (NoteInUse app) old mid))
    × ((count : ℕ) × DrainsRings pool.stats now.pool.stats mid new count × (now ≡ record was { pool = record pool { stats = now.pool.stats } }))

-- A step: what arrived is taken, and then the rest is done.
pub record FeedSteps (ports : List ℕ) (split : ℕ) (frames : List (List ℕ)) (came : Arrived) (was now : FeedState) (old new : NicView) : Type 0 where
  pub taken : FeedState
  pub more : List (List ℕ)
  pub only : OnlyReadsFrames was taken
  pub receives : ReceivesArrived split ports was taken frames more came
  pub done : (¬ IsAwaiting was came × FeedPlays taken now old new) ⊎ (IsAwaiting was came × KeepsUp taken now old new)
  pub stage_is : now.stage ≡ taken.stage
  pub knows : FeedKnows ports split more now new

-- ---- a turn that did nothing

-- Nothing changed but looks: each refill ring was seen empty in this turn, and either it rests for this reason or a next note
-- slot was seen in use; and that is so, where the board tells it.
pub record HasLooked {B : Type 0} (Rests : Type 0) (tells : NicLook → NicView → B → Type 0) (beside : B) (was now : FeedState)
    (old new : NicView) : Type 0 where
  pub feed : now ≡ record was { pool = record was.pool { stats = now.pool.stats } }
  pub stats : CountsStrays was.pool.stats now.pool.stats []
  pub view : nic_gist new ≡ nic_gist old
  pub rings : (a : ℕ) → a < apps_of old.setting → NicRose (RingEmpty a) old new × tells (RingEmpty a) (nic_gist new) beside
  pub notes : Rests
      ⊎ ((app : ℕ) × (app < apps_of old.setting) × NicRose (NoteInUse app) old new × tells (NoteInUse app) (nic_gist new) beside)

-- It rests once the card was closed.
abbrev pub IsIdle : {B : Type 0} → (NicLook → NicView → B → Type 0) → B → FeedState → FeedState → NicView → NicView → Type 0
IsIdle tells beside was now old new = HasLooked (was.closed ≡ true) tells beside was now old new

-- And where a record is awaited, once nothing is pending.
abbrev pub HasRested : FeedState → FeedState → Arrived → Type 0
HasRested was now came = (was.closed ≡ true) ⊎ (IsAwaiting was came × HasNonePending now.pool)
