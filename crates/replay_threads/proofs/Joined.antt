-- What the reading made and what the card was sent, together: the frames that the card stands by were read, and how that ended.
use Rattle.std.proofs.Common.{◌≡◌, ◌≢◌, ◌⊎◌, ⊎_elim, inl, inr, ℕ, ◌<◌, ◌≤◌, List, [], ◌∷◌, ◌++◌, length, Bool, true, false, Option, Some, None, append-nil}
use Rattle.std.specs.Prelude.{All, option_to_list}
use Rattle.std.proofs.{Common.{refl, sym, ap, subst, ◌∙◌, length-append, arith, ◌||◌, if◌then◌else◌, ◌==◌}, lemmas.Bool.{true≢false}}
use Rattle.zr_kinds.specs.declared.fault.Fault.{Fault, TheVariants.{Memory, Usage, NotPcap, Version, LinkType, Cut, LongRecord, Read, Write, TooManyFlows}}
use Rattle.zr_kinds.specs.{declared.fault.Fault.TheVariants.{TooManyFrames, BadBlock, BadRun}, Limits.{most_flows, most_records}}
use Rattle.flow_table.specs.{Flows.{Flow, flows_of, number_of_flow}, Steered.{SteeredTcp}}
use Rattle.card_feed.{specs.{Ending.{ending_at, flow_ending, steered_in, steered_next}, FramesRead.{EndsAt, HasEnded}}, proofs.Framing.{ending-flow}}
use Rattle.board_face.specs.declared.views.nic.NicView.{NicView}
use Rattle.card_feed.specs.{Coming.{Arrives, ComesTo, TookBytes, is_over}, Feed.{FeedState, FeedStands, fault_of_stage}, Offered.{WantsRoom}}
use Rattle.card_feed.{specs.declared.intake.Stage.{Stage}, proofs.Further.{took-then}}
use Rattle.card_feed.specs.declared.arrived.Arrived.TheVariants as arrived
use Rattle.card_feed.specs.declared.intake.Stage.TheVariants as stage
use Rattle.run_account.{specs.{CardTurns.{CardTurns}, Ran.{HasReadOn}, Views.{source_seen}}, proofs.ReadOn.{HasReadOn-refl}}
use Rattle.replay_threads.specs.{declared.carried.Carried.{Carried}, Carried.{MayFollow, arrived_of, has_end, is_end}, Made.{IsMade}}
use Rattle.replay_threads.{specs.Cards.{IsFrame, Brought, nothing, frame, ends, over, dropped, CardStands}, proofs.{CardTurns.{drop-brought}, ReaderTurns.{made-last}}}
use Rattle.replay_threads.specs.declared.carried.Carried.TheVariants as carried

-- ---- which endings are the card's

-- want of memory, and a flow too many
abbrev IsOwn : Option Fault → Type 0
IsOwn end = (end ≡ Some Memory) ⊎ (end ≡ Some TooManyFlows)

flow-own : (flows : List Flow) (next : Option SteeredTcp) (fault : Fault) → flow_ending flows next ≡ Some fault → fault ≡ TooManyFlows
flow-own flows None fault is = absurd (cc)
flow-own flows (Some s) fault is = by_number (number_of_flow flows s == most_flows) is
  where
    by_number : (limit : Bool) → (if limit then Some TooManyFlows else None) ≡ Some fault → fault ≡ TooManyFlows
    by_number true is = cc
    by_number false is = absurd (cc)

-- as long as the reading goes on there are as many messages as frames
many-frames : (split : ℕ) (ports : List ℕ) (messages : List Carried) (frames : List (List ℕ)) (at : Stage) → at ≡ stage.Unopened
    → Brought split ports messages frames at → length frames ≡ length messages
many-frames split ports _ _ _ on nothing = refl
many-frames split ports _ _ _ on (frame before frames m bytes was follows is more) =
    let shorter = many-frames split ports before frames stage.Unopened refl was in
    omega (arith, length-append frames (bytes ∷ []), length-append before (m ∷ []), shorter)
many-frames split ports _ _ _ on (ends before frames m bytes fault was follows is by) = absurd (cc)
many-frames split ports _ _ _ on (over before frames m end was follows is) = absurd (cc)
many-frames split ports _ _ _ on (dropped before frames m end was follows) = absurd (cc)

module _ (split : ℕ) (ports : List ℕ) where
  -- a frame ends it by one of these
  frame-own : (before : List Carried) (frames : List (List ℕ)) (m : Carried) (bytes : List ℕ) (fault : Fault)
      → length frames ≡ length before → MayFollow before m → IsFrame m bytes
      → EndsAt (WantsRoom split ports) ports frames bytes fault → IsOwn (Some fault)
  frame-own before frames (carried.Frame number found content) bytes fault many follows is by =
      by_fault fault by
    where
      below : length frames ≢ most_records
      below limit = (let most = follows.limit in let numbered = follows.numbered in omega (arith, most, numbered, many, limit))

      shown : (fault : Fault) → ending_at ports frames bytes ≡ Some fault → IsOwn (Some fault)
      shown fault is = inr (ap Some (flow-own (flows_of (steered_in ports frames)) (steered_next ports frames bytes) fault
          (sym (ending-flow ports frames bytes below) ∙ is)))

      by_fault : (fault : Fault) → EndsAt (WantsRoom split ports) ports frames bytes fault → IsOwn (Some fault)
      by_fault Memory by = inl refl
      by_fault Usage by = shown Usage by
      by_fault NotPcap by = shown NotPcap by
      by_fault Version by = shown Version by
      by_fault LinkType by = shown LinkType by
      by_fault Cut by = shown Cut by
      by_fault LongRecord by = shown LongRecord by
      by_fault Read by = shown Read by
      by_fault Write by = shown Write by
      by_fault TooManyFlows by = shown TooManyFlows by
      by_fault TooManyFrames by = shown TooManyFrames by
      by_fault BadBlock by = shown BadBlock by
      by_fault BadRun by = shown BadRun by
  frame-own before frames (carried.Over end) bytes fault many follows is by = absurd is

  either-false : (a b : Bool) → (a || b) ≡ false → (a ≡ false) × (b ≡ false)
  either-false true b none = absurd (true≢false none)
  either-false false b none = (refl, none)

  -- no message of these says it, nor the last
  last-end : (before : List Carried) (m : Carried) → has_end (before ++ m ∷ []) ≡ false → (has_end before ≡ false) × (is_end m ≡ false)
  last-end [] m none = (refl, (either-false (is_end m) false none).0)
  last-end (x ∷ before) m none =
      let one = either-false (is_end x) (has_end (before ++ m ∷ [])) none in
      let rest = last-end before m one.1 in
      (rw one.0 rest.0, rest.1)

  -- where no message said that the reading ended, the card ended it
  own-end : (messages : List Carried) (frames : List (List ℕ)) (at : Stage) (end : Option Fault) → at ≡ stage.Over end → has_end messages ≡ false
      → Brought split ports messages frames at → IsOwn end
  own-end _ _ _ end is none nothing = absurd (cc)
  own-end _ _ _ end is none (frame before frames m bytes was follows fits more) = absurd (cc)
  own-end _ _ _ end is none (ends before frames m bytes fault was follows fits by) =
      let same : Some fault ≡ end = cc in
      subst IsOwn same (frame-own before frames m bytes fault (many-frames split ports before frames stage.Unopened refl was) follows fits by)
  own-end _ _ _ end is none (over before frames m how was follows fits) =
      absurd (not-end m how fits (last-end before m none).1)
    where
      not-end : (m : Carried) (how : Option Fault) → arrived_of m ≡ arrived.Over how → is_end m ≡ false → ⊥
      not-end (carried.Frame number found content) how fits none = cc
      not-end (carried.Over how_here) how fits none = true≢false none
  own-end _ _ _ end is none (dropped before frames m how was follows) = own-end before frames (stage.Over how) end is (last-end before m none).0 was

  -- ---- the frames were read

  module _ {S : Type 0} (left : S → Option (List ℕ)) (faults : S → ℕ) (first : S) where
    -- the frames were read and the reading goes on, or it ended there
    abbrev pub Joins : List Carried → List (List ℕ) → Stage → S → Stage → Type 0
    Joins messages frames stage.Unopened to to_stage =
        ComesTo (WantsRoom split ports) left faults first to ports to_stage frames
    Joins messages frames (stage.Open capture) to to_stage = ⊥
    Joins messages frames (stage.Over end) to to_stage =
        (at : S) × HasReadOn (source_seen left faults) at to end
        × HasEnded (WantsRoom split ports) (left first) (left at) (faults first) (faults at) ports frames end

    -- what came behind an ending of the card's
    read-on : (at mid to : S) (end : Option Fault) → IsOwn end → HasReadOn (source_seen left faults) at mid end → TookBytes (left mid) (left to)
        → faults mid ≤ faults to → HasReadOn (source_seen left faults) at to end
    read-on at mid to end own on further later = record {
      same = λ memory flows. absurd (⊎_elim memory flows own);
      taken = took-then (left at) (left mid) (left to) on.taken further;
      later = (let before = on.later in omega (arith, before, later));
    }

    pub joined : (messages : List Carried) (frames : List (List ℕ)) (at : Stage) → Brought split ports messages frames at → (to : S) (to_stage : Stage)
        → IsMade left faults 0 first stage.Unopened messages to to_stage → Joins messages frames at to to_stage
    joined _ _ _ nothing to to_stage made = rw (sym made.1) (refl, sym made.0)
    joined _ _ _ (frame before frames m bytes was follows is more) to to_stage made =
        let (mid, mid_stage, behind, makes) = made-last left faults first to stage.Unopened to_stage before m made in
        let comes = joined before frames stage.Unopened was mid mid_stage behind in
        let brings = makes.brings split first ports frames (many-frames split ports before frames stage.Unopened refl was) comes in
        goes m is brings
      where
        goes : (m : Carried) → IsFrame m bytes → Arrives (WantsRoom split ports) left faults first to ports to_stage frames (arrived_of m)
            → ComesTo (WantsRoom split ports) left faults first to ports to_stage (frames ++ bytes ∷ [])
        goes (carried.Frame number found content) is arrives = subst (λ b. ComesTo (WantsRoom split ports) left faults first to ports to_stage (frames ++ b ∷ [])) is
            (arrives.goes (rw is more))
        goes (carried.Over end) is arrives = absurd is
    joined _ _ _ (ends before frames m bytes fault was follows is by) to to_stage made =
        let (mid, mid_stage, behind, makes) = made-last left faults first to stage.Unopened to_stage before m made in
        let comes = joined before frames stage.Unopened was mid mid_stage behind in
        let brings = makes.brings split first ports frames (many-frames split ports before frames stage.Unopened refl was) comes in
        (to, HasReadOn-refl (source_seen left faults) to (Some fault), ended m is brings)
      where
        ended : (m : Carried) → IsFrame m bytes → Arrives (WantsRoom split ports) left faults first to ports to_stage frames (arrived_of m)
            → HasEnded (WantsRoom split ports) (left first) (left to) (faults first) (faults to) ports frames (Some fault)
        ended (carried.Frame number found content) is arrives = arrives.ends fault (rw is by)
        ended (carried.Over end) is arrives = absurd is
    joined _ _ _ (over before frames m end was follows is) to to_stage made =
        let (mid, mid_stage, behind, makes) = made-last left faults first to stage.Unopened to_stage before m made in
        let comes = joined before frames stage.Unopened was mid mid_stage behind in
        let brings = makes.brings split first ports frames (many-frames split ports before frames stage.Unopened refl was) comes in
        (to, HasReadOn-refl (source_seen left faults) to end, rw is at brings)
    joined _ _ _ (dropped before frames m end was follows) to to_stage made =
        let (mid, mid_stage, behind, makes) = made-last left faults first to stage.Unopened to_stage before m made in
        let (at, on, ended) = joined before frames (stage.Over end) was mid mid_stage behind in
        (at, read-on at mid to end (own-end before frames (stage.Over end) end refl follows.goes was) on makes.further makes.later, ended)

-- ---- the whole reading

-- All that the card stands by was read of the source, up to where the reading ended, which it stood at then.
pub record HasReadAll {S : Type 0} (left : S → Option (List ℕ)) (faults : S → ℕ) (source source_now : S) (ports : List ℕ) (split : ℕ)
    (feed : FeedState) (v : NicView) : Type 0 where
  pub at : S
  pub ahead : HasReadOn (source_seen left faults) at source_now (fault_of_stage feed.stage)
  pub frames : List (List ℕ)
  pub stands : FeedStands left faults source at ports split frames feed v
  pub turns : CardTurns ports split frames feed v
  pub dealt : All (λ d. d.app < length ports) v.dealt

-- what is held when all is over is dropped too
held-brought : (split : ℕ) (ports : List ℕ) (messages : List Carried) (frames : List (List ℕ)) (at : Stage) (held : Option Carried) → is_over at ≡ true
    → Brought split ports messages frames at → ((m : Carried) → held ≡ Some m → MayFollow messages m)
    → Brought split ports (messages ++ option_to_list held) frames at
held-brought split ports messages frames at None ended was follows =
    subst (λ all. Brought split ports all frames at) (sym (append-nil messages)) was
held-brought split ports messages frames at (Some m) ended was follows = drop-brought split ports messages frames m at ended was (follows m refl)

pub all-read : {S : Type 0} (left : S → Option (List ℕ)) (faults : S → ℕ) (source source_now : S) (end_stage : Stage) (ports : List ℕ) (split : ℕ)
    (messages made : List Carried) (held : Option Carried) (feed : FeedState) (v : NicView)
    → IsMade left faults 0 source stage.Unopened made source_now end_stage → made ≡ messages ++ option_to_list held
    → ((m : Carried) → held ≡ Some m → MayFollow messages m) → is_over feed.stage ≡ true → CardStands ports split messages feed v
    → HasReadAll left faults source source_now ports split feed v
all-read {S} left faults source source_now end_stage ports split messages made held feed v is_made made_is follows ended stands =
    by_stage feed.stage refl (joined split ports left faults source made stands.frames feed.stage
    (subst (λ all. Brought split ports all stands.frames feed.stage) (sym made_is)
    (held-brought split ports messages stands.frames feed.stage held ended stands.brought follows)) source_now end_stage is_made)
  where
    by_stage : (at : Stage) → feed.stage ≡ at → Joins split ports left faults source made stands.frames at source_now end_stage
        → HasReadAll left faults source source_now ports split feed v
    by_stage stage.Unopened is joins = absurd (true≢false (sym ended ∙ ap is_over is))
    by_stage (stage.Open capture) is joins = absurd joins
    by_stage (stage.Over end) is (at, ahead, has_ended) = record {
      at = at;
      ahead = rw is ahead;
      frames = stands.frames;
      stands = record { knows = stands.knows; comes = rw is has_ended };
      turns = stands.turns;
      dealt = stands.dealt;
    }
