-- What goes through the ring between the reading and the card.
use Rattle.std.specs.Prelude.{◌≡◌, ℕ, List, [], ◌∷◌, ◌++◌, Option}
use Rattle.zr_kinds.specs.declared.fault.Fault.{Fault}
use Rattle.card_feed.specs.{FramesRead.{HasEnded}, Offered.{WantsRoom}, declared.intake.Stage.{Stage}}
use Rattle.card_feed.specs.declared.intake.Stage.TheVariants as stage
use Rattle.run_account.specs.{Ran.{HasReadOn}, Views.{source_seen}}
use Rattle.replay_threads.specs.{declared.carried.Carried.{Carried, TheVariants.{Frame, Over}}, Cards.{Brought}, Made.{IsMade}}

-- the frames of messages, in order
abbrev pub frames_in : List Carried → List (List ℕ)
frames_in [] = []
frames_in (Frame number found bytes ∷ messages) = bytes.items ∷ frames_in messages
frames_in (Over end ∷ messages) = frames_in messages

-- The frames are the first of those that were sent, in order, each once; and they are those of the source up to where this ended the
-- reading. `at` is the source then: the reading may have gone on behind an ending of the card's.
pub record HasCarried {S : Type 0} (left : S → Option (List ℕ)) (faults : S → ℕ) (source source_now : S) (split : ℕ) (ports : List ℕ)
    (messages : List Carried) (frames : List (List ℕ)) (end : Option Fault) : Type 0 where
  pub behind : List (List ℕ)
  pub in_order : frames_in messages ≡ frames ++ behind
  pub at : S
  pub ahead : HasReadOn (source_seen left faults) at source_now end
  pub ended : HasEnded (WantsRoom split ports) (left source) (left at) (faults source) (faults at) ports frames end

-- What the reading made of a source, one message after another, and what these brought to the card until its reading ended.
abbrev pub CarriedLaw : {S : Type 0} → (S → Option (List ℕ)) → (S → ℕ) → Type 0
CarriedLaw {S} left faults =
    (source source_now : S) (stage_now : Stage) (split : ℕ) (ports : List ℕ) (messages : List Carried) (frames : List (List ℕ)) (end : Option Fault)
    → IsMade left faults 0 source stage.Unopened messages source_now stage_now → Brought split ports messages frames (stage.Over end)
    → HasCarried left faults source source_now split ports messages frames end
