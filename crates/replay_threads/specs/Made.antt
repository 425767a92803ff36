-- How the reading of a source made its messages.
use Rattle.std.specs.Prelude.{◌≡◌, ℕ, suc, ◌≤◌, List, [], ◌∷◌, length, Option}
use Rattle.card_feed.specs.{declared.intake.Stage.{Stage}, Coming.{ComesTo, Arrives, TookBytes}, Offered.{WantsRoom}}
use Rattle.replay_threads.specs.{declared.carried.Carried.{Carried}, Carried.{arrived_of}}

-- One step of the reading made this message: it brings what came behind any frames, so many, to which the reading had come.
pub record MakesMessage {S : Type 0} (left : S → Option (List ℕ)) (faults : S → ℕ) (count : ℕ) (from : S) (from_stage : Stage) (message : Carried)
    (to : S) (to_stage : Stage) : Type 0 where
  pub brings : (split : ℕ) (first : S) (ports : List ℕ) (frames : List (List ℕ)) → length frames ≡ count
      → ComesTo (WantsRoom split ports) left faults first from ports from_stage frames
      → Arrives (WantsRoom split ports) left faults first to ports to_stage frames (arrived_of message)
  pub further : TookBytes (left from) (left to)
  pub later : faults from ≤ faults to

-- These messages were made one after another, the first of them behind so many others.
abbrev pub IsMade : {S : Type 0} → (S → Option (List ℕ)) → (S → ℕ) → ℕ → S → Stage → List Carried → S → Stage → Type 0
IsMade left faults count from from_stage [] to to_stage = (from ≡ to) × (from_stage ≡ to_stage)
IsMade {S} left faults count from from_stage (message ∷ messages) to to_stage =
    (mid : S) × (mid_stage : Stage) × MakesMessage left faults count from from_stage message mid mid_stage
    × IsMade left faults (suc count) mid mid_stage messages to to_stage
