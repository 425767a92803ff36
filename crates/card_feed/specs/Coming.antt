-- How far the reading of a source has come.
use Rattle.std.specs.Prelude.{◌≡◌, ℕ, ◌≤◌, List, [], ◌∷◌, ◌++◌, length, Option, Some, None, Bool, true, false, Result, Ok, Err}
use Rattle.zr_kinds.specs.{Limits.{longest_record}, declared.fault.Fault.{Fault}}
use Rattle.zr_io.specs.Moved.{Took}
use Rattle.pcap_reader.specs.{Records.{Captured}, declared.capture.Record.{Record}}
use Rattle.card_feed.specs.{Ending.{ending_at, frames_of}, FramesRead.{HasRead, HasEnded, EndsAt}, declared.{intake.Stage.{Stage}, arrived.Arrived.{Arrived}}}
use Rattle.card_feed.specs.declared.intake.Stage.TheVariants as stage
use Rattle.card_feed.specs.declared.arrived.Arrived.TheVariants as arrived

-- Nothing was read yet; or these frames were, and the reading goes on; or it ended after them.
abbrev pub ComesTo : {S : Type 0} → (List (List ℕ) → List ℕ → Type 0) → (S → Option (List ℕ)) → (S → ℕ) → S → S → List ℕ
    → Stage → List (List ℕ) → Type 0
ComesTo Wants left faults first now ports stage.Unopened frames = (frames ≡ []) × (now ≡ first)
ComesTo Wants left faults first now ports (stage.Open capture) frames =
    (capture.fault ≡ None) × ((records : List Captured) × (frames ≡ frames_of records)
    × HasRead capture.going (left first) (left now) (faults first) (faults now) ports records)
ComesTo Wants left faults first now ports (stage.Over end) frames = HasEnded Wants (left first) (left now) (faults first) (faults now) ports frames end

-- the reading is over
abbrev pub is_over : Stage → Bool
is_over stage.Unopened = false
is_over (stage.Open capture) = false
is_over (stage.Over end) = true

-- One more frame was read. If it doesn't end the reading, that goes on; if it does, that has ended before it.
pub record IsBehind {S : Type 0} (Wants : List (List ℕ) → List ℕ → Type 0) (left : S → Option (List ℕ)) (faults : S → ℕ) (first now : S)
    (ports : List ℕ)
    (now_stage : Stage) (frames : List (List ℕ)) (frame : List ℕ) : Type 0 where
  pub goes : ending_at ports frames frame ≡ None → ComesTo Wants left faults first now ports now_stage (frames ++ frame ∷ [])
  pub ends : (fault : Fault) → EndsAt Wants ports frames frame fault
      → HasEnded Wants (left first) (left now) (faults first) (faults now) ports frames (Some fault)
  pub on : is_over now_stage ≡ false

-- A frame was read, or the reading ended.
abbrev pub NextGives : {S : Type 0} → (List (List ℕ) → List ℕ → Type 0) → (S → Option (List ℕ)) → (S → ℕ) → S → S → List ℕ
    → Stage → List (List ℕ)
    → List ℕ → Result (Option Record) Fault → Type 0
NextGives Wants left faults first now ports now_stage frames frame (Ok (Some found)) =
    IsBehind Wants left faults first now ports now_stage frames frame
NextGives Wants left faults first now ports now_stage frames frame (Ok None) =
    HasEnded Wants (left first) (left now) (faults first) (faults now) ports frames None
NextGives Wants left faults first now ports now_stage frames frame (Err fault) =
    HasEnded Wants (left first) (left now) (faults first) (faults now) ports frames (Some fault)

abbrev pub is_open : Stage → Bool
is_open stage.Unopened = false
is_open (stage.Open capture) = true
is_open (stage.Over end) = false

-- the file header, or the first section header, was read, or it ends the reading
abbrev pub OpenGives : {S : Type 0} → (List (List ℕ) → List ℕ → Type 0) → (S → Option (List ℕ)) → (S → ℕ) → S → S → List ℕ
    → Stage → List (List ℕ)
    → Result (Unit {0}) Fault → Type 0
OpenGives Wants left faults first now ports now_stage frames (Ok done) = ComesTo Wants left faults first now ports now_stage frames
OpenGives Wants left faults first now ports now_stage frames (Err fault) =
    HasEnded Wants (left first) (left now) (faults first) (faults now) ports frames (Some fault)

-- What the reading brings behind these frames: one frame more, or how it ended.
abbrev pub Arrives : {S : Type 0} → (List (List ℕ) → List ℕ → Type 0) → (S → Option (List ℕ)) → (S → ℕ) → S → S → List ℕ
    → Stage → List (List ℕ) → Arrived → Type 0
Arrives Wants left faults first now ports now_stage frames (arrived.Frame found bytes) =
    IsBehind Wants left faults first now ports now_stage frames bytes.items
Arrives Wants left faults first now ports now_stage frames arrived.Nothing = ⊥
Arrives Wants left faults first now ports now_stage frames (arrived.Over end) =
    HasEnded Wants (left first) (left now) (faults first) (faults now) ports frames end

-- A frame has as many bytes as its record says, and no more than a record may have.
abbrev pub HasItsBytes : Arrived → Type 0
HasItsBytes (arrived.Frame found bytes) = (length bytes.items ≡ found.captured) × (found.captured ≤ longest_record)
HasItsBytes arrived.Nothing = Unit {0}
HasItsBytes (arrived.Over end) = Unit {0}

-- Some bytes were taken from the front of what was left, or none.
abbrev pub TookBytes : Option (List ℕ) → Option (List ℕ) → Type 0
TookBytes old new = Took old new (λ taken. Unit {0})
