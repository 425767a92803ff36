-- What the next record of a source is to the reading.
use Rattle.std.{proofs.Common.{◌≡◌, ℕ, List, [], ◌∷◌, ◌++◌, Option, Some, None, Result, Ok, Err, refl, sym, ap, ◌∙◌}, specs.Prelude.{MatchResult, IsErrOf}}
use Rattle.zr_kinds.specs.declared.fault.Fault.{Fault, TheVariants.{Memory}}
use Rattle.zr_io.specs.Moved.{Took}
use Rattle.pcap_reader.specs.{Capture.{HasReadCause}, Records.{Captured}, declared.capture.Record.{Record}}
use Rattle.pcapng_reader.specs.Capture.{Reading, Gives, WantsMemory}
use Rattle.card_feed.{specs.{Ending.{frames_of}, FramesRead.{HasRead, HasEnded}}, proofs.{FramesRead.{frames-append}, Endings.{ends-without, ends-by, ends-frame, goes_on}}}
use Rattle.card_feed.specs.declared.intake.Stage.TheVariants as stage
use Rattle.card_feed.specs.Coming.{NextGives}

module _ {S : Type 0} (Wants : List (List ℕ) → List ℕ → Type 0) (left : S → Option (List ℕ)) (faults : S → ℕ) (first old now : S)
    (ports : List ℕ)
    (capture : Reading) (is_on : capture.fault ≡ None) (records : List Captured)
    (read : HasRead capture.going (left first) (left old) (faults first) (faults old) ports records) where
  -- there is a record, or the bytes end
  pub next-gives : (later : Reading) → later.fault ≡ capture.fault → (found : Option Record) (frame : List ℕ) → Gives capture.going later.going (left old) (left now) frame
      (Ok found)
      → HasReadCause (faults old) (faults now) (Ok found)
      → NextGives Wants left faults first now ports (stage.Open later) (frames_of records) frame (Ok found)
  next-gives later kept None frame gives cause = ends-without Wants read (left now) (faults now) (cause.still (λ failed. cc)) gives.0 gives.1
  next-gives later kept (Some found) frame gives cause =
      let still : faults now ≡ faults old = cause.still (λ failed. cc) in
      record {
        goes = λ goes. (
          kept ∙ is_on,
          (
            records ++ record { frame = frame; original = found.original } ∷ [],
            sym (frames-append records (record { frame = frame; original = found.original } ∷ [])),
            goes_on read later.going (left now) (faults now) frame found.original gives.1 gives.2 still goes,
          ),
        );
        ends = λ fault ends. ends-frame Wants read later.going (left now) (faults now) frame found.original gives.1 gives.2 still fault ends;
        on = refl;
      }

  -- the record has a fault, or a read failed, or there was no memory for its bytes
  pub next-ends : (later : Reading) (fault : Fault) (frame : List ℕ) → Gives capture.going later.going (left old) (left now) frame (Err fault)
      → HasReadCause {T = Option Record} (faults old) (faults now) (Err fault)
      → (fault ≡ Memory → Took (left old) (left now) (WantsMemory capture.going))
      → HasEnded Wants (left first) (left now) (faults first) (faults now) ports (frames_of records) (Some fault)
  next-ends later fault frame gives cause wants = ends-by Wants read (left now) (faults now) fault gives.0 gives.1 gives.2 gives.3 wants
      (λ by. cause.read (ap Err by)) (λ other. cause.still (λ failed. other (cc)))

  pub next-all : (later : Reading) (result : Result (Option Record) Fault) (frame : List ℕ)
      → MatchResult result (λ _. later.fault ≡ capture.fault) (λ fault. later.fault ≡ Some fault)
      → Gives capture.going later.going (left old) (left now) frame result
      → HasReadCause (faults old) (faults now) result
      → (IsErrOf result Memory → Took (left old) (left now) (WantsMemory capture.going))
      → NextGives Wants left faults first now ports (stage.Open later) (frames_of records) frame result
  next-all later (Ok found) frame kept gives cause wants = next-gives later kept found frame gives cause
  next-all later (Err fault) frame kept gives cause wants = next-ends later fault frame gives cause (λ by. wants (ap Err by))
