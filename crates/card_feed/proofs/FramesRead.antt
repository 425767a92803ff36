-- How the reading of a capture goes on from record to record, and how it ends.
use Rattle.std.proofs.Common.{◌≡◌, ℕ, List, [], ◌∷◌, ◌++◌, Option, None, Some, refl, sym, ap, ◌∙◌, append_assoc, append-nil}
use Rattle.zr_kinds.specs.declared.fault.Fault.{Fault}
use Rattle.pcap_reader.specs.Records.{Captured, Records, no_record, with_record}
use Rattle.pcapng_reader.{specs.Records.{Going, records_from, records_of}, proofs.Goings.{records_from-none}}
use Rattle.card_feed.specs.{Ending.{ending_at, ended_or, frames_of, ended_after, ended_of}, FramesRead.{with_records, HoldsRecords, GoesThrough}}

captured : List ℕ → ℕ → Captured
captured frame original = record { frame = frame; original = original }

-- ---- records

with_records-append : (records : List Captured) (frame : List ℕ) (original : ℕ) (others : Records)
    → with_records records (with_record frame original others) ≡ with_records (records ++ record { frame = frame; original = original } ∷ []) others
with_records-append records frame original others =
    ap (λ all. record { all = all; fault = others.fault }) (sym (append_assoc records (record { frame = frame; original = original } ∷ []) others.all))

pub Holds-more : (going later : Going) (records : List Captured) (frame : List ℕ) (original : ℕ) (xs ys : List ℕ) → HoldsRecords going records xs
    → ((rest : List ℕ) → records_from going (ys ++ rest) ≡ with_record frame original (records_from later rest))
    → HoldsRecords later (records ++ record { frame = frame; original = original } ∷ []) (xs ++ ys)
Holds-more going later records frame original xs ys holds found = λ rest.
    ap records_of (append_assoc xs ys rest) ∙ holds (ys ++ rest) ∙ ap (with_records records) (found rest)
    ∙ with_records-append records frame original (records_from later rest)

pub frames-append : (xs ys : List Captured) → frames_of (xs ++ ys) ≡ frames_of xs ++ frames_of ys
frames-append [] ys = refl
frames-append (x ∷ xs) ys = ap (λ frames. x.frame ∷ frames) (frames-append xs ys)

-- ---- the walk over frames

pub ended_after-none : (ports : List ℕ) (before : List (List ℕ)) (fault : Option Fault)
    → ended_after ports before [] fault ≡ record { before = before; fault = fault }
unfolding ended_after
ended_after-none ports before fault = refl

ended_after-next : (ports : List ℕ) (before : List (List ℕ)) (frame : List ℕ) (more : List (List ℕ)) (fault : Option Fault)
    → ended_after ports before (frame ∷ more) fault ≡ ended_or (ending_at ports before frame) before
    (ended_after ports (before ++ frame ∷ []) more fault)
unfolding ended_after
ended_after-next ports before frame more fault = refl

pub GoesThrough-nothing : (ports : List ℕ) → GoesThrough ports []
GoesThrough-nothing ports = λ more fault. refl

pub GoesThrough-more : (ports : List ℕ) (frames : List (List ℕ)) (frame : List ℕ) → GoesThrough ports frames → ending_at ports frames frame ≡ None
    → GoesThrough ports (frames ++ frame ∷ [])
GoesThrough-more ports frames frame through goes = λ more fault.
    ap (λ all. ended_after ports [] all fault) (append_assoc frames (frame ∷ []) more)
    ∙ through (frame ∷ more) fault
    ∙ ended_after-next ports frames frame more fault
    ∙ ap (λ ending. ended_or ending frames (ended_after ports (frames ++ frame ∷ []) more fault)) goes

ended_after-at : (ports : List ℕ) (before : List (List ℕ)) (frame : List ℕ) (more : List (List ℕ)) (fault : Option Fault) (ends : Fault)
    → ending_at ports before frame ≡ Some ends → ended_after ports before (frame ∷ more) fault ≡ record { before = before; fault = Some ends }
ended_after-at ports before frame more fault ends is =
    ended_after-next ports before frame more fault ∙ ap (λ ending. ended_or ending before (ended_after ports (before ++ frame ∷ []) more fault)) is

-- ---- the bytes that were taken, and those that follow

-- the reading of all bytes goes on behind the records that were read
pub ended_of-rest : (ports : List ℕ) (going : Going) (records : List Captured) (taken rest : List ℕ) → HoldsRecords going records taken
    → GoesThrough ports (frames_of records)
    → ended_of ports (taken ++ rest) ≡ ended_after ports (frames_of records) (frames_of (records_from going rest).all) (records_from going rest).fault
unfolding ended_of
ended_of-rest ports going records taken rest holds through =
    ap (λ read. ended_after ports [] (frames_of read.all) read.fault) (holds rest)
    ∙ ap (λ frames. ended_after ports [] frames (records_from going rest).fault) (frames-append records (records_from going rest).all)
    ∙ through (frames_of (records_from going rest).all) (records_from going rest).fault

module _ (ports : List ℕ) (going : Going) (records : List Captured) (through : GoesThrough ports (frames_of records)) where
  -- no byte follows
  pub ended_of-end : (taken : List ℕ) → HoldsRecords going records taken → ended_of ports taken ≡ record { before = frames_of records; fault = None }
  ended_of-end taken holds =
      ap (ended_of ports) (sym (append-nil taken))
      ∙ ended_of-rest ports going records taken [] holds through
      ∙ ap (λ read. ended_after ports (frames_of records) (frames_of read.all) read.fault) (records_from-none going)
      ∙ ended_after-none ports (frames_of records) None

  -- what follows shows a fault
  pub ended_of-fault : (taken rest : List ℕ) (fault : Option Fault) → HoldsRecords going records taken → records_from going rest ≡ no_record fault
      → ended_of ports (taken ++ rest) ≡ record { before = frames_of records; fault = fault }
  ended_of-fault taken rest fault holds shows =
      ended_of-rest ports going records taken rest holds through
      ∙ ap (λ read. ended_after ports (frames_of records) (frames_of read.all) read.fault) shows
      ∙ ended_after-none ports (frames_of records) fault

  -- a frame follows that ends the reading
  pub ended_of-frame : (later : Going) (taken found rest : List ℕ) (frame : List ℕ) (original : ℕ) (ends : Fault) → HoldsRecords going records taken
      → ((more : List ℕ) → records_from going (found ++ more) ≡ with_record frame original (records_from later more))
      → ending_at ports (frames_of records) frame ≡ Some ends
      → ended_of ports (taken ++ (found ++ rest)) ≡ record { before = frames_of records; fault = Some ends }
  ended_of-frame later taken found rest frame original ends holds shows is =
      ended_of-rest ports going records taken (found ++ rest) holds through
      ∙ ap (λ read. ended_after ports (frames_of records) (frames_of read.all) read.fault) (shows rest)
      ∙ ended_after-at ports (frames_of records) frame (frames_of (records_from later rest).all) (records_from later rest).fault ends is
