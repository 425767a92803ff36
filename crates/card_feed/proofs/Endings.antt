-- How the reading stands after one more record, and how it ends.
use Rattle.std.proofs.Common.{◌≡◌, ◌≢◌, ℕ, List, [], ◌∷◌, ◌++◌, length, Option, None, Some, refl, sym, ap, subst, ◌∙◌}
use Rattle.std.{proofs.{Common.{⊎_elim, inl, inr, append_assoc, append-nil, arith}, lemmas.Bool.{cond_both}}, specs.{Prelude.{IfSome, ◌==◌}, Io.KnownBytes.{IsAtEnd}}}
use Rattle.zr_kinds.specs.{Limits.{most_flows, most_records}, declared.fault.Fault.{Fault}}
use Rattle.zr_kinds.specs.declared.fault.Fault.TheVariants.{Memory, Usage, NotPcap, Version, LinkType, Cut, LongRecord, Read, Write, TooManyFlows}
use Rattle.zr_kinds.specs.declared.fault.Fault.TheVariants.{TooManyFrames, BadBlock, BadRun}
use Rattle.zr_io.{specs.Moved.{Rose, Took}, proofs.Moved.{Took-then, Took-weaker, Rose-earlier}}
use Rattle.pcap_reader.specs.{Records.{Captured, Records, no_record, with_record}, Capture.{ShowsFault, BrokeOff, TakenShows, IsOutOfForm, OfFronts}}
use Rattle.pcap_reader.proofs.Joined.{fronts-then, fronts-weaker, Took-both}
use Rattle.pcapng_reader.{specs.{Records.{Going, records_from, records_of}, Capture.{IsOpeningFault, IsRecordFault, WantsMemory}}, proofs.Goings.{wanting-cut}}
use Rattle.flow_table.specs.{Steered.{SteeredTcp}, Flows.{Flow, flows_of, number_of_flow}}
use Rattle.card_feed.specs.Ending.{Ending, ended_after, steered_in, steered_next, flow_ending, ending_at, frames_of, ended_of}
use Rattle.card_feed.specs.FramesRead.{HoldsRecords, GoesThrough, HasRead, HasEnded, ShowsEnding, TakenEnds, LacksMemory, EndsAt, IsEnding, IsReadToEnd}
use Rattle.card_feed.specs.FramesRead.{RunsOut, RunsOutBefore, IsShownEnding}
use Rattle.card_feed.proofs.FramesRead.{Holds-more, frames-append, ended_after-none, GoesThrough-nothing, GoesThrough-more, ended_of-end, ended_of-fault, ended_of-frame}

-- ---- all bytes of a source that tells them

all-rest : (left0 left : Option (List ℕ)) (P R Q : List ℕ → Type 0) → Took left0 left P → IfSome left R
    → ((xs rest : List ℕ) → P xs → R rest → Q (xs ++ rest)) → IfSome left0 Q
all-rest None left P R Q took shows join = tt
all-rest (Some xs) None P R Q took shows join = absurd took
all-rest (Some xs) (Some ys) P R Q (bs, e, p) shows join = subst Q (sym e) (join bs ys p shows)

-- bytes of which the last were taken now, where the source is at its end
all-taken : (left later : Option (List ℕ)) (P : List ℕ → Type 0) → Took left later P → IfSome left (λ _. IsAtEnd later) → IfSome left P
all-taken None later P took at_end = tt
all-taken (Some xs) None P took at_end = absurd took
all-taken (Some xs) (Some ys) P (bs, e, p) at_end = subst P (sym (append-nil bs) ∙ ap (λ l. bs ++ l) (sym at_end) ∙ sym e) p

read_to_end : (left0 left later : Option (List ℕ)) (P : List ℕ → Type 0) → Took left0 left P → IfSome left (λ _. IsAtEnd later)
    → IsReadToEnd left0 later
read_to_end None left later P took at_end = tt
read_to_end (Some all) None later P took at_end = absurd took
read_to_end (Some all) (Some xs) later P took at_end = at_end

anything : (left : Option (List ℕ)) → IfSome left (λ rest. Unit {0})
anything None = tt
anything (Some rest) = tt

pub some-weaker : (left : Option (List ℕ)) (P Q : List ℕ → Type 0) → IfSome left P → ((all : List ℕ) → P all → Q all) → IfSome left Q
some-weaker None P Q holds leads = tt
some-weaker (Some all) P Q holds leads = leads all holds

-- ---- by what a frame ends the reading

-- too many flows, or too many frames
abbrev pub IsFrameEnding : Fault → Type 0
IsFrameEnding TooManyFlows = Unit {0}
IsFrameEnding TooManyFrames = Unit {0}
IsFrameEnding fault = ⊥

abbrev IsNoneOr : Option Fault → Type 0
IsNoneOr None = Unit {0}
IsNoneOr (Some fault) = IsFrameEnding fault

flow-kind : (flows : List Flow) (s : Option SteeredTcp) → IsNoneOr (flow_ending flows s)
flow-kind flows None = tt
flow-kind flows (Some s) = cond_both (number_of_flow flows s == most_flows) _ _ IsNoneOr (λ _. tt) (λ _. tt)

ending-kind : (ports : List ℕ) (frames : List (List ℕ)) (frame : List ℕ) → IsNoneOr (ending_at ports frames frame)
unfolding ending_at
ending-kind ports frames frame = cond_both (length frames == most_records) _ _ IsNoneOr (λ _. tt)
    (λ _. flow-kind (flows_of (steered_in ports frames)) (steered_next ports frames frame))

frame-kind : (ports : List ℕ) (frames : List (List ℕ)) (frame : List ℕ) (fault : Fault) → ending_at ports frames frame ≡ Some fault
    → IsFrameEnding fault
frame-kind ports frames frame fault is = subst IsNoneOr is (ending-kind ports frames frame)

-- what holds of a reading that ended by such a fault
frame_cases : (P : Option Fault → Type 0) → P (Some TooManyFlows) → P (Some TooManyFrames) → (fault : Fault) → IsFrameEnding fault → P (Some fault)
frame_cases P flows frames TooManyFlows is = flows
frame_cases P flows frames TooManyFrames is = frames
frame_cases P flows frames Memory is = absurd is
frame_cases P flows frames Usage is = absurd is
frame_cases P flows frames NotPcap is = absurd is
frame_cases P flows frames Version is = absurd is
frame_cases P flows frames LinkType is = absurd is
frame_cases P flows frames Cut is = absurd is
frame_cases P flows frames LongRecord is = absurd is
frame_cases P flows frames Read is = absurd is
frame_cases P flows frames Write is = absurd is
frame_cases P flows frames BadBlock is = absurd is
frame_cases P flows frames BadRun is = absurd is

-- ---- which faults a record shows

record_cases : (P : Fault → Type 0) → P Memory → P Version → P LinkType → P Cut → P LongRecord → P Read → P BadBlock
    → (fault : Fault) → IsRecordFault fault → P fault
record_cases P memory version link_type cut long_record read bad_block Memory is = memory
record_cases P memory version link_type cut long_record read bad_block Version is = version
record_cases P memory version link_type cut long_record read bad_block LinkType is = link_type
record_cases P memory version link_type cut long_record read bad_block Cut is = cut
record_cases P memory version link_type cut long_record read bad_block LongRecord is = long_record
record_cases P memory version link_type cut long_record read bad_block Read is = read
record_cases P memory version link_type cut long_record read bad_block BadBlock is = bad_block
record_cases P memory version link_type cut long_record read bad_block Usage is = absurd is
record_cases P memory version link_type cut long_record read bad_block NotPcap is = absurd is
record_cases P memory version link_type cut long_record read bad_block Write is = absurd is
record_cases P memory version link_type cut long_record read bad_block TooManyFlows is = absurd is
record_cases P memory version link_type cut long_record read bad_block TooManyFrames is = absurd is
record_cases P memory version link_type cut long_record read bad_block BadRun is = absurd is

kind-fault : (fault : Fault) → IsRecordFault fault → IsEnding (Some fault)
kind-fault = record_cases (λ fault. IsEnding (Some fault)) tt tt tt tt tt tt tt

-- the ending that nothing of the next record leads to
abbrev Leads : Ending → List (List ℕ) → Records → Type 0
Leads ended before records = (end : Option Fault) → records ≡ no_record end → ended ≡ record { before = before; fault = end }

shown-fault : (ended : Ending) (before : List (List ℕ)) (records : Records) → Leads ended before records → (fault : Fault) → IsRecordFault fault
    → ShowsFault records fault → ShowsEnding ended before (Some fault)
shown-fault ended before records leads = record_cases (λ fault. ShowsFault records fault → ShowsEnding ended before (Some fault))
    (λ shows. tt) (λ shows. leads (Some Version) shows) (λ shows. leads (Some LinkType) shows) (λ shows. leads (Some Cut) shows)
    (λ shows. leads (Some LongRecord) shows) (λ shows. tt) (λ shows. leads (Some BadBlock) shows)

-- ---- shorter fronts of what was taken

runs-none : (ended : Ending) (before : List (List ℕ)) → ended ≡ record { before = before; fault = None } → RunsOut ended
runs-none ended before is = inl (ap (λ (e : Ending). e.fault) is)

runs-cut : (ended : Ending) (before : List (List ℕ)) → ended ≡ record { before = before; fault = Some Cut } → RunsOut ended
runs-cut ended before is = inr (ap (λ (e : Ending). e.fault) is)

runs-out : (ended : Ending) (before : List (List ℕ)) (records : Records) → Leads ended before records → BrokeOff records → RunsOut ended
runs-out ended before records leads broke =
    ⊎_elim (λ none. runs-none ended before (leads None none)) (λ cut. runs-cut ended before (leads (Some Cut) cut)) broke

shown-record : (fault : Fault) → IsRecordFault fault → IsShownEnding (Some fault) → IsOutOfForm fault
shown-record = record_cases (λ fault. IsShownEnding (Some fault) → IsOutOfForm fault) (λ is. is) (λ is. is) (λ is. is) (λ is. is) (λ is. is) (λ is. is)
    (λ is. is)

-- behind the records that were read, what was taken now
least-then : (going : Going) (left0 left later : Option (List ℕ)) (faults0 faults : ℕ) (ports : List ℕ) (records : List Captured)
    → HasRead going left0 left faults0 faults ports records → Took left later (OfFronts (λ front. BrokeOff (records_from going front)))
    → Took left0 later (RunsOutBefore ports)
least-then going left0 left later faults0 faults ports records read alone =
    Took-then left0 left later (λ xs. HoldsRecords going records xs × RunsOutBefore ports xs) (OfFronts (λ front. BrokeOff (records_from going front)))
    (RunsOutBefore ports)
    (λ xs ys before fronts. fronts-then (λ front. RunsOut (ended_of ports front)) xs ys before.1
    (fronts-weaker _ _ ys (λ front broke. runs-out (ended_of ports (xs ++ front)) (frames_of records) (records_from going front)
    (λ end shown. ended_of-fault ports going records read.through xs front end before.0 shown) broke) fronts))
    (Took-both left0 left (HoldsRecords going records) (RunsOutBefore ports) read.taken read.least) alone

-- ---- the turns

module _ {going : Going} {left0 left : Option (List ℕ)} {faults0 faults : ℕ} {ports : List ℕ} {records : List Captured}
    (read : HasRead going left0 left faults0 faults ports records) where
  pub goes_on : (going_now : Going) (later : Option (List ℕ)) (now : ℕ) (frame : List ℕ) (original : ℕ)
      → Took left later (λ taken. (rest : List ℕ) → records_from going (taken ++ rest) ≡ with_record frame original (records_from going_now rest))
      → Took left later (OfFronts (λ front. BrokeOff (records_from going front)))
      → now ≡ faults → ending_at ports (frames_of records) frame ≡ None
      → HasRead going_now left0 later faults0 now ports (records ++ record { frame = frame; original = original } ∷ [])
  goes_on going_now later now frame original took alone same goes =
      let found : Captured = record { frame = frame; original = original } in
      let frames : frames_of (records ++ found ∷ []) ≡ frames_of records ++ frame ∷ [] = frames-append records (found ∷ []) in
      record {
        taken = Took-then left0 left later (HoldsRecords going records) _ (HoldsRecords going_now (records ++ found ∷ []))
            (λ xs ys holds shows. Holds-more going going_now records frame original xs ys holds shows) read.taken took;
        least = least-then going left0 left later faults0 faults ports records read alone;
        still = same ∙ read.still;
        through = subst (λ all. GoesThrough ports all) (sym frames) (GoesThrough-more ports (frames_of records) frame read.through goes);
      }

module _ (Wants : List (List ℕ) → List ℕ → Type 0) {going : Going} {left0 left : Option (List ℕ)} {faults0 faults : ℕ} {ports : List ℕ}
    {records : List Captured}
    (read : HasRead going left0 left faults0 faults ports records) where
  leads-behind : (xs ys : List ℕ) → HoldsRecords going records xs → Leads (ended_of ports (xs ++ ys)) (frames_of records) (records_from going ys)
  leads-behind xs ys holds end shown = ended_of-fault ports going records read.through xs ys end holds shown

  -- the bytes ended
  pub ends-without : (later : Option (List ℕ)) (now : ℕ) → now ≡ faults → IfSome left (λ _. IsAtEnd later)
      → Took left later (λ taken. records_from going taken ≡ no_record None)
      → HasEnded Wants left0 later faults0 now ports (frames_of records) None
  ends-without later now same at_end took =
      let ends : (xs ys : List ℕ) → HoldsRecords going records xs → records_from going ys ≡ no_record None
      → ended_of ports (xs ++ ys) ≡ record { before = frames_of records; fault = None } =
      λ xs ys holds none. leads-behind xs ys holds None none in
      record {
        taken = Took-then left0 left later (HoldsRecords going records) (λ ys. records_from going ys ≡ no_record None) _ ends read.taken took;
        shown = all-rest left0 left (HoldsRecords going records) (λ rest. records_from going rest ≡ no_record None) _ read.taken
            (all-taken left later _ took at_end) ends;
        least = λ is. absurd is;
        at_end = λ _. read_to_end left0 left later (HoldsRecords going records) read.taken at_end;
        kind = tt;
        cause = λ is. absurd (cc);
        still = λ _. same ∙ read.still;
      }

  -- what was taken shows the fault
  taken-shown : (later : Option (List ℕ)) (fault : Fault) → Took left later (λ taken. records_from going taken ≡ no_record (Some fault))
      → Took left0 later (λ taken. ended_of ports taken ≡ record { before = frames_of records; fault = Some fault })
  taken-shown later fault took = Took-then left0 left later (HoldsRecords going records) (λ ys. records_from going ys ≡ no_record (Some fault)) _
      (λ xs ys holds shown. leads-behind xs ys holds (Some fault) shown) read.taken took

  taken-by : (later : Option (List ℕ)) (fault : Fault) → IsRecordFault fault → Took left later (λ taken. TakenShows (records_from going taken) fault)
      → (fault ≡ Memory → Took left later (WantsMemory going))
      → Took left0 later (λ taken. TakenEnds Wants ports taken (frames_of records) (Some fault))
  taken-by later = record_cases (λ fault. Took left later (λ taken. TakenShows (records_from going taken) fault)
      → (fault ≡ Memory → Took left later (WantsMemory going))
      → Took left0 later (λ taken. TakenEnds Wants ports taken (frames_of records) (Some fault)))
      (λ took wants. Took-then left0 left later (HoldsRecords going records) (WantsMemory going)
      (λ taken. TakenEnds Wants ports taken (frames_of records) (Some Memory))
      (λ xs ys holds wanted. inl (
        leads-behind xs ys holds (Some Cut) (wanting-cut going ys wanted),
        record { going = going; records = records; passed = xs; head = ys; parts = refl; holds = holds; frames = refl; wants = wanted },
      )) read.taken (wants refl))
      (λ took wants. taken-shown later Version took)
      (λ took wants. taken-shown later LinkType took)
      (λ took wants. taken-shown later Cut took)
      (λ took wants. taken-shown later LongRecord took)
      (λ took wants. Took-then left0 left later (HoldsRecords going records) (λ ys. TakenShows (records_from going ys) Read)
      (λ taken. TakenEnds Wants ports taken (frames_of records) (Some Read))
      (λ xs ys holds shown. ⊎_elim (λ none. inl (leads-behind xs ys holds None none))
      (λ cut. inr (leads-behind xs ys holds (Some Cut) cut)) shown) read.taken took)
      (λ took wants. taken-shown later BadBlock took)

  -- a fault of the capture, a failed read, or want of memory for a record
  pub ends-by : (later : Option (List ℕ)) (now : ℕ) (fault : Fault) → IsRecordFault fault
      → IfSome left (λ all. ShowsFault (records_from going all) fault) → Took left later (λ taken. TakenShows (records_from going taken) fault)
      → (IsOutOfForm fault → Took left later (OfFronts (λ front. BrokeOff (records_from going front))))
      → (fault ≡ Memory → Took left later (WantsMemory going)) → (fault ≡ Read → Rose faults now) → (fault ≢ Read → now ≡ faults)
      → HasEnded Wants left0 later faults0 now ports (frames_of records) (Some fault)
  ends-by later now fault is shows took alone wants cause same = record {
    taken = taken-by later fault is took wants;
    shown = all-rest left0 left (HoldsRecords going records) (λ rest. ShowsFault (records_from going rest) fault) _ read.taken shows
        (λ xs rest holds shown. shown-fault (ended_of ports (xs ++ rest)) (frames_of records) (records_from going rest)
        (leads-behind xs rest holds) fault is shown);
    least = λ shown. least-then going left0 left later faults0 faults ports records read (alone (shown-record fault is shown));
    at_end = λ none. absurd (cc);
    kind = kind-fault fault is;
    cause = λ by. Rose-earlier faults0 faults now (let unchanged : faults ≡ faults0 = read.still in omega arith) (cause (cc));
    still = λ other. same (λ by. other (ap Some by)) ∙ read.still;
  }

  -- a frame that ends it
  pub ends-at : (going_now : Going) (later : Option (List ℕ)) (now : ℕ) → now ≡ faults → (frame : List ℕ) (original : ℕ) (fault : Fault)
      → Took left later (λ taken. (rest : List ℕ) → records_from going (taken ++ rest) ≡ with_record frame original (records_from going_now rest))
      → Took left later (OfFronts (λ front. BrokeOff (records_from going front)))
      → ending_at ports (frames_of records) frame ≡ Some fault → HasEnded Wants left0 later faults0 now ports (frames_of records) (Some fault)
  ends-at going_now later now same frame original fault took alone is =
      let Ends : List ℕ → Type 0 = λ taken. (rest : List ℕ)
      → ended_of ports (taken ++ rest) ≡ record { before = frames_of records; fault = Some fault } in
      let both : Took left0 later Ends =
      Took-then left0 left later (HoldsRecords going records) (λ taken. (rest : List ℕ)
      → records_from going (taken ++ rest) ≡ with_record frame original (records_from going_now rest)) Ends
      (λ xs ys holds shows. λ rest. ap (ended_of ports) (append_assoc xs ys rest)
      ∙ ended_of-frame ports going records read.through going_now xs ys rest frame original fault holds shows is)
      read.taken took in
      let by : IsFrameEnding fault = frame-kind ports (frames_of records) frame fault is in
      record {
        taken = Took-weaker left0 later Ends (λ taken. TakenEnds Wants ports taken (frames_of records) (Some fault))
            (λ taken ends. frame_cases (λ end. ended_of ports taken ≡ record { before = frames_of records; fault = end }
            → TakenEnds Wants ports taken (frames_of records) end)
            (λ e. e) (λ e. e) fault by (ap (ended_of ports) (sym (append-nil taken)) ∙ ends [])) both;
        shown = all-rest left0 later Ends (λ rest. Unit {0}) (λ all. ShowsEnding (ended_of ports all) (frames_of records) (Some fault)) both (anything later)
            (λ taken rest ends _. frame_cases (λ end. ended_of ports (taken ++ rest) ≡ record { before = frames_of records; fault = end }
            → ShowsEnding (ended_of ports (taken ++ rest)) (frames_of records) end)
            (λ e. e) (λ e. e) fault by (ends rest));
        least = λ _. least-then going left0 left later faults0 faults ports records read alone;
        at_end = λ none. absurd (cc);
        kind = frame_cases IsEnding tt tt fault by;
        cause = λ failed. absurd (frame_cases (λ end. end ≡ Some Read → ⊥) (λ e. cc) (λ e. cc) fault by failed);
        still = λ _. same ∙ read.still;
      }

  -- no memory for what the frame wants
  pub ends-wanting : (going_now : Going) (later : Option (List ℕ)) (now : ℕ) (frame : List ℕ) (original : ℕ)
      → Took left later (λ taken. (rest : List ℕ) → records_from going (taken ++ rest) ≡ with_record frame original (records_from going_now rest))
      → Took left later (OfFronts (λ front. BrokeOff (records_from going front)))
      → now ≡ faults → ending_at ports (frames_of records) frame ≡ None → Wants (frames_of records) frame
      → HasEnded Wants left0 later faults0 now ports (frames_of records) (Some Memory)
  ends-wanting going_now later now frame original took alone same goes begins =
      let found : Captured = record { frame = frame; original = original } in
      let more : HasRead going_now left0 later faults0 now ports (records ++ found ∷ []) =
      goes_on read going_now later now frame original took alone same goes in
      record {
        taken = Took-weaker left0 later (HoldsRecords going_now (records ++ found ∷ [])) (λ taken. LacksMemory Wants ports taken (frames_of records))
            (λ taken holds. inr (
              frame,
              begins,
              ended_of-end ports going_now (records ++ found ∷ []) more.through taken holds
                  ∙ ap (λ frames. record { before = frames; fault = None }) (frames-append records (found ∷ [])),
            )) more.taken;
        shown = all-rest left0 later (HoldsRecords going_now (records ++ found ∷ [])) (λ rest. Unit {0}) _ more.taken (anything later) (λ taken rest _ _. tt);
        least = λ is. absurd is;
        at_end = λ none. absurd (cc);
        kind = tt;
        cause = λ failed. absurd (cc);
        still = λ _. same ∙ read.still;
      }

-- ---- before the first record

opening_cases : (P : Fault → Type 0) → P NotPcap → P Version → P LinkType → P Cut → P Read → P BadBlock → (fault : Fault) → IsOpeningFault fault
    → P fault
opening_cases P not_pcap version link_type cut read bad_block NotPcap is = not_pcap
opening_cases P not_pcap version link_type cut read bad_block Version is = version
opening_cases P not_pcap version link_type cut read bad_block LinkType is = link_type
opening_cases P not_pcap version link_type cut read bad_block Cut is = cut
opening_cases P not_pcap version link_type cut read bad_block Read is = read
opening_cases P not_pcap version link_type cut read bad_block BadBlock is = bad_block
opening_cases P not_pcap version link_type cut read bad_block Memory is = absurd is
opening_cases P not_pcap version link_type cut read bad_block Usage is = absurd is
opening_cases P not_pcap version link_type cut read bad_block LongRecord is = absurd is
opening_cases P not_pcap version link_type cut read bad_block Write is = absurd is
opening_cases P not_pcap version link_type cut read bad_block TooManyFlows is = absurd is
opening_cases P not_pcap version link_type cut read bad_block TooManyFrames is = absurd is
opening_cases P not_pcap version link_type cut read bad_block BadRun is = absurd is

opening-ends : (ports : List ℕ) (bytes : List ℕ) → Leads (ended_of ports bytes) [] (records_of bytes)
unfolding ended_of
opening-ends ports bytes = λ end shows. ap (λ read. ended_after ports [] (frames_of read.all) read.fault) shows ∙ ended_after-none ports [] end

shown-opening : (ports : List ℕ) (all : List ℕ) (fault : Fault) → IsOpeningFault fault → ShowsFault (records_of all) fault
    → ShowsEnding (ended_of ports all) [] (Some fault)
shown-opening ports all =
    let leads : Leads (ended_of ports all) [] (records_of all) = opening-ends ports all in
    opening_cases (λ fault. ShowsFault (records_of all) fault → ShowsEnding (ended_of ports all) [] (Some fault))
    (λ shows. leads (Some NotPcap) shows) (λ shows. leads (Some Version) shows) (λ shows. leads (Some LinkType) shows) (λ shows. leads (Some Cut) shows)
    (λ shows. tt) (λ shows. leads (Some BadBlock) shows)

taken-opening : (Wants : List (List ℕ) → List ℕ → Type 0) (ports : List ℕ) (taken : List ℕ) (fault : Fault) → IsOpeningFault fault
    → TakenShows (records_of taken) fault
    → TakenEnds Wants ports taken [] (Some fault)
taken-opening Wants ports taken =
    let leads : Leads (ended_of ports taken) [] (records_of taken) = opening-ends ports taken in
    opening_cases (λ fault. TakenShows (records_of taken) fault → TakenEnds Wants ports taken [] (Some fault))
    (λ shows. leads (Some NotPcap) shows) (λ shows. leads (Some Version) shows) (λ shows. leads (Some LinkType) shows) (λ shows. leads (Some Cut) shows)
    (λ shows. ⊎_elim (λ none. inl (leads None none)) (λ cut. inr (leads (Some Cut) cut)) shows)
    (λ shows. leads (Some BadBlock) shows)

-- no byte was taken behind the file header, or the first section header
opening-least : (left0 left : Option (List ℕ)) (ports : List ℕ) → Took left0 left (OfFronts (λ front. BrokeOff (records_of front)))
    → Took left0 left (RunsOutBefore ports)
opening-least left0 left ports alone = Took-weaker left0 left (OfFronts (λ front. BrokeOff (records_of front))) (RunsOutBefore ports)
    (λ taken fronts. fronts-weaker _ _ taken
    (λ front broke. runs-out (ended_of ports front) [] (records_of front) (opening-ends ports front) broke) fronts) alone

-- the file header, or the first section header, was refused
pub ends-opening : (Wants : List (List ℕ) → List ℕ → Type 0) (left0 left : Option (List ℕ)) (faults0 faults : ℕ) (ports : List ℕ)
    (fault : Fault) → IsOpeningFault fault
    → IfSome left0 (λ all. ShowsFault (records_of all) fault) → Took left0 left (λ taken. TakenShows (records_of taken) fault)
    → (IsOutOfForm fault → Took left0 left (OfFronts (λ front. BrokeOff (records_of front))))
    → (fault ≡ Read → Rose faults0 faults) → (fault ≢ Read → faults ≡ faults0) → HasEnded Wants left0 left faults0 faults ports [] (Some fault)
ends-opening Wants left0 left faults0 faults ports fault is shows took alone cause same = record {
  taken = Took-weaker left0 left (λ taken. TakenShows (records_of taken) fault) (λ taken. TakenEnds Wants ports taken [] (Some fault))
      (λ taken shown. taken-opening Wants ports taken fault is shown) took;
  shown = some-weaker left0 (λ all. ShowsFault (records_of all) fault) (λ all. ShowsEnding (ended_of ports all) [] (Some fault)) shows
      (λ all shown. shown-opening ports all fault is shown);
  least = λ shown. opening-least left0 left ports (alone (opening_cases (λ fault. IsShownEnding (Some fault) → IsOutOfForm fault)
      (λ is. is) (λ is. is) (λ is. is) (λ is. is) (λ is. is) (λ is. is) fault is shown));
  at_end = λ none. absurd (cc);
  kind = opening_cases (λ fault. IsEnding (Some fault)) tt tt tt tt tt tt fault is;
  cause = λ by. cause (cc);
  still = λ other. same (λ by. other (ap Some by));
}

-- it was read
pub reads-nothing : (going : Going) (left0 left : Option (List ℕ)) (faults0 faults : ℕ) (ports : List ℕ)
    → Took left0 left (λ taken. (rest : List ℕ) → records_of (taken ++ rest) ≡ records_from going rest)
    → Took left0 left (OfFronts (λ front. BrokeOff (records_of front)))
    → faults ≡ faults0 → HasRead going left0 left faults0 faults ports []
reads-nothing going left0 left faults0 faults ports took alone same = record {
  taken = took;
  least = opening-least left0 left ports alone;
  still = same;
  through = GoesThrough-nothing ports;
}

-- ---- a frame that ends the reading

module _ (Wants : List (List ℕ) → List ℕ → Type 0) {going : Going} {left0 left : Option (List ℕ)} {faults0 faults : ℕ} {ports : List ℕ}
    {records : List Captured}
    (read : HasRead going left0 left faults0 faults ports records) where
  pub ends-frame : (going_now : Going) (later : Option (List ℕ)) (now : ℕ) (frame : List ℕ) (original : ℕ)
      → Took left later (λ taken. (rest : List ℕ) → records_from going (taken ++ rest) ≡ with_record frame original (records_from going_now rest))
      → Took left later (OfFronts (λ front. BrokeOff (records_from going front)))
      → now ≡ faults
      → (fault : Fault) → EndsAt Wants ports (frames_of records) frame fault
      → HasEnded Wants left0 later faults0 now ports (frames_of records) (Some fault)
  ends-frame going_now later now frame original took alone same fault refused = by_fault fault refused
    where
      at : (fault : Fault) → ending_at ports (frames_of records) frame ≡ Some fault
          → HasEnded Wants left0 later faults0 now ports (frames_of records) (Some fault)
      at fault is = ends-at Wants read going_now later now same frame original fault took alone is

      by_fault : (fault : Fault) → EndsAt Wants ports (frames_of records) frame fault
          → HasEnded Wants left0 later faults0 now ports (frames_of records) (Some fault)
      by_fault Memory (goes, wants) = ends-wanting Wants read going_now later now frame original took alone same goes wants
      by_fault Usage is = at Usage is
      by_fault NotPcap is = at NotPcap is
      by_fault Version is = at Version is
      by_fault LinkType is = at LinkType is
      by_fault Cut is = at Cut is
      by_fault LongRecord is = at LongRecord is
      by_fault Read is = at Read is
      by_fault Write is = at Write is
      by_fault TooManyFlows is = at TooManyFlows is
      by_fault TooManyFrames is = at TooManyFrames is
      by_fault BadBlock is = at BadBlock is
      by_fault BadRun is = at BadRun is
