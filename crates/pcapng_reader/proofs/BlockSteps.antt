-- How the steps of reading a block go together.
use Rattle.std.proofs.Common.{◌≡◌, ◌≢◌, ℕ, ◌+◌, ◌<◌, List, [], ◌++◌, length, drop, Option, Some, None, Ok, Err, sym}
use Rattle.std.proofs.Common.{ap, ◌∙◌, subst, arith, append-nil, append_assoc, length-append}
use Rattle.zr_kinds.specs.declared.fault.Fault.{Fault, TheVariants.{Memory, Version, LinkType, Cut, LongRecord, Read, BadBlock}}
use Rattle.zr_io.{specs.Moved.{Took}, proofs.Moved.{Took-nothing, Took-then, Took-weaker}}
use Rattle.pcap_reader.specs.{declared.order.ByteOrder.{ByteOrder}, Records.{number}, Steps.{StepBreaksOff}, Capture.{OfFronts}}
use Rattle.pcap_reader.proofs.Joined.{always, all_weaker, all_then, Keeps-same, no-fronts, fronts-short, fronts-weaker, Took-fronts}
use Rattle.pcapng_reader.specs.{Blocks.{Section, Kind, fixed_len, fixed_fault, block_fault}, Capture.{IsRecordFault}}
use Rattle.pcapng_reader.specs.Steps.{BlockShows, TakenBlockShows, BlockStops, IsBegun, MayCome, TakesEnd, fault_from, IsHeaderFault, IsInterfaceFault}
use Rattle.pcapng_reader.{specs.Steps.{IsPacketFault, IsCutBefore}, proofs.BlockLaws.{head-cut, head-other}}

-- a later part broke off
pub breaks-then : (a b c : Option (List ℕ)) (P Q R : List ℕ → Type 0) (fault : Fault) → ((xs ys : List ℕ) → P xs → Q ys → R (xs ++ ys)) → Took a b P
    → StepBreaksOff b c Q fault → StepBreaksOff a c R fault
breaks-then a b c P Q R Read join took broke = Took-then a b c P Q R join took broke
breaks-then a b c P Q R Cut join took broke = (all_then a b P Q R join took broke.0, Took-then a b c P Q R join took broke.1)
breaks-then a b c P Q R _ join took broke = absurd broke

pub breaks-weaker : (a b : Option (List ℕ)) (P Q : List ℕ → Type 0) (fault : Fault) → ((xs : List ℕ) → P xs → Q xs) → StepBreaksOff a b P fault
    → StepBreaksOff a b Q fault
breaks-weaker a b P Q Read weaken broke = Took-weaker a b P Q weaken broke
breaks-weaker a b P Q Cut weaken broke = (all_weaker a P Q weaken broke.0, Took-weaker a b P Q weaken broke.1)
breaks-weaker a b P Q _ weaken broke = absurd broke

-- ---- a block that stops

module _ (Comes : Fault → Type 0) (fault_in : List ℕ → Option Fault) where
  -- what is wanted broke off
  pub stops-broken : (a b : Option (List ℕ)) (P : List ℕ → Type 0) (fault : Fault) → Comes Read → Comes Cut
      → ((xs : List ℕ) → P xs → fault_in xs ≡ Some Cut) → StepBreaksOff a b P fault → BlockStops Comes fault_in a b fault
  stops-broken a b P Read read cut shows broke = (read, always a, Took-weaker a b P _ shows broke, λ is. absurd is)
  stops-broken a b P Cut read cut shows broke = (cut, all_weaker a P _ shows broke.0, Took-weaker a b P _ shows broke.1, λ is. absurd is)
  stops-broken a b P _ read cut shows broke = absurd broke

  -- what was taken is out of form, whatever follows it
  pub stops-bad : (a b : Option (List ℕ)) (P : List ℕ → Type 0) → Comes BadBlock
      → ((xs rest : List ℕ) → P xs → fault_in (xs ++ rest) ≡ Some BadBlock) → ((xs : List ℕ) → P xs → IsCutBefore fault_in xs)
      → Took a b P → BlockStops Comes fault_in a b BadBlock
  stops-bad a b P bad shows cuts took = (
    bad,
    all_then a b P (λ _. Unit {0}) _ (λ xs rest p _. shows xs rest p) took (always b),
    Took-weaker a b P _ (λ xs p. ap fault_in (sym (append-nil xs)) ∙ shows xs [] p) took,
    λ is. Took-weaker a b P (IsCutBefore fault_in) cuts took,
  )

  -- the bytes before have a fault, whatever follows them
  pub stops-before : (a : Option (List ℕ)) (fault : Fault) → Comes fault → ((rest : List ℕ) → fault_in rest ≡ Some fault)
      → ((found : Option Fault) → found ≡ Some fault → BlockShows found fault)
      → ((found : Option Fault) → found ≡ Some fault → TakenBlockShows found fault) → BlockStops Comes fault_in a a fault
  stops-before a fault comes shows fits taken = (
    comes,
    all_weaker a (λ _. Unit {0}) _ (λ rest _. fits (fault_in rest) (shows rest)) (always a),
    Took-nothing a a _ (Keeps-same a) (taken (fault_in []) (shows [])),
    λ is. Took-nothing a a (IsCutBefore fault_in) (Keeps-same a) (no-fronts _),
  )

  -- no byte was taken behind a later part of the block
  pub cut-then : (later : List ℕ → Option Fault) (a b c : Option (List ℕ)) (P : List ℕ → Type 0)
      → ((xs ys : List ℕ) → P xs → fault_in (xs ++ ys) ≡ later ys) → ((xs : List ℕ) → P xs → IsCutBefore fault_in xs) → Took a b P
      → Took b c (IsCutBefore later) → Took a c (IsCutBefore fault_in)
  cut-then later a b c P same cuts took fronts = Took-fronts (λ front. fault_in front ≡ Some Cut) a b c P cuts took
      (Took-weaker b c (IsCutBefore later) (OfFronts (λ ys. (xs : List ℕ) → P xs → fault_in (xs ++ ys) ≡ Some Cut))
      (λ ys cut. fronts-weaker _ _ ys (λ front is xs p. same xs front p ∙ is) cut) fronts)

  -- a later part of the block stopped
  pub stops-then : (later : List ℕ → Option Fault) (a b c : Option (List ℕ)) (P : List ℕ → Type 0) (fault : Fault)
      → ((xs ys : List ℕ) → P xs → fault_in (xs ++ ys) ≡ later ys) → ((xs : List ℕ) → P xs → IsCutBefore fault_in xs) → Took a b P
      → BlockStops Comes later b c fault → BlockStops Comes fault_in a c fault
  stops-then later a b c P fault same cuts took stops = (
    stops.0,
    all_then a b P (λ ys. BlockShows (later ys) fault) (λ all. BlockShows (fault_in all) fault)
        (λ xs ys p shows. subst (λ (found : Option Fault). BlockShows found fault) (sym (same xs ys p)) shows) took stops.1,
    Took-then a b c P (λ ys. TakenBlockShows (later ys) fault) (λ taken. TakenBlockShows (fault_in taken) fault)
        (λ xs ys p shows. subst (λ (found : Option Fault). TakenBlockShows found fault) (sym (same xs ys p)) shows) took stops.2,
    λ is. cut-then later a b c P same cuts took (stops.3 is),
  )

  pub stops-weaker : (More : Fault → Type 0) (a b : Option (List ℕ)) (fault : Fault) → ((f : Fault) → Comes f → More f)
      → BlockStops Comes fault_in a b fault → BlockStops More fault_in a b fault
  stops-weaker More a b fault weaken stops = (weaken fault stops.0, stops.1, stops.2, stops.3)

-- behind the bytes of a block's head, of which each shorter front is cut
module _ (s : Section) (start front : List ℕ) (cut : IsCutBefore (block_fault s) front) (a b c : Option (List ℕ))
    (took : Took a b (λ xs. start ++ xs ≡ front)) where
  head_same : (xs ys : List ℕ) → start ++ xs ≡ front → fault_from s start (xs ++ ys) ≡ fault_from s front ys
  head_same xs ys e = ap (block_fault s) (sym (append_assoc start xs ys) ∙ ap (λ (l : List ℕ). l ++ ys) e)

  head_cuts : (xs : List ℕ) → start ++ xs ≡ front → IsCutBefore (fault_from s start) xs
  head_cuts xs e part more is some =
      cut (start ++ part) more (sym e ∙ ap (λ (l : List ℕ). start ++ l) is ∙ sym (append_assoc start part more)) some

  pub stops-behind : (Comes : Fault → Type 0) (fault : Fault) → BlockStops Comes (fault_from s front) b c fault
      → BlockStops Comes (fault_from s start) a c fault
  stops-behind Comes fault stops =
      stops-then Comes (fault_from s start) (fault_from s front) a b c (λ xs. start ++ xs ≡ front) fault head_same head_cuts took stops

  pub cut-behind : Took b c (IsCutBefore (fault_from s front)) → Took a c (IsCutBefore (fault_from s start))
  cut-behind fronts = cut-then IsHeaderFault (fault_from s start) (fault_from s front) a b c (λ xs. start ++ xs ≡ front) head_same head_cuts took fronts

pub took-behind : (start front : List ℕ) (a b c : Option (List ℕ)) (P : List ℕ → Type 0) → Took a b (λ xs. start ++ xs ≡ front)
    → Took b c (λ ys. P (front ++ ys)) → Took a c (λ ys. P (start ++ ys))
took-behind start front a b c P first second =
    Took-then a b c (λ xs. start ++ xs ≡ front) (λ ys. P (front ++ ys)) _
    (λ xs ys e p. subst P (ap (λ (l : List ℕ). l ++ ys) (sym e) ∙ append_assoc start xs ys) p) first second

-- the faults of a section header are faults of a record
pub header_comes : (fault : Fault) → IsHeaderFault fault → IsRecordFault fault
header_comes Version is = tt
header_comes Cut is = tt
header_comes Read is = tt
header_comes BadBlock is = tt
header_comes _ is = absurd is

pub interface_comes : (fault : Fault) → IsInterfaceFault fault → IsRecordFault fault
interface_comes Memory is = tt
interface_comes Version is = tt
interface_comes Cut is = tt
interface_comes Read is = tt
interface_comes BadBlock is = tt
interface_comes _ is = absurd is

-- a packet that can't be read, whatever follows its first bytes
pub packet-stops : (fault_in : List ℕ → Option Fault) (a : Option (List ℕ)) (fault : Fault) → IsPacketFault fault
    → ((rest : List ℕ) → fault_in rest ≡ Some fault) → BlockStops IsRecordFault fault_in a a fault
packet-stops fault_in a LinkType is shows = stops-before IsRecordFault fault_in a LinkType tt shows (λ found e. e) (λ found e. e)
packet-stops fault_in a LongRecord is shows = stops-before IsRecordFault fault_in a LongRecord tt shows (λ found e. e) (λ found e. e)
packet-stops fault_in a BadBlock is shows = stops-before IsRecordFault fault_in a BadBlock tt shows (λ found e. e) (λ found e. e)
packet-stops fault_in a _ is shows = absurd is

-- ---- the end of a block

module _ (s : Section) (kind : Kind) (order : ByteOrder) (total : ℕ) (head : List ℕ) (whole : length head ≡ fixed_len kind)
    (h : IsBegun s kind order total head) (may : MayCome s kind total) (good : fixed_fault s kind order head ≡ None) (frame : List ℕ) (count : ℕ)
    (size : fixed_len kind + length frame + count + 4 ≡ total)
  where
    end_cut : (tail : List ℕ) → length tail < count + 4 → block_fault s (head ++ (frame ++ tail)) ≡ Some Cut
    end_cut tail short = head-cut s kind order total head whole h may good (frame ++ tail) (omega (arith, length-append frame tail))

    end_other : (tail rest : List ℕ) → (length tail ≡ count + 4) × (number order 4 (drop count tail) ≢ total)
        → block_fault s (head ++ (frame ++ (tail ++ rest))) ≡ Some BadBlock
    end_other tail rest p = head-other s kind order total head whole h may good frame tail count size p.0 p.1 rest

    -- behind the captured bytes, the rest of the block or its last number is wrong
    pub end-stops : (Comes : Fault → Type 0) (a b : Option (List ℕ)) (fault : Fault) → Comes Read → Comes Cut → Comes BadBlock
        → TakesEnd order total count a b (Err fault)
        → BlockStops Comes (λ ys. block_fault s (head ++ (frame ++ ys))) a b fault
    end-stops Comes a b BadBlock read cut bad ends =
        stops-bad Comes _ a b _ bad end_other (λ tail p. let long = p.0 in fronts-short _ tail (λ part short. end_cut part (omega arith))) ends
    end-stops Comes a b fault read cut bad ends = stops-broken Comes _ a b _ fault read cut end_cut ends

    -- a whole block, and nothing behind it
    pub end-alone : (a b : Option (List ℕ)) → TakesEnd order total count a b (Ok tt)
        → Took a b (IsCutBefore (λ ys. block_fault s (head ++ (frame ++ ys))))
    end-alone a b ends = Took-weaker a b _ (IsCutBefore (λ ys. block_fault s (head ++ (frame ++ ys))))
        (λ tail p. let long = p.0 in fronts-short _ tail (λ part short. end_cut part (omega arith))) ends
