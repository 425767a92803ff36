-- The two forms of a capture, told by its first four bytes.
use Rattle.std.{proofs.Common.{◌≡◌, ℕ, ◌<◌, Bool, true, false, List, ◌++◌, length, Option, Some, None, IfSome, Result, Ok, Err, refl, sym}, specs.Result.{MatchResult}}
use Rattle.std.{proofs.Common.{append_assoc, ap, ◌∙◌, subst, arith, if◌then◌else◌}, specs.Io.KnownBytes.{Keeps, IsAtEnd, Consumes}}
use Rattle.std.proofs.lemmas.Bool.{cond-true, cond-false}
use Rattle.pcap_reader.specs.{Steps.{StepBreaksOff}, declared.{order.ByteOrder.{ByteOrder}, capture.Record.{Record}}, Records.{with_record}}
use Rattle.pcap_reader.{specs.Capture.{HeaderShows, TakenHeaderShows, IsOutOfForm, OfFronts}, proofs.{HeaderLaws.{header_fault-cut}, RecordLaws.{records_in-none}}}
use Rattle.pcap_reader.proofs.Joined.{always, all_weaker, all_then, fronts-then, fronts-short, fronts-weaker}
use Rattle.zr_kinds.specs.declared.fault.Fault.{Fault, TheVariants.{Memory, NotPcap, Version, LinkType, Cut, LongRecord, Read, BadBlock}}
use Rattle.zr_io.{specs.Moved.{Took}, proofs.Moved.{Took-nothing, Took-consumed, Took-then, Took-weaker}}
use Rattle.pcap_reader.specs.Records as classic_form
use Rattle.pcap_reader.specs.Capture as classic_capture
use Rattle.pcapng_reader.specs.{Blocks.{Section, is_section_header, block_fault, blocks_in, no_section}, Records.{classic, records_of, opening_fault}}
use Rattle.pcapng_reader.specs.{Capture.{IsOpeningFault, IsRecordFault, Opens, Gives}, Steps.{BlockShows, TakenBlockShows, BlockStops, fault_from, IsHeaderFault}}
use Rattle.pcapng_reader.proofs.BlockLaws.{section_header-append, fault-start}

either_way : (b : Bool) (x y z : Option Fault) → x ≡ z → y ≡ z → (if b then x else y) ≡ z
either_way true x y z e f = e
either_way false x y z e f = f

-- fewer bytes than tell the form
pub opening-short : (bytes : List ℕ) → length bytes < 4 → opening_fault bytes ≡ Some Cut
opening-short bytes short =
    either_way (is_section_header bytes) (block_fault no_section bytes) (classic_form.header_fault bytes) (Some Cut) (fault-start no_section bytes (omega arith))
    (header_fault-cut bytes short)

module _ (first : List ℕ) (four : length first ≡ 4) where
  is_first : (b : Bool) → is_section_header first ≡ b → (rest : List ℕ) → is_section_header (first ++ rest) ≡ b
  is_first b is rest = section_header-append first rest (omega arith) ∙ is

  opening-blocks : is_section_header first ≡ true → (rest : List ℕ) → opening_fault (first ++ rest) ≡ fault_from no_section first rest
  opening-blocks is rest = cond-true (is_section_header (first ++ rest)) _ _ (is_first true is rest)

  opening-classic : is_section_header first ≡ false → (rest : List ℕ) → opening_fault (first ++ rest) ≡ classic_form.header_fault (first ++ rest)
  opening-classic is rest = cond-false (is_section_header (first ++ rest)) _ _ (is_first false is rest)

  records-blocks : is_section_header first ≡ true → (rest : List ℕ) → records_of (first ++ rest) ≡ blocks_in no_section (first ++ rest)
  unfolding records_of
  records-blocks is rest = cond-true (is_section_header (first ++ rest)) _ _ (is_first true is rest)

  records-classic : is_section_header first ≡ false → (rest : List ℕ) → records_of (first ++ rest) ≡ classic_form.classic_records_of (first ++ rest)
  unfolding records_of
  records-classic is rest = cond-false (is_section_header (first ++ rest)) _ _ (is_first false is rest)

-- ---- opening

header_opens : (fault : Fault) → IsHeaderFault fault → IsOpeningFault fault
header_opens Version is = tt
header_opens Cut is = tt
header_opens Read is = tt
header_opens BadBlock is = tt
header_opens _ is = absurd is

classic_opens : (fault : Fault) → classic_capture.IsClassicOpeningFault fault → IsOpeningFault fault
classic_opens NotPcap is = tt
classic_opens Version is = tt
classic_opens LinkType is = tt
classic_opens Cut is = tt
classic_opens Read is = tt
classic_opens _ is = absurd is

shows_header : (found : Option Fault) (fault : Fault) → IsHeaderFault fault → BlockShows found fault → HeaderShows found fault
shows_header found Version is shows = shows
shows_header found Cut is shows = shows
shows_header found Read is shows = shows
shows_header found BadBlock is shows = shows
shows_header found _ is shows = absurd is

shows_taken : (found : Option Fault) (fault : Fault) → IsHeaderFault fault → TakenBlockShows found fault → TakenHeaderShows found fault
shows_taken found Version is shows = shows
shows_taken found Cut is shows = shows
shows_taken found Read is shows = shows
shows_taken found BadBlock is shows = shows
shows_taken found _ is shows = absurd is

module _ (a b c : Option (List ℕ)) (first : List ℕ) (four : length first ≡ 4) (consumed : Consumes a b first) where
  took_first : Took a b (λ xs. xs ≡ first)
  took_first = Took-consumed a b first _ consumed refl

  -- no byte was taken behind the header
  opens-alone : (later : List ℕ → Option Fault) → ((ys : List ℕ) → opening_fault (first ++ ys) ≡ later ys)
      → Took b c (OfFronts (λ ys. later ys ≡ Some Cut)) → Took a c (OfFronts (λ taken. opening_fault taken ≡ Some Cut))
  opens-alone later same fronts = Took-then a b c (λ xs. xs ≡ first) (OfFronts (λ ys. later ys ≡ Some Cut)) (OfFronts (λ taken. opening_fault taken ≡ Some Cut))
      (λ xs ys e cut. subst (λ (l : List ℕ). OfFronts (λ taken. opening_fault taken ≡ Some Cut) (l ++ ys)) (sym e)
      (fronts-then _ first ys (fronts-short _ first (λ part short. opening-short part (omega arith)))
      (fronts-weaker _ _ ys (λ part is. same part ∙ is) cut))) took_first fronts

  pub alone-blocks : is_section_header first ≡ true → Took b c (OfFronts (λ ys. fault_from no_section first ys ≡ Some Cut))
      → Took a c (OfFronts (λ taken. opening_fault taken ≡ Some Cut))
  alone-blocks is fronts = opens-alone (fault_from no_section first) (opening-blocks first four is) fronts

  pub alone-classic : is_section_header first ≡ false → Took b c (OfFronts (λ ys. classic_form.header_fault (first ++ ys) ≡ Some Cut))
      → Took a c (OfFronts (λ taken. opening_fault taken ≡ Some Cut))
  alone-classic is fronts = opens-alone (λ ys. classic_form.header_fault (first ++ ys)) (opening-classic first four is) fronts

  -- a fault behind the first bytes
  opens_fault : (later : List ℕ → Option Fault) (fault : Fault) → IsOpeningFault fault → ((ys : List ℕ) → opening_fault (first ++ ys) ≡ later ys)
      → IfSome b (λ ys. HeaderShows (later ys) fault)
      → Took b c (λ ys. TakenHeaderShows (later ys) fault)
      → (IsOutOfForm fault → Took b c (OfFronts (λ ys. later ys ≡ Some Cut)))
      → Opens a c (Err fault)
  opens_fault later fault is same shows taken fronts = (
    is,
    all_then a b (λ xs. xs ≡ first) (λ ys. HeaderShows (later ys) fault) _
        (λ xs ys e p. subst (λ (found : Option Fault). HeaderShows found fault) (sym (ap (λ (l : List ℕ). opening_fault (l ++ ys)) e ∙ same ys)) p) took_first shows,
    Took-then a b c (λ xs. xs ≡ first) (λ ys. TakenHeaderShows (later ys) fault) _
        (λ xs ys e p. subst (λ (found : Option Fault). TakenHeaderShows found fault) (sym (ap (λ (l : List ℕ). opening_fault (l ++ ys)) e ∙ same ys)) p)
        took_first taken,
    λ bad. opens-alone later same (fronts bad),
  )

  pub opens-blocks-fault : is_section_header first ≡ true → (fault : Fault) → BlockStops IsHeaderFault (fault_from no_section first) b c fault
      → Opens a c (Err fault)
  opens-blocks-fault is fault stops = opens_fault (fault_from no_section first) fault (header_opens fault stops.0) (opening-blocks first four is)
      (all_same b fault stops.0 stops.1) (taken_same fault stops.0 stops.2) stops.3
    where
      all_same : (o : Option (List ℕ)) (f : Fault) → IsHeaderFault f → IfSome o (λ ys. BlockShows (fault_from no_section first ys) f)
          → IfSome o (λ ys. HeaderShows (fault_from no_section first ys) f)
      all_same o f h shows = all_weaker o _ _ (λ ys p. shows_header (fault_from no_section first ys) f h p) shows

      taken_same : (f : Fault) → IsHeaderFault f → Took b c (λ ys. TakenBlockShows (fault_from no_section first ys) f)
          → Took b c (λ ys. TakenHeaderShows (fault_from no_section first ys) f)
      taken_same f h shows = Took-weaker b c _ _ (λ ys p. shows_taken (fault_from no_section first ys) f h p) shows

  pub opens-classic-fault : is_section_header first ≡ false → (fault : Fault) → classic_capture.OpensBehind first b c (Err fault) → Opens a c (Err fault)
  opens-classic-fault is fault stops =
      opens_fault (λ ys. classic_form.header_fault (first ++ ys)) fault (classic_opens fault stops.0) (opening-classic first four is) stops.1 stops.2 stops.3

  pub took-blocks : (now : Section) → is_section_header first ≡ true
      → Took b c (λ ys. (rest : List ℕ) → blocks_in no_section ((first ++ ys) ++ rest) ≡ blocks_in now rest)
      → Took a c (λ taken. (rest : List ℕ) → records_of (taken ++ rest) ≡ blocks_in now rest)
  took-blocks now is took =
      Took-then a b c (λ xs. xs ≡ first) _ _
      (λ xs ys e passes rest. ap (λ (l : List ℕ). records_of ((l ++ ys) ++ rest)) e ∙ ap records_of (append_assoc first ys rest)
      ∙ records-blocks first four is (ys ++ rest) ∙ ap (blocks_in no_section) (sym (append_assoc first ys rest)) ∙ passes rest)
      took_first took

  pub took-classic : (order : ByteOrder) → is_section_header first ≡ false
      → Took b c (λ ys. (rest : List ℕ) → classic_form.classic_records_of ((first ++ ys) ++ rest) ≡ classic_form.records_in order rest)
      → Took a c (λ taken. (rest : List ℕ) → records_of (taken ++ rest) ≡ classic_form.records_in order rest)
  took-classic order is took =
      Took-then a b c (λ xs. xs ≡ first) _ _
      (λ xs ys e opens rest. ap (λ (l : List ℕ). records_of ((l ++ ys) ++ rest)) e ∙ ap records_of (append_assoc first ys rest)
      ∙ records-classic first four is (ys ++ rest) ∙ ap classic_form.classic_records_of (sym (append_assoc first ys rest)) ∙ opens rest)
      took_first took

-- the first four bytes couldn't be read
pub opening-broken : (a b : Option (List ℕ)) (room : ℕ) (fault : Fault) → room ≡ 4 → StepBreaksOff a b (λ xs. length xs < room) fault → Opens a b (Err fault)
opening-broken a b room Read four broke = (tt, always a, Took-weaker a b _ _ (λ xs short. opening-short xs (omega arith)) broke, λ is. absurd is)
opening-broken a b room Cut four broke = (
  tt,
  all_weaker a _ _ (λ xs short. opening-short xs (omega arith)) broke.0,
  Took-weaker a b _ _ (λ xs short. opening-short xs (omega arith)) broke.1,
  λ is. absurd is,
)
opening-broken a b room _ four broke = absurd broke

-- ---- the next record of the classic form

classic_comes : (fault : Fault) → classic_capture.IsClassicRecordFault fault → IsRecordFault fault
classic_comes Memory is = tt
classic_comes Cut is = tt
classic_comes LongRecord is = tt
classic_comes Read is = tt
classic_comes _ is = absurd is

at_end : (old new : Option (List ℕ)) → IsAtEnd old → Keeps old new → IfSome old (λ all. IsAtEnd new)
at_end None new end kept = tt
at_end (Some xs) None end kept = absurd kept
at_end (Some xs) (Some ys) end kept = kept ∙ end

pub classic-gives : (order later : ByteOrder) (old new : Option (List ℕ)) (frame : List ℕ) (result : Result (Option Record) Fault) → later ≡ order
    → classic_capture.GivesClassic order old new frame result
    → Gives (classic order) (classic later) old new frame result
classic-gives order later old new frame (Ok (Some found)) same gives = (
  gives.0,
  subst (λ (o : ByteOrder). Took old new (λ taken. (rest : List ℕ)
      → classic_form.records_in order (taken ++ rest) ≡ with_record frame found.original (classic_form.records_in o rest))) (sym same) gives.1,
  gives.2,
)
classic-gives order later old new frame (Ok None) same gives =
    (at_end old new gives.0 gives.1, Took-nothing old new _ gives.1 (records_in-none order))
classic-gives order later old new frame (Err fault) same gives = (classic_comes fault gives.0, gives.1, gives.2, gives.3)

pub order-kept : (result : Result (Option Record) Fault) (old new : classic_capture.ClassicReading)
    → MatchResult result (λ _. new ≡ old) (λ fault. new ≡ record old { fault = Some fault })
    → new.order ≡ old.order
order-kept (Ok found) old new kept = ap (λ (r : classic_capture.ClassicReading). r.order) kept
order-kept (Err fault) old new kept = ap (λ (r : classic_capture.ClassicReading). r.order) kept
