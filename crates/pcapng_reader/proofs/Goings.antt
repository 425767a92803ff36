-- How a reading of either form begins, goes on and breaks off.
use Rattle.std.proofs.Common.{◌≡◌, ℕ, ◌<◌, Bool, true, false, if◌then◌else◌, List, [], ◌∷◌, length, Option, Some, None, Err, refl, sym, ap, ◌∙◌, arith, append-nil, inr}
use Rattle.zr_kinds.specs.declared.fault.Fault.{Fault, TheVariants.{NotPcap, Version, LinkType, Cut, Read, BadBlock}}
use Rattle.zr_io.proofs.Moved.{Took-weaker}
use Rattle.pcap_reader.specs.Records as classic_form
use Rattle.pcap_reader.specs.{Records.{no_record}, Capture.{ShowsFault, BrokeOff, TakenShows, HeaderShows, TakenHeaderShows, OfFronts}, Steps.{Stops}}
use Rattle.pcap_reader.proofs.{RecordLaws.{records_in-none, records_in-bodiless}, Joined.{all_weaker, fronts-weaker}}
use Rattle.pcap_reader.proofs.HeaderLaws as classic_header
use Rattle.pcapng_reader.specs.declared.kind.Kind.TheVariants.{SectionHeader, InterfaceDescription, EnhancedPacket, SimplePacket, Other}
use Rattle.pcapng_reader.specs.Blocks.{Kind, is_section_header, block_kind_of, fixed_len, block_fault, blocks_in, no_section}
use Rattle.pcapng_reader.specs.{Records.{Going, classic, blocks, records_from, records_of, opening_fault}, Capture.{IsOpeningFault, WantsMemory, Opens}}
use Rattle.pcapng_reader.proofs.BlockLaws.{blocks_in-none, blocks_in-fault}

-- where the bytes end
pub records_from-none : (going : Going) → records_from going [] ≡ no_record None
records_from-none (classic order) = records_in-none order
records_from-none (blocks section) = blocks_in-none section

-- ---- memory

some_fixed : (kind : Kind) → 0 < fixed_len kind
some_fixed SectionHeader = omega arith
some_fixed InterfaceDescription = omega arith
some_fixed EnhancedPacket = omega arith
some_fixed SimplePacket = omega arith
some_fixed Other = omega arith

-- what memory is asked for breaks off
pub wanting-cut : (going : Going) (taken : List ℕ) → WantsMemory going taken → records_from going taken ≡ no_record (Some Cut)
wanting-cut (classic order) header (whole, some, short) =
    ap (classic_form.records_in order) (sym (append-nil header)) ∙ records_in-bodiless order header [] whole short some
wanting-cut (blocks section) taken wants =
    let whole = wants.here.whole in
    let some = some_fixed (block_kind_of wants.now.order wants.head) in
    ap (blocks_in section) wants.parts ∙ wants.over wants.head ∙ blocks_in-fault wants.now wants.head Cut (omega (arith, whole, some)) wants.here.cut

-- ---- the file header, or the first section header

some_bytes : (bytes : List ℕ) → is_section_header bytes ≡ true → 0 < length bytes
some_bytes [] is = absurd cc
some_bytes (byte ∷ bytes) is = omega arith

-- its fault is that of the capture
pub opening-records : (bytes : List ℕ) (fault : Fault) → opening_fault bytes ≡ Some fault → records_of bytes ≡ no_record (Some fault)
unfolding records_of
opening-records bytes fault shows = by_form (is_section_header bytes) refl shows
  where
    by_form : (form : Bool) → is_section_header bytes ≡ form
        → (if form then block_fault no_section bytes else classic_form.header_fault bytes) ≡ Some fault
        → (if form then blocks_in no_section bytes else classic_form.classic_records_of bytes) ≡ no_record (Some fault)
    by_form true is shows = blocks_in-fault no_section bytes fault (some_bytes bytes is) shows
    by_form false is shows = classic_header.records_of-fault bytes fault shows

shown_by : (all : List ℕ) (fault : Fault) → IsOpeningFault fault → HeaderShows (opening_fault all) fault → ShowsFault (records_of all) fault
shown_by all NotPcap is shows = opening-records all NotPcap shows
shown_by all Version is shows = opening-records all Version shows
shown_by all LinkType is shows = opening-records all LinkType shows
shown_by all Cut is shows = opening-records all Cut shows
shown_by all BadBlock is shows = opening-records all BadBlock shows
shown_by all Read is shows = tt
shown_by all _ is shows = absurd is

taken_by : (taken : List ℕ) (fault : Fault) → IsOpeningFault fault → TakenHeaderShows (opening_fault taken) fault
    → TakenShows (records_of taken) fault
taken_by taken NotPcap is shows = opening-records taken NotPcap shows
taken_by taken Version is shows = opening-records taken Version shows
taken_by taken LinkType is shows = opening-records taken LinkType shows
taken_by taken Cut is shows = opening-records taken Cut shows
taken_by taken BadBlock is shows = opening-records taken BadBlock shows
taken_by taken Read is shows = inr (opening-records taken Cut shows)
taken_by taken _ is shows = absurd is

-- a header that is cut holds no record
pub opening-breaks : (taken : List ℕ) → OfFronts (λ front. opening_fault front ≡ Some Cut) taken → OfFronts (λ front. BrokeOff (records_of front)) taken
opening-breaks taken cut = fronts-weaker _ _ taken (λ front is. inr (opening-records front Cut is)) cut

-- a fault there ends the capture before its first record
pub opening-stops : (a b : Option (List ℕ)) (fault : Fault) → Opens a b (Err fault) → Stops IsOpeningFault records_of a b fault
opening-stops a b fault stops = (
  stops.0,
  all_weaker a _ _ (λ all shows. shown_by all fault stops.0 shows) stops.1,
  Took-weaker a b _ _ (λ taken shows. taken_by taken fault stops.0 shows) stops.2,
  λ is. Took-weaker a b (OfFronts (λ front. opening_fault front ≡ Some Cut)) (OfFronts (λ front. BrokeOff (records_of front))) opening-breaks (stops.3 is),
)
