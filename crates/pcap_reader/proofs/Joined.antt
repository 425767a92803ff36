-- How the steps of a reading go together.
use Rattle.std.proofs.Common.{◌≡◌, ℕ, ◌<◌, ◌≤◌, List, [], ◌∷◌, ◌++◌, inl, inr, length, take, Option, Some, None, IfSome, refl, sym, Result, Ok, Err}
use Rattle.std.proofs.{Common.{ap, ◌∙◌, subst, arith, append-nil, length-append, length-take-le, take_all}, lemmas.List.{append_cancel_right}}
use Rattle.std.specs.Io.KnownBytes.{Keeps, IsAtEnd, Consumes}
use Rattle.zr_kinds.specs.{Limits.{longest_record}, declared.fault.Fault.{Fault, TheVariants.{Memory, NotPcap, Version, LinkType, Cut, LongRecord, Read}}}
use Rattle.zr_io.{specs.Moved.{Took}, proofs.Moved.{Took-nothing, Took-consumed, Took-then, Took-weaker}}
use Rattle.pcap_reader.specs.Records.{ByteOrder, Records, no_record, with_record, classic_captured_len, header_fault, records_in, classic_records_of}
use Rattle.pcap_reader.specs.Capture.{ShowsFault, BrokeOff, TakenShows, HeaderShows, TakenHeaderShows, IsClassicOpeningFault, IsClassicRecordFault, ClassicWantsMemory}
use Rattle.pcap_reader.specs.{Capture.{OfFronts, ClassicReading, OpensClassic, OpensBehind}, Steps.{Stops, HeaderStops, StepBreaksOff, IsHeaderOf, BodyStops}}
use Rattle.pcap_reader.{specs.declared.capture.Record.{Record}, proofs.HeaderLaws.{records_of-fault, header_fault-cut}}
use Rattle.pcap_reader.proofs.RecordLaws.{records_in-whole, records_in-headless, records_in-none, records_in-long, records_in-bodiless}

-- ---- facts of all the bytes that were left

pub always : (a : Option (List ℕ)) → IfSome a (λ _. Unit {0})
always None = tt
always (Some xs) = tt

pub all_weaker : (a : Option (List ℕ)) (P Q : List ℕ → Type 0) → ((xs : List ℕ) → P xs → Q xs) → IfSome a P → IfSome a Q
all_weaker None P Q weaken p = tt
all_weaker (Some xs) P Q weaken p = weaken xs p

-- by what was taken and what was left behind it
pub all_then : (a b : Option (List ℕ)) (P Q R : List ℕ → Type 0) → ((xs ys : List ℕ) → P xs → Q ys → R (xs ++ ys)) → Took a b P → IfSome b Q
    → IfSome a R
all_then None b P Q R join took q = tt
all_then (Some xs) None P Q R join took q = absurd took
all_then (Some xs) (Some ys) P Q R join (bs, e, p) q = subst R (sym e) (join bs ys p q)

-- by the front that was taken, whatever is left behind it
pub all_by_front : (a b : Option (List ℕ)) (front : List ℕ) (P : List ℕ → Type 0) → ((rest : List ℕ) → P (front ++ rest)) → Consumes a b front
    → IfSome a P
all_by_front None b front P holds consumed = tt
all_by_front (Some xs) None front P holds consumed = absurd consumed
all_by_front (Some xs) (Some ys) front P holds consumed = subst P (sym consumed) (holds ys)

-- by what was taken up to the end
pub all_by_end : (a b : Option (List ℕ)) (bytes : List ℕ) (P : List ℕ → Type 0) → P bytes → Consumes a b bytes → IsAtEnd b → IfSome a P
all_by_end None b bytes P p consumed end = tt
all_by_end (Some xs) None bytes P p consumed end = absurd consumed
all_by_end (Some xs) (Some ys) bytes P p consumed end = subst P (sym (consumed ∙ ap (λ (l : List ℕ). bytes ++ l) end ∙ append-nil bytes)) p

pub Keeps-same : (a : Option (List ℕ)) → Keeps a a
Keeps-same None = tt
Keeps-same (Some xs) = refl

-- ---- shorter fronts of what was taken

-- of nothing there are none
pub no-fronts : (P : List ℕ → Type 0) → OfFronts P []
no-fronts P [] more e some = absurd (omega (arith, ap length e))
no-fronts P (byte ∷ front) more e some = absurd cc

-- those of bytes that were taken by two calls
pub fronts-then : (P : List ℕ → Type 0) (xs ys : List ℕ) → OfFronts P xs → OfFronts (λ front. P (xs ++ front)) ys → OfFronts P (xs ++ ys)
fronts-then P [] ys first second front more e some = second front more e some
fronts-then P (x ∷ xs) ys first second [] more e some = first [] (x ∷ xs) refl (omega arith)
fronts-then P (x ∷ xs) ys first second (f ∷ front) more e some =
    let same : x ≡ f = cc in
    let rest : xs ++ ys ≡ front ++ more = cc in
    subst (λ byte. P (byte ∷ front)) same
    (fronts-then (λ l. P (x ∷ l)) xs ys (λ part behind is left. first (x ∷ part) behind (ap (λ l. x ∷ l) is) left) second front more rest some)

-- those of so many bytes are fewer
pub fronts-short : (P : List ℕ → Type 0) (xs : List ℕ) → ((front : List ℕ) → length front < length xs → P front) → OfFronts P xs
fronts-short P xs holds front more e some = holds front (omega (arith, ap length e, length-append front more))

pub fronts-weaker : (P Q : List ℕ → Type 0) (xs : List ℕ) → ((front : List ℕ) → P front → Q front) → OfFronts P xs → OfFronts Q xs
fronts-weaker P Q xs weaken fronts front more e some = weaken front (fronts front more e some)

-- two facts of what was taken
pub Took-both : (a b : Option (List ℕ)) (P Q : List ℕ → Type 0) → Took a b P → Took a b Q → Took a b (λ xs. P xs × Q xs)
Took-both None b P Q first second = tt
Took-both (Some xs) None P Q first second = absurd first
Took-both (Some xs) (Some ys) P Q (bs, e, p) (cs, f, q) = (bs, e, (p, subst Q (append_cancel_right cs bs ys (sym f ∙ e)) q))

-- those of what two calls took, one after the other
pub Took-fronts : (P : List ℕ → Type 0) (a b c : Option (List ℕ)) (Q : List ℕ → Type 0) → ((xs : List ℕ) → Q xs → OfFronts P xs) → Took a b Q
    → Took b c (OfFronts (λ ys. (xs : List ℕ) → Q xs → P (xs ++ ys))) → Took a c (OfFronts P)
Took-fronts P a b c Q first took fronts = Took-then a b c Q (OfFronts (λ ys. (xs : List ℕ) → Q xs → P (xs ++ ys))) (OfFronts P)
    (λ xs ys q second. fronts-then P xs ys (first xs q) (λ front more e some. second front more e some xs q)) took fronts

-- ---- steps that break off

-- a later step broke off
pub Stops-then : (Comes : Fault → Type 0) (reading : List ℕ → Records) (a b c : Option (List ℕ)) (P Q : List ℕ → Type 0) (fault : Fault)
    → Comes Read → Comes Cut
    → ((xs ys : List ℕ) → P xs → Q ys → reading (xs ++ ys) ≡ no_record (Some Cut)) → Took a b P → StepBreaksOff b c Q fault
    → Stops Comes reading a c fault
Stops-then Comes reading a b c P Q Read read cut shows took broke =
    (read, always a, Took-then a b c P Q _ (λ xs ys p q. inr (shows xs ys p q)) took broke, λ is. absurd is)
Stops-then Comes reading a b c P Q Cut read cut shows took broke = (
  cut,
  all_then a b P Q _ shows took broke.0,
  Took-then a b c P Q _ shows took broke.1,
  λ is. absurd is,
)
Stops-then Comes reading a b c P Q _ read cut shows took broke = absurd broke

-- a front that was taken shows a fault, whatever follows it
pub Stops-front : (Comes : Fault → Type 0) (reading : List ℕ → Records) (a b : Option (List ℕ)) (front : List ℕ) (fault : Fault) → Comes fault
    → ((rest : List ℕ) → reading (front ++ rest) ≡ no_record (Some fault))
    → ((records : Records) → records ≡ no_record (Some fault) → ShowsFault records fault)
    → ((records : Records) → records ≡ no_record (Some fault) → TakenShows records fault) → OfFronts (λ part. BrokeOff (reading part)) front
    → Consumes a b front → Stops Comes reading a b fault
Stops-front Comes reading a b front fault comes shows fits taken fronts consumed =
    let alone : reading front ≡ no_record (Some fault) = ap reading (sym (append-nil front)) ∙ shows [] in (
      comes,
      all_by_front a b front _ (λ rest. fits (reading (front ++ rest)) (shows rest)) consumed,
      Took-consumed a b front _ consumed (taken (reading front) alone),
      λ is. Took-consumed a b front (OfFronts (λ part. BrokeOff (reading part))) consumed fronts,
    )

-- ---- the file header

-- what is wanted of the header broke off
pub HeaderStops-broken : (fault_in : List ℕ → Option Fault) (a b : Option (List ℕ)) (P : List ℕ → Type 0) (fault : Fault)
    → ((xs : List ℕ) → P xs → fault_in xs ≡ Some Cut) → StepBreaksOff a b P fault → HeaderStops fault_in a b fault
HeaderStops-broken fault_in a b P Read shows broke = (tt, always a, Took-weaker a b P _ shows broke, λ is. absurd is)
HeaderStops-broken fault_in a b P Cut shows broke = (tt, all_weaker a P _ shows broke.0, Took-weaker a b P _ shows broke.1, λ is. absurd is)
HeaderStops-broken fault_in a b P _ shows broke = absurd broke

-- the fields behind the magic stopped, which have the header's fault behind it
pub HeaderStops-within : (fault_in later : List ℕ → Option Fault) (a b : Option (List ℕ)) (first : List ℕ) (fault : Fault)
    → ((ys : List ℕ) → fault_in (first ++ ys) ≡ later ys) → HeaderStops later a b fault → HeaderStops (λ ys. fault_in (first ++ ys)) a b fault
HeaderStops-within fault_in later a b first fault same stops = (
  stops.0,
  all_weaker a (λ ys. HeaderShows (later ys) fault) (λ ys. HeaderShows (fault_in (first ++ ys)) fault)
      (λ ys shows. subst (λ (found : Option Fault). HeaderShows found fault) (sym (same ys)) shows) stops.1,
  Took-weaker a b (λ ys. TakenHeaderShows (later ys) fault) (λ ys. TakenHeaderShows (fault_in (first ++ ys)) fault)
      (λ ys shows. subst (λ (found : Option Fault). TakenHeaderShows found fault) (sym (same ys)) shows) stops.2,
  λ is. Took-weaker a b (OfFronts (λ ys. later ys ≡ Some Cut)) (OfFronts (λ ys. fault_in (first ++ ys) ≡ Some Cut))
      (λ ys fronts. fronts-weaker _ _ ys (λ front cut. same front ∙ cut) fronts) (stops.3 is),
)

-- a front that was taken has a fault, whatever follows it
pub HeaderStops-front : (fault_in : List ℕ → Option Fault) (a b : Option (List ℕ)) (front : List ℕ) (fault : Fault) → IsClassicOpeningFault fault
    → ((rest : List ℕ) → fault_in (front ++ rest) ≡ Some fault)
    → ((found : Option Fault) → found ≡ Some fault → HeaderShows found fault)
    → ((found : Option Fault) → found ≡ Some fault → TakenHeaderShows found fault) → OfFronts (λ part. fault_in part ≡ Some Cut) front
    → Consumes a b front → HeaderStops fault_in a b fault
HeaderStops-front fault_in a b front fault comes shows fits taken fronts consumed =
    let alone : fault_in front ≡ Some fault = ap fault_in (sym (append-nil front)) ∙ shows [] in (
      comes,
      all_by_front a b front _ (λ rest. fits (fault_in (front ++ rest)) (shows rest)) consumed,
      Took-consumed a b front _ consumed (taken (fault_in front) alone),
      λ is. Took-consumed a b front (OfFronts (λ part. fault_in part ≡ Some Cut)) consumed fronts,
    )

-- the first bytes have a fault, whatever follows them
pub HeaderStops-nothing : (fault_in : List ℕ → Option Fault) (a : Option (List ℕ)) (first : List ℕ) (fault : Fault) → IsClassicOpeningFault fault
    → ((rest : List ℕ) → fault_in (first ++ rest) ≡ Some fault)
    → ((found : Option Fault) → found ≡ Some fault → HeaderShows found fault)
    → ((found : Option Fault) → found ≡ Some fault → TakenHeaderShows found fault) → HeaderStops (λ ys. fault_in (first ++ ys)) a a fault
HeaderStops-nothing fault_in a first fault comes shows fits taken = (
  comes,
  all_weaker a (λ _. Unit {0}) _ (λ rest _. fits (fault_in (first ++ rest)) (shows rest)) (always a),
  Took-nothing a a _ (Keeps-same a) (taken (fault_in (first ++ [])) (shows [])),
  λ is. Took-nothing a a (OfFronts (λ ys. fault_in (first ++ ys) ≡ Some Cut)) (Keeps-same a) (no-fronts _),
)

-- no byte was taken behind the header
header-alone : (a b c : Option (List ℕ)) (first : List ℕ) → length first ≡ 4 → Took a b (λ xs. xs ≡ first)
    → Took b c (OfFronts (λ ys. header_fault (first ++ ys) ≡ Some Cut)) → Took a c (OfFronts (λ taken. header_fault taken ≡ Some Cut))
header-alone a b c first four front fronts =
    Took-then a b c (λ xs. xs ≡ first) (OfFronts (λ ys. header_fault (first ++ ys) ≡ Some Cut)) (OfFronts (λ taken. header_fault taken ≡ Some Cut))
    (λ xs ys same later. subst (λ (l : List ℕ). OfFronts (λ taken. header_fault taken ≡ Some Cut) (l ++ ys)) (sym same)
    (fronts-then _ first ys (fronts-short _ first (λ part short. header_fault-cut part (omega arith))) later)) front fronts

-- the four bytes of a magic, and a header behind them
pub Opens-behind : (a b c : Option (List ℕ)) (first : List ℕ) (result : Result ClassicReading Fault) → length first ≡ 4 → Consumes a b first
    → OpensBehind first b c result → OpensClassic a c result
Opens-behind a b c first (Ok capture) four consumed opens =
    let front = Took-consumed a b first (λ xs. xs ≡ first) consumed refl in (
      opens.0,
      Took-then a b c (λ xs. xs ≡ first) _ _
          (λ xs ys same good rest. subst (λ (l : List ℕ). classic_records_of ((l ++ ys) ++ rest) ≡ records_in capture.order rest) (sym same) (good rest)) front
          opens.1,
      header-alone a b c first four front opens.2,
    )
Opens-behind a b c first (Err fault) four consumed opens =
    let front = Took-consumed a b first (λ xs. xs ≡ first) consumed refl in (
      opens.0,
      all_then a b (λ xs. xs ≡ first) _ (λ all. HeaderShows (header_fault all) fault)
          (λ xs ys same shows. subst (λ (l : List ℕ). HeaderShows (header_fault (l ++ ys)) fault) (sym same) shows) front opens.1,
      Took-then a b c (λ xs. xs ≡ first) _ (λ taken. TakenHeaderShows (header_fault taken) fault)
          (λ xs ys same shows. subst (λ (l : List ℕ). TakenHeaderShows (header_fault (l ++ ys)) fault) (sym same) shows) front opens.2,
      λ is. header-alone a b c first four front (opens.3 is),
    )

-- what the header shows, all the bytes show
shown_by : (all : List ℕ) (fault : Fault) → IsClassicOpeningFault fault → HeaderShows (header_fault all) fault → ShowsFault (classic_records_of all) fault
shown_by all NotPcap is shows = records_of-fault all NotPcap shows
shown_by all Version is shows = records_of-fault all Version shows
shown_by all LinkType is shows = records_of-fault all LinkType shows
shown_by all Cut is shows = records_of-fault all Cut shows
shown_by all Read is shows = tt
shown_by all _ is shows = absurd is

taken_by : (taken : List ℕ) (fault : Fault) → IsClassicOpeningFault fault → TakenHeaderShows (header_fault taken) fault
    → TakenShows (classic_records_of taken) fault
taken_by taken NotPcap is shows = records_of-fault taken NotPcap shows
taken_by taken Version is shows = records_of-fault taken Version shows
taken_by taken LinkType is shows = records_of-fault taken LinkType shows
taken_by taken Cut is shows = records_of-fault taken Cut shows
taken_by taken Read is shows = inr (records_of-fault taken Cut shows)
taken_by taken _ is shows = absurd is

-- ---- records

headless : (order : ByteOrder) (bytes : List ℕ) → length bytes < 16 → BrokeOff (records_in order bytes)
headless order [] short = inl (records_in-none order)
headless order (byte ∷ bytes) short = inr (records_in-headless order (byte ∷ bytes) (omega arith) short)

-- the source failed within a header
pub Stops-headless : (order : ByteOrder) (a b : Option (List ℕ)) (room : ℕ) (fault : Fault) → room ≡ 16 → fault ≡ Read
    → Took a b (λ taken. length taken < room)
    → Stops IsClassicRecordFault (records_in order) a b fault
Stops-headless order a b room fault size read took =
    subst (Stops IsClassicRecordFault (records_in order) a b) (sym read)
    (tt, always a, Took-weaker a b _ _ (λ xs short. headless order xs (omega arith)) took, λ is. absurd is)

-- the bytes end within a header
pub Stops-cut : (order : ByteOrder) (a b : Option (List ℕ)) (header : List ℕ) (n : ℕ) → 0 < n → n < 16 → n ≤ length header
    → Consumes a b (take n header) → IsAtEnd b
    → Stops IsClassicRecordFault (records_in order) a b Cut
Stops-cut order a b header n some short within consumed end =
    let size = length-take-le n header within in
    let shows = records_in-headless order (take n header) (omega arith) (omega arith) in
    (tt, all_by_end a b (take n header) _ shows consumed end, Took-consumed a b (take n header) _ consumed shows, λ is. absurd is)

-- a header that states too many bytes
pub Stops-long : (order : ByteOrder) (a b : Option (List ℕ)) (header : List ℕ) (n : ℕ) → length header ≡ 16 → 16 ≤ n
    → longest_record < classic_captured_len order header → Consumes a b (take n header)
    → Stops IsClassicRecordFault (records_in order) a b LongRecord
Stops-long order a b header n whole all long consumed =
    Stops-front IsClassicRecordFault (records_in order) a b header LongRecord tt (λ rest. records_in-long order header rest whole long) (λ records e. e)
    (λ records e. e)
    (fronts-short _ header (λ front short. headless order front (omega arith)))
    (subst (Consumes a b) (take_all n header (omega arith)) consumed)

bodiless : (order : ByteOrder) (found : Record) (header body : List ℕ) → IsHeaderOf order found header → length body < found.captured
    → records_in order (header ++ body) ≡ no_record (Some Cut)
bodiless order found header body h short =
    let stated = h.captured in
    let fits = h.short in
    records_in-bodiless order header body h.whole (omega arith) (omega arith)

-- the captured bytes weren't taken whole
pub Stops-bodiless : (order : ByteOrder) (a b c : Option (List ℕ)) (found : Record) (fault : Fault) → Took a b (IsHeaderOf order found)
    → BodyStops found.captured b c fault
    → Stops IsClassicRecordFault (records_in order) a c fault
Stops-bodiless order a b c found Memory took stops =
    let none : Took b c (λ ys. length ys < found.captured) = Took-nothing b c _ stops.1 stops.0 in
    (tt, always a, Took-then a b c (IsHeaderOf order found) _ _ (λ xs ys p q. inr (bodiless order found xs ys p q)) took none, λ is. absurd is)
Stops-bodiless order a b c found Read took stops =
    Stops-then IsClassicRecordFault (records_in order) a b c (IsHeaderOf order found) (λ ys. length ys < found.captured) Read tt tt (bodiless order found)
    took stops
Stops-bodiless order a b c found Cut took stops =
    Stops-then IsClassicRecordFault (records_in order) a b c (IsHeaderOf order found) (λ ys. length ys < found.captured) Cut tt tt (bodiless order found)
    took stops
Stops-bodiless order a b c found _ took stops = absurd stops

wanting : (order : ByteOrder) (found : Record) → 0 < found.captured → (header body : List ℕ) → IsHeaderOf order found header → body ≡ []
    → ClassicWantsMemory order (header ++ body)
wanting order found some header body h none =
    let stated = h.captured in
    let fits = h.short in
    subst (λ (l : List ℕ). ClassicWantsMemory order (header ++ l)) (sym none)
    (subst (ClassicWantsMemory order) (sym (append-nil header)) (h.whole, omega arith, omega arith))

-- memory was wanted and refused
pub Took-wanting : (order : ByteOrder) (a b c : Option (List ℕ)) (found : Record) → Took a b (IsHeaderOf order found)
    → BodyStops found.captured b c Memory → Took a c (ClassicWantsMemory order)
Took-wanting order a b c found took stops =
    Took-then a b c (IsHeaderOf order found) (λ ys. ys ≡ []) _ (wanting order found stops.0) took (Took-nothing b c _ stops.1 refl)

whole_record : (order : ByteOrder) (found : Record) (frame : List ℕ) → length frame ≡ found.captured → (header body : List ℕ)
    → IsHeaderOf order found header → body ≡ frame
    → (rest : List ℕ) → records_in order ((header ++ body) ++ rest) ≡ with_record frame found.original (records_in order rest)
whole_record order found frame size header body h same rest =
    let stated = h.captured in
    let fits = h.short in
    ap (λ (l : List ℕ). records_in order ((header ++ l) ++ rest)) same ∙ records_in-whole order header frame rest h.whole (omega arith) (omega arith)
    ∙ ap (λ (n : ℕ). with_record frame n (records_in order rest)) h.original

-- a whole record was taken
pub Took-record : (order : ByteOrder) (a b c : Option (List ℕ)) (found : Record) (frame : List ℕ) → Took a b (IsHeaderOf order found)
    → length frame ≡ found.captured → Consumes b c frame
    → Took a c (λ taken. (rest : List ℕ) → records_in order (taken ++ rest) ≡ with_record frame found.original (records_in order rest))
Took-record order a b c found frame took size consumed =
    Took-then a b c (IsHeaderOf order found) (λ ys. ys ≡ frame) _ (whole_record order found frame size) took (Took-consumed b c frame _ consumed refl)

-- and nothing behind it
pub Took-record-alone : (order : ByteOrder) (a b c : Option (List ℕ)) (found : Record) (frame : List ℕ) → Took a b (IsHeaderOf order found)
    → length frame ≡ found.captured → Consumes b c frame → Took a c (OfFronts (λ front. BrokeOff (records_in order front)))
Took-record-alone order a b c found frame took size consumed =
    Took-fronts (λ front. BrokeOff (records_in order front)) a b c (IsHeaderOf order found)
    (λ header h. let whole = h.whole in fronts-short _ header (λ front short. headless order front (omega arith))) took
    (Took-consumed b c frame _ consumed (fronts-short _ frame (λ front short header h. inr (bodiless order found header front h (omega arith)))))
