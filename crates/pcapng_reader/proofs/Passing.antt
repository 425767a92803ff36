-- Blocks that were passed over, and what comes behind them.
use Rattle.std.proofs.Common.{◌≡◌, ℕ, ◌<◌, List, [], ◌∷◌, ◌++◌, length, Option, Some, None, Ok, Err, refl, sym}
use Rattle.std.{proofs.Common.{ap, ◌∙◌, subst, arith, inl, inr, append-nil, append_assoc, length-append}, specs.Io.KnownBytes.{Keeps, IsAtEnd, Consumes}}
use Rattle.zr_kinds.specs.declared.fault.Fault.{Fault, TheVariants.{Memory, Version, LinkType, Cut, LongRecord, Read, BadBlock}}
use Rattle.zr_io.{specs.Moved.{Took}, proofs.Moved.{Took-nothing, Took-consumed, Took-then}}
use Rattle.pcap_reader.specs.{Records.{Records, no_record, with_record}, Capture.{ShowsFault, BrokeOff, TakenShows, OfFronts}}
use Rattle.pcap_reader.proofs.Joined.{always, all_weaker, all_then, fronts-then, fronts-short, fronts-weaker, Took-both}
use Rattle.pcapng_reader.specs.{Blocks.{Section, block_fault, blocks_in}, Records.{blocks}, Capture.{IsRecordFault, WantsHere, WantsAt, Gives}}
use Rattle.pcapng_reader.specs.Steps.{BlockShows, TakenBlockShows, BlockStops, IsCutBefore, fault_from, TakesStart}
use Rattle.pcapng_reader.proofs.BlockLaws.{fault-start, blocks_in-none, blocks_in-fault}

-- these bytes are passed over: whatever follows, the records are those of what follows
abbrev pub Over : Section → Section → List ℕ → Type 0
Over s now passed = (rest : List ℕ) → blocks_in s (passed ++ rest) ≡ blocks_in now rest

-- each shorter front breaks off
abbrev pub BreaksBefore : Section → List ℕ → Type 0
BreaksBefore s taken = OfFronts (λ front. BrokeOff (blocks_in s front)) taken

-- bytes that are passed over, and the first ones of a block behind them
abbrev pub OverTo : Section → Section → List ℕ → List ℕ → Type 0
OverTo s now start taken = (passed : List ℕ) × (taken ≡ passed ++ start) × Over s now passed × BreaksBefore s passed

over_none : (s now : Section) (xs : List ℕ) → Over s now xs → blocks_in s xs ≡ no_record None
over_none s now xs over = ap (blocks_in s) (sym (append-nil xs)) ∙ over [] ∙ blocks_in-none now

over_to : (s now : Section) (start xs ys : List ℕ) → OverTo s now start xs → blocks_in s (xs ++ ys) ≡ blocks_in now (start ++ ys)
over_to s now start xs ys h =
    let over = h.2 in
    ap (λ (l : List ℕ). blocks_in s (l ++ ys)) h.1 ∙ ap (blocks_in s) (append_assoc h.0 start ys) ∙ over (start ++ ys)

start_cut : (s : Section) (bytes : List ℕ) → 0 < length bytes → length bytes < 8 → blocks_in s bytes ≡ no_record (Some Cut)
start_cut s bytes some short = blocks_in-fault s bytes Cut some (fault-start s bytes short)

start_broke : (s : Section) (bytes : List ℕ) → length bytes < 8 → BrokeOff (blocks_in s bytes)
start_broke s [] short = inl (blocks_in-none s)
start_broke s (byte ∷ bytes) short = inr (start_cut s (byte ∷ bytes) (omega arith) short)

-- the first bytes of a block, and the rest of it
block_breaks : (s now : Section) (start : List ℕ) → length start ≡ 8 → (xs ys : List ℕ) → OverTo s now start xs
    → IsCutBefore (fault_from now start) ys → BreaksBefore s (xs ++ ys)
block_breaks s now start eight xs ys h cut =
    let over = h.2 in
    fronts-then (λ front. BrokeOff (blocks_in s front)) xs ys
    (subst (BreaksBefore s) (sym h.1) (fronts-then (λ front. BrokeOff (blocks_in s front)) h.0 start h.3
    (fronts-short _ start (λ front short. subst BrokeOff (sym (over front)) (start_broke now front (omega arith))))))
    (fronts-weaker _ _ ys (λ front is. inr (over_to s now start xs front h
    ∙ blocks_in-fault now (start ++ front) Cut (omega (arith, length-append start front)) is)) cut)

-- nothing is passed over at first
pub over-nothing : (s : Section) → Over s s []
over-nothing s rest = refl

-- a block's fault is the first of the bytes
shown : (records : Records) (s : Section) (bytes : List ℕ) (fault : Fault) → IsRecordFault fault → records ≡ blocks_in s bytes → 0 < length bytes
    → BlockShows (block_fault s bytes) fault → ShowsFault records fault
shown records s bytes Memory is same some shows = tt
shown records s bytes Read is same some shows = tt
shown records s bytes Version is same some shows = same ∙ blocks_in-fault s bytes Version some shows
shown records s bytes LinkType is same some shows = same ∙ blocks_in-fault s bytes LinkType some shows
shown records s bytes Cut is same some shows = same ∙ blocks_in-fault s bytes Cut some shows
shown records s bytes LongRecord is same some shows = same ∙ blocks_in-fault s bytes LongRecord some shows
shown records s bytes BadBlock is same some shows = same ∙ blocks_in-fault s bytes BadBlock some shows
shown records s bytes _ is same some shows = absurd is

taken_shown : (records : Records) (s : Section) (bytes : List ℕ) (fault : Fault) → IsRecordFault fault → records ≡ blocks_in s bytes → 0 < length bytes
    → TakenBlockShows (block_fault s bytes) fault → TakenShows records fault
taken_shown records s bytes Memory is same some shows = inr (same ∙ blocks_in-fault s bytes Cut some shows)
taken_shown records s bytes Read is same some shows = inr (same ∙ blocks_in-fault s bytes Cut some shows)
taken_shown records s bytes Version is same some shows = same ∙ blocks_in-fault s bytes Version some shows
taken_shown records s bytes LinkType is same some shows = same ∙ blocks_in-fault s bytes LinkType some shows
taken_shown records s bytes Cut is same some shows = same ∙ blocks_in-fault s bytes Cut some shows
taken_shown records s bytes LongRecord is same some shows = same ∙ blocks_in-fault s bytes LongRecord some shows
taken_shown records s bytes BadBlock is same some shows = same ∙ blocks_in-fault s bytes BadBlock some shows
taken_shown records s bytes _ is same some shows = absurd is

module _ (s now : Section) (a b : Option (List ℕ)) (over : Took a b (Over s now)) (breaks : Took a b (BreaksBefore s)) where
  -- the end
  pub gives-end : (later : Section) (c : Option (List ℕ)) (frame : List ℕ) → IsAtEnd c → Keeps b c → Gives (blocks s) (blocks later) a c frame (Ok None)
  gives-end later c frame end kept = (
    all_weaker a (λ _. Unit {0}) _ (λ all _. end) (always a),
    Took-then a b c (Over s now) (λ ys. ys ≡ []) _
        (λ xs ys passed none. ap (λ (l : List ℕ). blocks_in s (xs ++ l)) none ∙ ap (blocks_in s) (append-nil xs) ∙ over_none s now xs passed) over
        (Took-nothing b c _ kept refl),
  )

  -- the first bytes of a block couldn't be read, or are too few
  pub gives-startless : (later : Section) (c : Option (List ℕ)) (frame : List ℕ) (fault : Fault) → TakesStart b c (Err fault)
      → Gives (blocks s) (blocks later) a c frame (Err fault)
  gives-startless later c frame Read stops = (
    tt,
    always a,
    Took-then a b c (Over s now) (λ ys. length ys < 8) _
        (λ xs ys passed short. subst BrokeOff (sym (passed ys)) (start_broke now ys short)) over stops,
    λ is. absurd is,
  )
  gives-startless later c frame Cut stops = (
    tt,
    all_then a b (Over s now) (λ ys. (0 < length ys) × (length ys < 8)) _ (λ xs ys passed p. passed ys ∙ start_cut now ys p.0 p.1) over stops.0,
    Took-then a b c (Over s now) (λ ys. (0 < length ys) × (length ys < 8)) _ (λ xs ys passed p. passed ys ∙ start_cut now ys p.0 p.1) over stops.1,
    λ is. absurd is,
  )
  gives-startless later c frame _ stops = absurd stops

  module _ (start : List ℕ) (eight : length start ≡ 8) (b' c : Option (List ℕ)) (consumed : Consumes b b' start) where
    took_to : Took a b' (OverTo s now start)
    took_to =
        Took-then a b b' (λ xs. Over s now xs × BreaksBefore s xs) (λ ys. ys ≡ start) _
        (λ xs ys passed same. (xs, ap (λ (l : List ℕ). xs ++ l) same, passed.0, passed.1))
        (Took-both a b (Over s now) (BreaksBefore s) over breaks) (Took-consumed b b' start _ consumed refl)

    -- no byte was taken behind the block
    pub block-alone : Took b' c (IsCutBefore (fault_from now start)) → Took a c (BreaksBefore s)
    block-alone cut = Took-then a b' c (OverTo s now start) (IsCutBefore (fault_from now start)) (BreaksBefore s)
        (block_breaks s now start eight) took_to cut

    -- the block stopped
    pub gives-stop : (later : Section) (frame : List ℕ) (fault : Fault) → BlockStops IsRecordFault (fault_from now start) b' c fault
        → Gives (blocks s) (blocks later) a c frame (Err fault)
    gives-stop later frame fault stops = (
      stops.0,
      all_then a b' (OverTo s now start) (λ ys. BlockShows (fault_from now start ys) fault) _
          (λ xs ys p shows. shown (blocks_in s (xs ++ ys)) now (start ++ ys) fault stops.0 (over_to s now start xs ys p) (omega (arith, length-append start ys)) shows)
          took_to stops.1,
      Took-then a b' c (OverTo s now start) (λ ys. TakenBlockShows (fault_from now start ys) fault) _
          (λ xs ys p shows. taken_shown (blocks_in s (xs ++ ys)) now (start ++ ys) fault stops.0 (over_to s now start xs ys p)
          (omega (arith, length-append start ys)) shows) took_to stops.2,
      λ is. block-alone (stops.3 is),
    )

    -- memory was wanted within the block
    pub wants-at : Took b' c (λ ys. WantsHere now (start ++ ys)) → Took a c (WantsAt s)
    wants-at wants =
        Took-then a b' c (OverTo s now start) (λ ys. WantsHere now (start ++ ys)) _
        (λ xs ys p here. record {
          passed = p.0;
          head = start ++ ys;
          now = now;
          parts = ap (λ (l : List ℕ). l ++ ys) p.1 ∙ append_assoc p.0 start ys;
          over = p.2;
          here = here;
        }) took_to wants

    -- the block is a packet
    pub gives-record : (later : Section) (frame : List ℕ) (original : ℕ) → later ≡ now
        → Took b' c (λ ys. (rest : List ℕ) → blocks_in now ((start ++ ys) ++ rest) ≡ with_record frame original (blocks_in now rest))
        → Took a c (λ taken. (rest : List ℕ) → blocks_in s (taken ++ rest) ≡ with_record frame original (blocks_in later rest))
    gives-record later frame original same took =
        Took-then a b' c (OverTo s now start) (λ ys. (rest : List ℕ) → blocks_in now ((start ++ ys) ++ rest) ≡ with_record frame original (blocks_in now rest)) _
        (λ xs ys p gives rest. ap (blocks_in s) (append_assoc xs ys rest) ∙ over_to s now start xs (ys ++ rest) p
        ∙ ap (blocks_in now) (sym (append_assoc start ys rest)) ∙ gives rest
        ∙ ap (λ (n : Section). with_record frame original (blocks_in n rest)) (sym same)) took_to took

    -- the block is none
    pub passed-more : (later : Section) → Took b' c (λ ys. (rest : List ℕ) → blocks_in now ((start ++ ys) ++ rest) ≡ blocks_in later rest)
        → Took a c (Over s later)
    passed-more later took =
        Took-then a b' c (OverTo s now start) (λ ys. (rest : List ℕ) → blocks_in now ((start ++ ys) ++ rest) ≡ blocks_in later rest) _
        (λ xs ys p passes rest. ap (blocks_in s) (append_assoc xs ys rest) ∙ over_to s now start xs (ys ++ rest) p
        ∙ ap (blocks_in now) (sym (append_assoc start ys rest)) ∙ passes rest) took_to took
