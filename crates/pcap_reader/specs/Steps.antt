-- What the steps of a reading say: a part of known length, the file header, a record's header and its captured bytes.
use Rattle.std.specs.Prelude.{◌≡◌, ℕ, ◌<◌, ◌≤◌, List, [], ◌∷◌, ◌++◌, length, take, Option, Some, None, Result, Ok, Err, IfSome}
use Rattle.std.specs.Io.KnownBytes.{Keeps, IsAtEnd, Consumes}
use Rattle.zr_kinds.specs.{Limits.{longest_record}, declared.fault.Fault.{Fault, TheVariants.{Memory, Cut, Read}}}
use Rattle.zr_io.specs.Moved.{Took}
use Rattle.pcap_reader.specs.declared.order.ByteOrder.TheVariants.{Little, Big}
use Rattle.pcap_reader.specs.Records.{ByteOrder, Records, classic_captured_len, classic_original_len, order_of, fields_fault, records_in, classic_records_of}
use Rattle.pcap_reader.specs.Capture.{ShowsFault, BrokeOff, TakenShows, HeaderShows, TakenHeaderShows, IsClassicOpeningFault, IsClassicRecordFault, IsOutOfForm}
use Rattle.pcap_reader.specs.{Capture.{OfFronts}, declared.capture.Record.{Record}}

-- A fault is that of all the bytes, by what they read as, and those that were taken show it. Nothing was taken behind what is out
-- of form.
abbrev pub Stops : (Fault → Type 0) → (List ℕ → Records) → Option (List ℕ) → Option (List ℕ) → Fault → Type 0
Stops Comes reading old new fault =
    Comes fault × IfSome old (λ all. ShowsFault (reading all) fault) × Took old new (λ taken. TakenShows (reading taken) fault)
    × (IsOutOfForm fault → Took old new (OfFronts (λ front. BrokeOff (reading front))))

-- A step broke off: what it took has a fact, as being too short. At `Cut` all that was left has it.
abbrev pub StepBreaksOff : Option (List ℕ) → Option (List ℕ) → (List ℕ → Type 0) → Fault → Type 0
StepBreaksOff old new P Read = Took old new P
StepBreaksOff old new P Cut = IfSome old P × Took old new P
StepBreaksOff old new P fault = ⊥

-- `Ok(n)` took n bytes, fewer than there is room for only at the end. A failed read left some of the room.
abbrev pub Fills : Option (List ℕ) → Option (List ℕ) → List ℕ → Result ℕ Fault → Type 0
Fills old new into (Ok n) = (n ≤ length into) × Consumes old new (take n into) × (n < length into → IsAtEnd new)
Fills old new into (Err fault) = (fault ≡ Read) × Took old new (λ taken. length taken < length into)

-- the same for a part that is wanted whole
abbrev pub FillsWhole : Option (List ℕ) → Option (List ℕ) → List ℕ → Result (Unit {0}) Fault → Type 0
FillsWhole old new into (Ok _) = Consumes old new into
FillsWhole old new into (Err fault) = StepBreaksOff old new (λ bytes. length bytes < length into) fault

-- ---- the file header

-- the four bytes of a magic that tells this order
pub record IsMagicOf (order : ByteOrder) (magic : List ℕ) : Type 0 where
  pub whole : length magic ≡ 4
  pub tells : order_of magic ≡ Some order

-- the magic of the form with microseconds, for which the one with nanoseconds may stand
abbrev pub magic_in : ByteOrder → List ℕ
magic_in Little = 0xd4 ∷ 0xc3 ∷ 0xb2 ∷ 0xa1 ∷ []
magic_in Big = 0xa1 ∷ 0xb2 ∷ 0xc3 ∷ 0xd4 ∷ []

-- a fault of the file header, in all the bytes and in those that were taken
abbrev pub HeaderStops : (List ℕ → Option Fault) → Option (List ℕ) → Option (List ℕ) → Fault → Type 0
HeaderStops fault_in old new fault =
    IsClassicOpeningFault fault × IfSome old (λ all. HeaderShows (fault_in all) fault) × Took old new (λ taken. TakenHeaderShows (fault_in taken) fault)
    × (IsOutOfForm fault → Took old new (OfFronts (λ front. fault_in front ≡ Some Cut)))

-- what is wrong with the fields behind a magic
abbrev pub fault_of_fields : ByteOrder → List ℕ → Option Fault
fault_of_fields order bytes = fields_fault order (magic_in order ++ bytes)

-- what the bytes behind a magic hold
abbrev pub behind_magic_in : ByteOrder → List ℕ → Records
behind_magic_in order bytes = classic_records_of (magic_in order ++ bytes)

-- the fields behind the magic
abbrev pub TakesFields : ByteOrder → Option (List ℕ) → Option (List ℕ) → Result (Unit {0}) Fault → Type 0
TakesFields order old new (Ok _) =
    Took old new (λ taken. (rest : List ℕ) → behind_magic_in order (taken ++ rest) ≡ records_in order rest)
    × Took old new (OfFronts (λ front. fault_of_fields order front ≡ Some Cut))
TakesFields order old new (Err fault) = HeaderStops (fault_of_fields order) old new fault

-- ---- a record

-- the bytes of a record's header that states these lengths
pub record IsHeaderOf (order : ByteOrder) (found : Record) (header : List ℕ) : Type 0 where
  pub whole : length header ≡ 16
  pub captured : classic_captured_len order header ≡ found.captured
  pub original : classic_original_len order header ≡ found.original
  pub short : found.captured ≤ longest_record

abbrev pub TakesHeader : ByteOrder → Option (List ℕ) → Option (List ℕ) → Result (Option Record) Fault → Type 0
TakesHeader order old new (Ok (Some found)) = Took old new (IsHeaderOf order found)
TakesHeader order old new (Ok None) = IsAtEnd old × Keeps old new
TakesHeader order old new (Err fault) = Stops IsClassicRecordFault (records_in order) old new fault

-- want of memory takes nothing of a body that has some bytes
abbrev pub BodyStops : ℕ → Option (List ℕ) → Option (List ℕ) → Fault → Type 0
BodyStops captured old new Memory = (0 < captured) × Keeps old new
BodyStops captured old new fault = StepBreaksOff old new (λ bytes. length bytes < captured) fault

abbrev pub TakesBody : ℕ → Option (List ℕ) → Option (List ℕ) → List ℕ → Result (Unit {0}) Fault → Type 0
TakesBody captured old new frame (Ok _) = (length frame ≡ captured) × Consumes old new frame
TakesBody captured old new frame (Err fault) = BodyStops captured old new fault
