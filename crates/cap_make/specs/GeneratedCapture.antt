-- The capture of a seed and a number of frames: a classic pcap capture of TCP frames over IPv4 over Ethernet. Four flows
-- take turns; each sends pieces of 1,000 bytes, of which every second pair is swapped and some begin 100 bytes early.
use Rattle.std.specs.Prelude.{ℕ, zero, suc, ◌+◌, ◌-◌, ◌*◌, ◌/◌, ◌%◌, ◌^◌, ◌==◌, ◌&&◌, if◌then◌else◌, nat_lt, List, [], ◌∷◌, ◌++◌, length}
use Rattle.byteorder.specs.Endian.{big_bytes, little_bytes}
use Rattle.cap_make.specs.declared.piece.Piece.{Piece}

-- ---- the numbers drawn

-- what x becomes before each frame
abbrev pub drawn_after : ℕ → ℕ
drawn_after x = (x * 1664525 + 1013904223) % 2 ^ 32

-- x once so many frames were begun: it starts as the seed
abbrev pub drawn : ℕ → ℕ → ℕ
drawn seed zero = seed
drawn seed (suc k) = drawn_after (drawn seed k)

-- ---- the piece of a flow that a frame carries

-- which piece a flow sends at its turn m: of each four the last two are swapped
abbrev pub swapped : ℕ → ℕ
swapped m = if m / 2 % 2 == 0 then m else if m % 2 == 0 then m + 1 else m - 1

-- how many positions before its own the piece begins
abbrev pub early : ℕ → ℕ → ℕ
early x e = if nat_lt x 268435456 && nat_lt 0 e then 100 else 0

-- the piece of a frame: its flow, its first position there, and how many positions it has
abbrev pub piece_of : ℕ → ℕ → Piece
piece_of k x =
    let e = swapped (k / 4) in
    record { flow = k % 4; first = 1000 * e - early x e; count = 1000 + early x e }

-- so many bytes of a flow from a position on
abbrev pub bytes_from : ℕ → ℕ → ℕ → List ℕ
bytes_from shift p zero = []
bytes_from shift p (suc n) = (p + shift) % 256 ∷ bytes_from shift (p + 1) n

-- the byte of flow f at position p is (p + 31 f + seed) modulo 256
abbrev pub generated_payload : ℕ → Piece → List ℕ
generated_payload seed piece = bytes_from (31 * piece.flow + seed) piece.first piece.count

-- ---- its frame

-- Ethernet: destination, source, and the type of IPv4
abbrev pub ethernet_header : List ℕ
ethernet_header = 2 ∷ 0 ∷ 0 ∷ 0 ∷ 0 ∷ 2 ∷ 2 ∷ 0 ∷ 0 ∷ 0 ∷ 0 ∷ 1 ∷ 8 ∷ 0 ∷ []

-- IPv4 (RFC 791, 3.1) around so many bytes of payload, without options, don't-fragment set, TCP, from 10.0.0.1 to 10.0.0.2
abbrev pub ipv4_header : ℕ → List ℕ
ipv4_header count =
    (0x45 ∷ 0 ∷ []) ++ (big_bytes 2 (40 + count) ++
    (0 ∷ 0 ∷ 0x40 ∷ 0 ∷ 0x40 ∷ 6 ∷ 0 ∷ 0 ∷ 10 ∷ 0 ∷ 0 ∷ 1 ∷ 10 ∷ 0 ∷ 0 ∷ 2 ∷ []))

-- TCP (RFC 9293, 3.1) without options, PSH and ACK set
abbrev pub tcp_header : ℕ → ℕ → ℕ → List ℕ
tcp_header sport dport seq =
    big_bytes 2 sport ++ (big_bytes 2 dport ++ (big_bytes 4 seq ++ (0 ∷ 0 ∷ 0 ∷ 0 ∷ 0x50 ∷ 24 ∷ 0xff ∷ 0xff ∷ 0 ∷ 0 ∷ 0 ∷ 0 ∷ [])))

-- a flow's position 0 has this sequence number
abbrev pub base : ℕ
base = 4294960000

abbrev pub frame_of_piece : ℕ → Piece → List ℕ
frame_of_piece seed piece =
    ethernet_header ++ (ipv4_header piece.count
    ++ (tcp_header (40000 + piece.flow) (9000 + piece.flow) ((base + piece.first) % 2 ^ 32) ++ generated_payload seed piece))

-- ---- the capture

-- a record's header: seconds, fraction, captured length and original length
abbrev pub record_header : ℕ → ℕ → List ℕ
record_header seconds len = little_bytes 4 seconds ++ (little_bytes 4 0 ++ (little_bytes 4 len ++ little_bytes 4 len))

-- the record of frame k, for which x was drawn
abbrev pub record_of : ℕ → ℕ → ℕ → List ℕ
record_of seed k x = let frame = frame_of_piece seed (piece_of k x) in record_header k (length frame) ++ frame

-- the first so many records
abbrev pub generated_records : ℕ → ℕ → List ℕ
generated_records seed zero = []
generated_records seed (suc k) = generated_records seed k ++ record_of seed k (drawn seed (suc k))

-- little-endian, microseconds, version 2.4, snaplen 262,144, Ethernet
abbrev pub file_header : List ℕ
file_header = 0xd4 ∷ 0xc3 ∷ 0xb2 ∷ 0xa1 ∷ 2 ∷ 0 ∷ 4 ∷ 0 ∷ 0 ∷ 0 ∷ 0 ∷ 0 ∷ 0 ∷ 0 ∷ 0 ∷ 0 ∷ 0 ∷ 0 ∷ 4 ∷ 0 ∷ 1 ∷ 0 ∷ 0
    ∷ 0 ∷ []

abbrev pub generated_capture : ℕ → ℕ → List ℕ
generated_capture seed frames = file_header ++ generated_records seed frames
