-- The class of a frame whose headers have no options.
use Rattle.std.proofs.Common.{◌≡◌, ℕ, ◌+◌, ◌-◌, ◌*◌, ◌/◌, ◌%◌, ◌^◌, ◌<◌, ◌≤◌, Bool, true, false}
use Rattle.std.proofs.{Common.{if◌then◌else◌, ◌&&◌, nat_lt, List, [], ◌∷◌, length, take, drop, take_all, refl, ◌∙◌, arith}, lemmas.Bool.{le-ltb}}
use Rattle.std.specs.Prelude.{slice_range}
use Rattle.byteorder.specs.Endian.{big_number}
use Rattle.frame_headers.specs.declared.segment.Addr.{Addr, TheVariants.{V4}}
use Rattle.frame_headers.specs.FrameClass.{FrameClass, Tcp, class_of, packet_class, ipv4_class, tcp_class, half_at, byte_at}
use Rattle.cap_make.specs.{declared.piece.Piece.{Piece}, GeneratedCapture.{base, swapped, frame_of_piece, generated_payload, piece_of}, Carried.{segment_with}}
use Rattle.cap_make.proofs.Payload.{length-bytes_from, length-frame_of}

-- a TCP header of 20 bytes, and behind it payload up to the frame's end
plain_tcp : (frame : List ℕ) (src dst : Addr) (q : ℕ) → byte_at frame (q + 12) ≡ 80 → q + 20 ≤ length frame
    → tcp_class frame src dst q (length frame) ≡ Tcp (record {
      src = src;
      dst = dst;
      sport = half_at frame q;
      dport = half_at frame (q + 2);
      seq = big_number 4 (drop (q + 4) frame);
      flags = byte_at frame (q + 13);
      payload = slice_range frame (q + 20) (length frame);
    })
unfolding tcp_class
plain_tcp frame src dst q offset whole =
    let whole_frame = le-ltb (length frame) (length frame) (omega arith) in
    let header = le-ltb (length frame) (q + 20) whole in
    rw (offset, whole_frame, header)

-- an IPv4 header of 20 bytes behind that of Ethernet, around TCP up to the frame's end
plain_ipv4 : (frame : List ℕ) → byte_at frame 14 ≡ 69 → half_at frame 16 + 14 ≡ length frame → half_at frame 20 ≡ 16384 → byte_at frame 23 ≡ 6
    → 34 ≤ length frame
    → ipv4_class frame 14 ≡ tcp_class frame (V4 (slice_range frame 26 30)) (V4 (slice_range frame 30 34)) 34 (length frame)
unfolding ipv4_class
plain_ipv4 frame version total fragment protocol whole =
    let header = le-ltb (length frame) 34 whole in
    let least = le-ltb (half_at frame 16) 20 (omega arith) in
    let e : 14 + half_at frame 16 ≡ length frame = omega arith in
    rw (version, header, least, fragment, protocol, e)

-- Ethernet with the type of IPv4
plain_ethernet : (frame : List ℕ) → half_at frame 12 ≡ 0x0800 → 14 ≤ length frame → class_of frame ≡ ipv4_class frame 14
unfolding class_of packet_class
plain_ethernet frame type whole = let header = le-ltb (length frame) 14 whole in rw (header, type)

-- a number from its two bytes, and from its four, the highest first
half : (n : ℕ) → n < 65536 → n / 256 % 256 * 256 + (n % 256 * 1 + 0) ≡ n
half n small = omega arith

word : (n : ℕ) → n < 4294967296 → n / 16777216 % 256 * 16777216 + (n / 65536 % 256 * 65536 + (n / 256 % 256 * 256 + (n % 256 * 1 + 0))) ≡ n
word n small = omega arith

-- a segment from its parts
parts : ℕ → ℕ → ℕ → List ℕ → FrameClass
parts sport dport seq payload = Tcp (record {
  src = V4 (10 ∷ 0 ∷ 0 ∷ 1 ∷ []);
  dst = V4 (10 ∷ 0 ∷ 0 ∷ 2 ∷ []);
  sport = sport;
  dport = dport;
  seq = seq;
  flags = 24;
  payload = payload;
})

same_parts : {a a' b b' c c' : ℕ} {d d' : List ℕ} → a ≡ a' → b ≡ b' → c ≡ c' → d ≡ d' → parts a b c d ≡ parts a' b' c' d'
same_parts e f g h = cc

pub class_of-frame_of : (seed : ℕ) (piece : Piece) → piece.flow < 4 → piece.count ≤ 1100
    → class_of (frame_of_piece seed piece) ≡ Tcp (segment_with seed piece)
unfolding parts
class_of-frame_of seed piece flow count =
    let frame = frame_of_piece seed piece in
    let seq = (base + piece.first) % 2 ^ 32 in
    let long : length frame ≡ 54 + piece.count = length-frame_of seed piece in
    let total : half_at frame 16 ≡ 40 + piece.count = half (40 + piece.count) (omega arith) in
    let payload : take (length frame - 54) (generated_payload seed piece)
    ≡ generated_payload seed piece = take_all _ (generated_payload seed piece)
    (omega (arith, length-bytes_from (31 * piece.flow + seed) piece.first piece.count)) in
    plain_ethernet frame refl (omega arith)
    ∙ plain_ipv4 frame refl (omega arith) refl refl (omega arith)
    ∙ plain_tcp frame (V4 (slice_range frame 26 30)) (V4 (slice_range frame 30 34)) 34 refl (omega arith)
    ∙ same_parts (half (40000 + piece.flow) (omega arith)) (half (9000 + piece.flow) (omega arith)) (word seq (omega arith)) payload

pub few_flows : (k x : ℕ) → (piece_of k x).flow < 4
few_flows k x = omega arith

few_early : (early_bytes : Bool) → (if early_bytes then 100 else 0) ≤ 100
few_early true = omega arith
few_early false = omega arith

pub few_bytes : (k x : ℕ) → (piece_of k x).count ≤ 1100
few_bytes k x = omega (arith, few_early (nat_lt x 268435456 && nat_lt 0 (swapped (k / 4))))
