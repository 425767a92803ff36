-- The class of a frame: Ethernet with at most one VLAN tag, then IPv4 or IPv6, then TCP. In each definition
-- the first rule that applies decides. Numbers in headers are big-endian.
use Rattle.std.specs.Prelude.{ℕ, zero, suc, ◌+◌, ◌*◌, ◌/◌, ◌%◌, List, length, drop, slice_index, slice_range, nat_lt, ◌==◌, if◌then◌else◌, Bool, ◌||◌, not}
use Rattle.byteorder.specs.Endian.{big_number}
use Rattle.frame_headers.specs.declared.segment.Addr.{Addr, TheVariants.{V4, V6}}

-- what a TCP frame holds
pub record TcpSegment : Type 0 where
  pub src : Addr
  pub dst : Addr
  pub sport : ℕ
  pub dport : ℕ
  pub seq : ℕ
  pub flags : ℕ
  pub payload : List ℕ

pub data FrameClass : Type 0 where
  Tcp : TcpSegment → FrameClass
  Other : FrameClass
  Fragment : FrameClass
  CutShort : FrameClass
  Bad : FrameClass

-- the byte at place i
abbrev pub byte_at : List ℕ → ℕ → ℕ
byte_at frame i = slice_index frame i

-- the number in the two bytes from place i on
abbrev pub half_at : List ℕ → ℕ → ℕ
half_at frame i = big_number 2 (drop i frame)

-- TCP from q up to e (RFC 9293, 3.1): the data offset is the high half of byte 12, in words of 4 bytes
unfoldable pub tcp_class : List ℕ → Addr → Addr → ℕ → ℕ → FrameClass
tcp_class frame src dst q e =
    let header = 4 * (byte_at frame (q + 12) / 16) in
    if nat_lt (length frame) e then CutShort
    else if nat_lt e (q + 20) then Bad
    else if nat_lt header 20 then Bad
    else if nat_lt e (q + header) then Bad
    else Tcp (record {
      src = src;
      dst = dst;
      sport = half_at frame q;
      dport = half_at frame (q + 2);
      seq = big_number 4 (drop (q + 4) frame);
      flags = byte_at frame (q + 13);
      payload = slice_range frame (q + header) e;
    })

-- IPv4 at o (RFC 791, 3.1): the header's length is the low half of byte 0, in words of 4 bytes; the low 14 bits
-- of bytes 6 and 7 are the more-fragments bit and the fragment's offset
unfoldable pub ipv4_class : List ℕ → ℕ → FrameClass
ipv4_class frame o =
    let header = 4 * (byte_at frame o % 16) in
    let total = half_at frame (o + 2) in
    if nat_lt (length frame) (o + 20) then CutShort
    else if not (byte_at frame o / 16 == 4) then Bad
    else if nat_lt header 20 then Bad
    else if nat_lt total header then Bad
    else if not (half_at frame (o + 6) % 16384 == 0) then Fragment
    else if not (byte_at frame (o + 9) == 6) then Other
    else tcp_class frame (V4 (slice_range frame (o + 12) (o + 16))) (V4 (slice_range frame (o + 16) (o + 20))) (o + header) (o + total)

-- hop-by-hop options, routing, destination options
abbrev pub is_extension : ℕ → Bool
is_extension next = (next == 0) || (next == 43) || (next == 60)

-- What stands at q of an IPv6 packet that ends at e, where the header before says `next` (RFC 8200, 4). An extension
-- header has at least 8 bytes, so the first number, of steps, can't run out before the packet does.
unfoldable pub ipv6_from : ℕ → List ℕ → Addr → Addr → ℕ → ℕ → ℕ → FrameClass
ipv6_from zero frame src dst next q e = Bad
ipv6_from (suc steps) frame src dst next q e =
    let header = 8 * (byte_at frame (q + 1) + 1) in
    if is_extension next then (
    if nat_lt e (q + 8) then Bad
    else if nat_lt (length frame) (q + 2) then CutShort
    else if nat_lt e (q + header) then Bad
    else ipv6_from steps frame src dst (byte_at frame q) (q + header) e)
    else if next == 44 then Fragment
    else if not (next == 6) then Other
    else tcp_class frame src dst q e

-- IPv6 at o (RFC 8200, 3)
unfoldable pub ipv6_class : List ℕ → ℕ → FrameClass
ipv6_class frame o =
    let payload = half_at frame (o + 4) in
    if nat_lt (length frame) (o + 40) then CutShort
    else if not (byte_at frame o / 16 == 6) then Bad
    else ipv6_from (suc (payload / 8)) frame (V6 (slice_range frame (o + 8) (o + 24))) (V6 (slice_range frame (o + 24) (o + 40))) (byte_at frame (o + 6))
    (o + 40) (o + 40 + payload)

-- the packet at o, by its Ethernet type
unfoldable pub packet_class : List ℕ → ℕ → ℕ → FrameClass
packet_class frame ether_type o =
    if ether_type == 0x0800 then ipv4_class frame o
    else if ether_type == 0x86dd then ipv6_class frame o
    else Other

-- Ethernet, and behind the type 0x8100 one VLAN tag (IEEE 802.1Q)
unfoldable pub class_of : List ℕ → FrameClass
class_of frame =
    if nat_lt (length frame) 14 then CutShort
    else if half_at frame 12 == 0x8100 then (
    if nat_lt (length frame) 18 then CutShort
    else packet_class frame (half_at frame 16) 18)
    else packet_class frame (half_at frame 12) 14
