-- The definition of a frame's class at frames whose class was worked out by hand: one segment that carries "hello",
-- and the same with a change that each rule decides.
use Rattle.std.{specs.Prelude.{◌≡◌, ℕ, ◌+◌, List, [], ◌∷◌, ◌++◌, take, drop, replicate, codes}, proofs.Common.{refl}}
use Rattle.frame_headers.specs.declared.segment.Addr.{Addr, TheVariants.{V4, V6}}
use Rattle.frame_headers.specs.FrameClass.{FrameClass, Tcp, Other, Fragment, CutShort, Bad, class_of, packet_class, ipv4_class, ipv6_class, ipv6_from, tcp_class}

-- Ethernet's two addresses
abbrev stations : List ℕ
stations = 0x02 ∷ 0 ∷ 0 ∷ 0 ∷ 0 ∷ 0x02 ∷ 0x02 ∷ 0 ∷ 0 ∷ 0 ∷ 0 ∷ 0x01 ∷ []

-- an IPv4 header without options: 45 bytes in all, not to be fragmented, TCP, from 10.0.0.1 to 10.0.0.2
abbrev ipv4 : List ℕ
ipv4 = 0x45 ∷ 0 ∷ 0 ∷ 0x2d ∷ 0 ∷ 0 ∷ 0x40 ∷ 0 ∷ 0x40 ∷ 0x06 ∷ 0 ∷ 0 ∷ 0x0a ∷ 0 ∷ 0 ∷ 0x01 ∷ 0x0a ∷ 0 ∷ 0 ∷ 0x02 ∷ []

-- the address 2001:db8::n of IPv6
abbrev ipv6_address : ℕ → List ℕ
ipv6_address n = 0x20 ∷ 0x01 ∷ 0x0d ∷ 0xb8 ∷ replicate 11 0 ++ n ∷ []

-- an IPv6 header, by the length of what follows and the number of the next header
abbrev ipv6 : ℕ → ℕ → List ℕ
ipv6 payload next = (0x60 ∷ 0 ∷ 0 ∷ 0 ∷ 0 ∷ payload ∷ next ∷ 0x40 ∷ []) ++ ipv6_address 1 ++ ipv6_address 2

-- a TCP header without options, from port 40000 to 9000, and its payload
abbrev tcp : List ℕ
tcp = (0x9c ∷ 0x40 ∷ 0x23 ∷ 0x28 ∷ 0 ∷ 0 ∷ 0x03 ∷ 0xe9 ∷ 0 ∷ 0 ∷ 0 ∷ 0 ∷ 0x50 ∷ 0x18 ∷ 0xff ∷ 0xff ∷ 0 ∷ 0 ∷ 0 ∷ 0 ∷ [])
    ++ codes "hello"

abbrev base : List ℕ
base = stations ++ 0x08 ∷ 0 ∷ ipv4 ++ tcp

-- the base frame with other bytes at a place and at the next
abbrev with_pair : ℕ → ℕ → ℕ → List ℕ
with_pair at first second = take at base ++ first ∷ second ∷ drop (at + 2) base

-- the class of such a segment with this payload
abbrev segment : Addr → Addr → List ℕ → FrameClass
segment src dst payload = Tcp (record { src = src; dst = dst; sport = 40000; dport = 9000; seq = 1001; flags = 24; payload = payload })

abbrev over_ipv4 : List ℕ → FrameClass
over_ipv4 = segment (V4 (10 ∷ 0 ∷ 0 ∷ 1 ∷ [])) (V4 (10 ∷ 0 ∷ 0 ∷ 2 ∷ []))

abbrev over_ipv6 : List ℕ → FrameClass
over_ipv6 = segment (V6 (ipv6_address 1)) (V6 (ipv6_address 2))

class_of-base : class_of base ≡ over_ipv4 (codes "hello")
unfolding class_of packet_class ipv4_class ipv6_class ipv6_from tcp_class
class_of-base = refl

-- bytes behind the packet are padding; of a packet that ends too soon nothing is said
class_of-other_lengths :
    (class_of (base ++ replicate 4 0) ≡ over_ipv4 (codes "hello"))
    × (class_of (take 58 base) ≡ CutShort)
    × (class_of (take 13 base) ≡ CutShort)
    × (class_of [] ≡ CutShort)
unfolding class_of packet_class ipv4_class ipv6_class ipv6_from tcp_class
class_of-other_lengths = (refl, refl, refl, refl)

-- one tag is passed over
class_of-tagged :
    (class_of (stations ++ 0x81 ∷ 0 ∷ 0 ∷ 5 ∷ drop 12 base) ≡ over_ipv4 (codes "hello"))
    × (class_of (stations ++ 0x81 ∷ 0 ∷ 0 ∷ 5 ∷ 0x81 ∷ 0 ∷ 0 ∷ 5 ∷ drop 12 base) ≡ Other)
    × (class_of (stations ++ 0x81 ∷ 0 ∷ 0 ∷ []) ≡ CutShort)
    × (class_of (with_pair 12 0x08 0x06) ≡ Other)
unfolding class_of packet_class ipv4_class ipv6_class ipv6_from tcp_class
class_of-tagged = (refl, refl, refl, refl)

-- version 5; a header of 16 bytes; total lengths 0, 19, 39 and 40
class_of-ipv4_lengths :
    (class_of (with_pair 14 0x55 0) ≡ Bad)
    × (class_of (with_pair 14 0x44 0) ≡ Bad)
    × (class_of (with_pair 16 0 0) ≡ Bad)
    × (class_of (with_pair 16 0 0x13) ≡ Bad)
    × (class_of (with_pair 16 0 0x27) ≡ Bad)
    × (class_of (with_pair 16 0 0x28) ≡ over_ipv4 [])
unfolding class_of packet_class ipv4_class ipv6_class ipv6_from tcp_class
class_of-ipv4_lengths = (refl, refl, refl, refl, refl, refl)

-- more fragments; the offset 1; UDP
class_of-ipv4_kinds :
    (class_of (with_pair 20 0x20 0) ≡ Fragment)
    × (class_of (with_pair 20 0 0x01) ≡ Fragment)
    × (class_of (with_pair 23 0x11 0) ≡ Other)
unfolding class_of packet_class ipv4_class ipv6_class ipv6_from tcp_class
class_of-ipv4_kinds = (refl, refl, refl)

-- data offsets of 16, 24 and 28 bytes in a segment of 25
class_of-data_offsets :
    (class_of (with_pair 46 0x40 0x18) ≡ Bad)
    × (class_of (with_pair 46 0x60 0x18) ≡ over_ipv4 (codes "o"))
    × (class_of (with_pair 46 0x70 0x18) ≡ Bad)
unfolding class_of packet_class ipv4_class ipv6_class ipv6_from tcp_class
class_of-data_offsets = (refl, refl, refl)

-- an IPv4 header with 4 bytes of options
class_of-options :
    class_of (stations ++ 0x08 ∷ 0 ∷ 0x46 ∷ 0 ∷ 0 ∷ 0x31 ∷ drop 4 ipv4 ++ replicate 4 1 ++ tcp) ≡ over_ipv4 (codes "hello")
unfolding class_of packet_class ipv4_class ipv6_class ipv6_from tcp_class
class_of-options = refl

-- the frame of an IPv6 packet
abbrev ipv6_frame : ℕ → ℕ → List ℕ → List ℕ
ipv6_frame payload next rest = stations ++ 0x86 ∷ 0xdd ∷ ipv6 payload next ++ rest

-- TCP, a fragment, UDP, a packet that ends too soon, a header that does, and version 4
class_of-ipv6 :
    (class_of (ipv6_frame 25 6 tcp) ≡ over_ipv6 (codes "hello"))
    × (class_of (ipv6_frame 25 44 tcp) ≡ Fragment)
    × (class_of (ipv6_frame 25 17 tcp) ≡ Other)
    × (class_of (ipv6_frame 26 6 tcp) ≡ CutShort)
    × (class_of (take 53 (ipv6_frame 25 6 tcp)) ≡ CutShort)
    × (class_of (stations ++ 0x86 ∷ 0xdd ∷ 0x45 ∷ drop 1 (ipv6 25 6) ++ tcp) ≡ Bad)
unfolding class_of packet_class ipv4_class ipv6_class ipv6_from tcp_class
class_of-ipv6 = (refl, refl, refl, refl, refl, refl)

-- an extension header, by the next header and its own length: in units of 8 bytes, of which the first isn't counted
abbrev extension : ℕ → ℕ → List ℕ
extension next len = next ∷ len ∷ replicate 6 0

-- options and a routing header are passed over; a header that passes the packet's end; one of whose two first bytes
-- the second wasn't captured
class_of-extensions :
    (class_of (ipv6_frame 41 0 (extension 43 0 ++ extension 6 0 ++ tcp)) ≡ over_ipv6 (codes "hello"))
    × (class_of (ipv6_frame 41 60 (extension 6 1 ++ replicate 8 0 ++ tcp)) ≡ over_ipv6 (codes "hello"))
    × (class_of (ipv6_frame 33 0 (extension 44 0 ++ tcp)) ≡ Fragment)
    × (class_of (ipv6_frame 8 0 (extension 60 0)) ≡ Bad)
    × (class_of (ipv6_frame 7 0 (extension 6 0)) ≡ Bad)
    × (class_of (ipv6_frame 33 0 (extension 6 4 ++ tcp)) ≡ Bad)
    × (class_of (ipv6_frame 33 0 (6 ∷ [])) ≡ CutShort)
unfolding class_of packet_class ipv4_class ipv6_class ipv6_from tcp_class
class_of-extensions = (refl, refl, refl, refl, refl, refl, refl)
