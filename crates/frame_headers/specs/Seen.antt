-- What was seen of a frame, as its class.
use Rattle.std.specs.Prelude.{Option, Some, None}
use Rattle.frame_headers.specs.{FrameClass.{TcpSegment, FrameClass, Tcp, Other, Fragment, CutShort, Bad}, declared.segment.{Segment.{Segment}, Seen.{Seen}}}
use Rattle.frame_headers.specs.declared.segment.Seen.TheVariants as seen

-- a segment as its values
abbrev pub shown : Segment → TcpSegment
shown s = record { src = s.src; dst = s.dst; sport = s.sport; dport = s.dport; seq = s.seq; flags = s.flags; payload = s.payload.now }

-- the class that was seen
abbrev pub class_seen : Seen → FrameClass
class_seen (seen.Tcp s) = Tcp (shown s)
class_seen seen.Other = Other
class_seen seen.Fragment = Fragment
class_seen seen.CutShort = CutShort
class_seen seen.Bad = Bad

-- the segment of a frame of this class
abbrev pub segment_of : FrameClass → Option TcpSegment
segment_of (Tcp s) = Some s
segment_of Other = None
segment_of Fragment = None
segment_of CutShort = None
segment_of Bad = None

-- the segment that was seen
abbrev pub segment_seen : Seen → Option TcpSegment
segment_seen (seen.Tcp s) = Some (shown s)
segment_seen seen.Other = None
segment_seen seen.Fragment = None
segment_seen seen.CutShort = None
segment_seen seen.Bad = None
