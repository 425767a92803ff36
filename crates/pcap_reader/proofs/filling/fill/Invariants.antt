-- What was filled so far is what was taken from the source.
use Rattle.std.{proofs.Common.{◌≡◌, ◌-◌, ◌≤◌, length, take}, specs.Io.KnownBytes.{Consumes}}
use Rattle.pcap_reader.proofs.filling.fill.Given as goal

abbrev pub invariant-loop-filled : goal.invariant-loop-filled
invariant-loop-filled g l = record {
  same_room : length l.into ≡ length l.initial.into;
  within : l.filled ≤ length l.into;
  taken : Consumes (g.S.Source.left l.initial.source) (g.S.Source.left l.source) (take l.filled l.into);
  still : g.S.Source.faults l.source ≡ g.S.Source.faults l.initial.source;
}

abbrev pub decreases-loop-filled : goal.decreases-loop-filled
decreases-loop-filled g l = length l.initial.into - l.filled
