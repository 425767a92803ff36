use Rattle.std.proofs.Common.{◌≡◌, ◌-◌, ◌≤◌, length}
use Rattle.face_table.specs.Reader.{ReadsOf}
use Rattle.face_table.proofs.reader.read_whole.Given as goal

abbrev pub invariant-loop-from : goal.invariant-loop-from
invariant-loop-from g l = record {
  reads : ReadsOf (g.F.AppFace.seen l.initial.face) (g.F.AppFace.seen l.face) l.loan l.from;
  within : l.from ≤ l.len;
  room : length l.bytes ≡ 256;
  beside : g.F.AppFace.beside l.face ≡ g.F.AppFace.beside l.initial.face;
}

abbrev pub decreases-loop-from : goal.decreases-loop-from
decreases-loop-from g l = l.len - l.from
