use Rattle.std.proofs.Common.{◌≡◌, ◌+◌, length}
use Rattle.board_face.specs.AppCalls.{IsHere, CanLend}
use Rattle.face_table.specs.Reader.{HasNothing, Serves}
use Rattle.face_table.proofs.reader.serve.Given as goal

abbrev pub invariant-loop : goal.invariant-loop
invariant-loop g l = record {
  here : IsHere (g.F.AppFace.seen l.face);
  can : CanLend (g.F.AppFace.seen l.face);
  nothing : HasNothing (g.F.AppFace.seen l.face);
  serves : Serves (g.F.AppFace.seen l.initial.face) (g.F.AppFace.seen l.face);
  many : length (g.F.AppFace.seen l.face).taken ≡ length (g.F.AppFace.seen l.initial.face).taken + l.counter;
  beside : g.F.AppFace.beside l.face ≡ g.F.AppFace.beside l.initial.face;
}
