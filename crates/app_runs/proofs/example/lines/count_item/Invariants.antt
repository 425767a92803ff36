-- The stream stands, and the only loan is out.
use Rattle.std.specs.Prelude.{◌≡◌, length}
use Rattle.board_face.specs.AppCalls.{HasLoan}
use Rattle.zc_poll.specs.Standing.{StreamStands}
use Rattle.app_runs.proofs.example.lines.count_item.Given as goal

abbrev pub invariant-loop-at : goal.invariant-loop-at
invariant-loop-at g l = record {
  stands : StreamStands l.stream.desk (g.F.AppFace.seen l.stream.face);
  out : HasLoan (g.F.AppFace.seen l.stream.face) l.lent.loan;
  only : length (g.F.AppFace.seen l.stream.face).loans ≡ 1;
  same : (g.F.AppFace.seen l.stream.face).app ≡ (g.F.AppFace.seen l.fn.stream.face).app;
  beside : g.F.AppFace.beside l.stream.face ≡ g.F.AppFace.beside l.fn.stream.face;
}
