-- Each hand is that of its role's face.
use Rattle.std.specs.Prelude.{◌≡◌}
use Rattle.face_table.specs.{CardHand.{IsCardHand}, AppHand.{IsAppHand}}
use Rattle.board_runs.proofs.tables.face_rows.Given as goal

abbrev pub invariant-loop-row : goal.invariant-loop-row
invariant-loop-row g l = record {
  card : IsCardHand (g.N.NicFace.seen l.nic) l.card;
  app : IsAppHand (g.A.AppFace.seen l.seat) l.app;
  number : (g.A.AppFace.seen l.seat).app ≡ (g.A.AppFace.seen l.initial.seat).app;
  nic : g.N.NicFace.beside l.nic ≡ g.N.NicFace.beside l.initial.nic;
  seat : g.A.AppFace.beside l.seat ≡ g.A.AppFace.beside l.initial.seat;
}
