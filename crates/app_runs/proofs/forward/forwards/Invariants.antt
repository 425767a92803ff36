-- The desk is as it was, the seats are at its board, and forwarding stands between two turns.
use Rattle.std.specs.Prelude.{◌≡◌, ℕ, List, Option}
use Rattle.zc_forward.specs.Forwarding.{ForwardStands}
use Rattle.app_runs.proofs.forward.forwards.Given as goal
use Rattle.zr_io.specs.Moved.{ShelfCounts}

abbrev pub invariant-loop-turn : goal.invariant-loop-turn
invariant-loop-turn g l = record {
  desk : l.desk ≡ l.initial.desk;
  at : l.card.nic.board ≡ l.desk.board;
  beside : l.work.face.board ≡ l.desk.board;
  number : l.work.face.side.view.app ≡ 0;
  stands : (first : ℕ → Option (List ℕ)) × (losses : ShelfCounts)
      × ForwardStands first losses l.work.work l.work.desk (g.C.Carrier.tags l.work.carrier) (g.C.Carrier.got l.work.carrier)
      (g.C.Carrier.counts l.work.carrier) l.work.face.side.view;
}
