use Rattle.std.proofs.Common.{◌≡◌, length, None}
use Rattle.board_face.specs.NicCalls.{IsOpen}
use Rattle.page_pool.specs.Pool.{PoolStands, OnlySends}
use Rattle.page_pool.proofs.flush.nic_flush.Given as goal

abbrev pub invariant-loop-pending : goal.invariant-loop-pending
invariant-loop-pending g l = record {
  open_still : IsOpen (g.F.NicFace.seen l.face);
  none : l.pool-inside.short ≡ None;
  stands : PoolStands (record {
    split = l.pool-inside.split;
    current = l.pool-inside.current;
    short = l.pool-inside.short;
    pieces = l.pool-inside.pieces;
    stats = l.pool-inside.stats;
    ahead = l.pool-inside.ahead;
  }) (g.F.NicFace.seen l.face);
  sends : OnlySends l.fn.pool (record {
    split = l.pool-inside.split;
    current = l.pool-inside.current;
    short = l.pool-inside.short;
    pieces = l.pool-inside.pieces;
    stats = l.pool-inside.stats;
    ahead = l.pool-inside.ahead;
  }) (g.F.NicFace.seen l.fn.face) (g.F.NicFace.seen l.face);
  beside : g.F.NicFace.beside l.face ≡ g.F.NicFace.beside l.fn.face;
}

abbrev pub decreases-loop-pending : goal.decreases-loop-pending
decreases-loop-pending g l = length l.pool-inside.pieces
