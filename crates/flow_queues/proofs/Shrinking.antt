-- Cutting and giving up make no bytes held.
use Rattle.std.proofs.Common.{ℕ, ◌≤◌, Option, Some, None, ap, arith}
use Rattle.board_face.specs.{AppEvents.{released}, declared.views.app.AppView.{AppView}}
use Rattle.flow_queues.specs.{declared.queues.NotePiece.{NotePiece}, Core.{total, IsIn, LieApart, held_piece, held_len}}
use Rattle.flow_queues.{specs.Pieces.{OnlyHelds, GaveFront, CutFirst, over_others}, proofs.Tokens.{is-released}}

pub shrink-gave : (v w : AppView) (piece : NotePiece) (n : ℕ) (result : NotePiece) → GaveFront v w piece n result
    → total held_len w.helds ≤ total held_len v.helds
shrink-gave v w piece n result gave = omega (arith, gave.only.moved held_len, ap (λ (p : NotePiece). p.held.len) gave.rest)

pub shrink-cut : (v w : AppView) (piece : NotePiece) (n : ℕ) (first : NotePiece) (others : Option NotePiece) → n ≤ piece.held.len
    → CutFirst v w piece n first others → total held_len w.helds ≤ total held_len v.helds
shrink-cut v w piece n first None within cut = omega (arith, cut.only.moved held_len, ap (λ (p : NotePiece). p.held.len) cut.front)
shrink-cut v w piece n first (Some rest) within cut = omega (
  arith,
  cut.only.moved held_len,
  ap (λ (p : NotePiece). p.held.len) cut.front,
  ap (λ (p : NotePiece). p.held.len) cut.rest.1,
)

pub shrink-released : (v : AppView) → LieApart v → (piece : NotePiece) → IsIn (held_piece piece) v.helds
    → total held_len (released v piece.held).helds ≤ total held_len v.helds
shrink-released v lie piece is = omega (arith, (is-released v lie (held_piece piece) is).moved held_len)

pub shrink-given : (v w : AppView) (others : Option NotePiece) → OnlyHelds v w (λ f. over_others f others) (λ f. 0)
    → total held_len w.helds ≤ total held_len v.helds
shrink-given v w others only = omega (arith, only.moved held_len)
