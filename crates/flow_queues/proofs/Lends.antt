-- What is next in a stream is lent.
use Rattle.std.proofs.Common.{◌≡◌, ℕ, ◌+◌, ◌≤◌, ap, subst, arith}
use Rattle.tcp_reorder.specs.{declared.places.Span.{Span}, Queue.{Kept, Queue}, Gaps.{LosesFirst}}
use Rattle.board_face.specs.{AppEvents.{came_to_rest}, declared.views.app.{HeldPiece.{HeldPiece}, AppView.{AppView}}}
use Rattle.flow_queues.specs.declared.queues.{NotePiece.{NotePiece}, Waiting.{Waiting, TheVariants.{InArea, Copied}}}
use Rattle.flow_queues.specs.{Core.{total, IsIn, LieApart, Each, held_piece, over_waiting, over_kept, short_len, short_bytes}, Pieces.{IsOut}}
use Rattle.flow_queues.proofs.Tokens.{is_that, that-one, is-there}

-- the first piece of a queue
pub total-first : (g : Waiting → ℕ) (old new : Queue Waiting) (piece : Waiting) (span : Span) → LosesFirst old new piece span
    → total (λ k. g k.piece) old.kept ≡ g piece + total (λ k. g k.piece) new.kept
total-first g old new piece span loses = ap (λ kept. total (λ (k : Kept Waiting). g k.piece) kept) loses.first

pub over-first : (f : HeldPiece → ℕ) (old new : Queue Waiting) (piece : Waiting) (span : Span) → LosesFirst old new piece span
    → over_kept f old ≡ over_waiting f piece + over_kept f new
over-first f old new piece span loses = total-first (over_waiting f) old new piece span loses

pub short-first : (old new : Queue Waiting) (piece : Waiting) (span : Span) → LosesFirst old new piece span
    → short_bytes old ≡ short_len piece + short_bytes new
short-first old new piece span loses = total-first short_len old new piece span loses

-- what is said of each is said of it, and of the others
pub each-first : (P : Waiting → Type 0) (old new : Queue Waiting) (piece : Waiting) (span : Span) → LosesFirst old new piece span
    → Each (λ k. P k.piece) old.kept → P piece × Each (λ k. P k.piece) new.kept
each-first P old new piece span loses each = subst (Each (λ k. P k.piece)) loses.first each

-- it is out
pub first-out : (v : AppView) (old new : Queue Waiting) (piece : NotePiece) (span : Span) → LosesFirst old new (InArea piece) span
    → ((f : HeldPiece → ℕ) → over_kept f old ≤ total f v.helds) → IsIn (held_piece piece) v.helds
first-out v old new piece span loses out =
    let test : HeldPiece → ℕ = is_that piece.held piece.note piece.at in
    let one : test (held_piece piece) ≡ 1 = that-one piece.held piece.note piece.at in
    is-there piece.held piece.note piece.at v.helds (omega (arith, out test, over-first test old new (InArea piece) span loses, one))

pub first-is-out : (v : AppView) (old new : Queue Waiting) (piece : Waiting) (span : Span) → LosesFirst old new piece span
    → ((f : HeldPiece → ℕ) → over_kept f old ≤ total f v.helds) → IsOut v piece
first-is-out v old new (InArea p) span loses out = first-out v old new p span loses out
first-is-out v old new (Copied s) span loses out = tt

pub rested : (v : AppView) → LieApart v → LieApart (came_to_rest v)
rested v lie = record { once = lie.once; some = lie.some }
