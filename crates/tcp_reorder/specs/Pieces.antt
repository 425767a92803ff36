-- The first piece and the map of a `RecvQueue` as a list of kept pieces.
use Rattle.std.specs.Prelude.{ℕ, List, ◌∷◌, map, Option, None, Some}
use Rattle.tcp_reorder.specs.{declared.piece.KeptPiece.{KeptPiece}, Queue.{Kept, Queue}}

abbrev pub kept_piece_of : {H : Type 0} → ℕ × KeptPiece H → Kept H
kept_piece_of entry = record { position = entry.0; len = entry.1.len; piece = entry.1.held }

abbrev pub all_kept : {H : Type 0} → List (ℕ × KeptPiece H) → List (Kept H)
all_kept entries = map kept_piece_of entries

-- the entries of the map, behind the piece at the first position that wasn't popped if there is one apart from them
abbrev pub with_first : {H : Type 0} → ℕ → Option (KeptPiece H) → List (ℕ × KeptPiece H) → List (ℕ × KeptPiece H)
with_first popped None entries = entries
with_first popped (Some piece) entries = (popped, piece) ∷ entries

abbrev pub queue_of : {H : Type 0} → ℕ → ℕ → Option (KeptPiece H) → List (ℕ × KeptPiece H) → Queue H
queue_of base popped first entries = record { base = base; popped = popped; kept = all_kept (with_first popped first entries) }
