-- What the map keeps behind the first piece.
use Rattle.std.proofs.{Common.{◌≡◌, ℕ, ◌+◌, ◌≤◌, List, ◌∷◌, Option, None, Some, refl, ap, arith}, lemmas.Bool.{le-ltb}}
use Rattle.tcp_reorder.specs.{declared.piece.KeptPiece.{KeptPiece}, Queue.{Kept, is_kept, next_of, with_kept, AreApart, EndWithin, IsSound}}
use Rattle.tcp_reorder.{specs.Pieces.{kept_piece_of, all_kept, with_first, queue_of}, proofs.{Positions.{covers-behind, AreApart-lower}, Least.{next_of-popped}}}
use Rattle.tcp_reorder.proofs.Sound.{first_ends}

module _ {H : Type 0} where
  -- where the first piece ends, or else where it would begin
  abbrev pub first_end : ℕ → Option (KeptPiece H) → ℕ
  first_end popped None = popped
  first_end popped (Some piece) = popped + piece.len

  pub first_end-low : (base popped : ℕ) (first : Option (KeptPiece H)) (entries : List (ℕ × KeptPiece H)) → IsSound (queue_of base popped first entries)
      → first_end popped first ≤ next_of (queue_of base popped first entries)
  first_end-low base popped None entries sound = next_of-popped (queue_of base popped None entries)
  first_end-low base popped (Some piece) entries sound =
      first_ends (queue_of base popped (Some piece) entries) (kept_piece_of (popped, piece)) (all_kept entries) sound refl refl

  -- behind the first piece the others keep what all keep
  pub rest_kept : (popped : ℕ) (first : Option (KeptPiece H)) (entries : List (ℕ × KeptPiece H)) (p : ℕ) → first_end popped first ≤ p
      → is_kept (all_kept (with_first popped first entries)) p ≡ is_kept (all_kept entries) p
  rest_kept popped None entries p behind = refl
  rest_kept popped (Some piece) entries p behind = rw (covers-behind (kept_piece_of (popped, piece)) p behind) refl

  pub rest_apart : (from popped : ℕ) (first : Option (KeptPiece H)) (entries : List (ℕ × KeptPiece H))
      → AreApart from (all_kept (with_first popped first entries)) → AreApart 0 (all_kept entries)
  rest_apart from popped None entries apart = AreApart-lower from 0 (all_kept entries) (omega arith) apart
  rest_apart from popped (Some piece) entries apart = AreApart-lower (popped + piece.len) 0 (all_kept entries) (omega arith) apart.3

  pub rest_within : (limit popped : ℕ) (first : Option (KeptPiece H)) (entries : List (ℕ × KeptPiece H))
      → EndWithin limit (all_kept (with_first popped first entries)) → EndWithin limit (all_kept entries)
  rest_within limit popped None entries within = within
  rest_within limit popped (Some piece) entries within = within.1

  -- a piece that isn't before the first one goes among the others
  pub rest_with_kept : (popped : ℕ) (first : Option (KeptPiece H)) (entries new : List (ℕ × KeptPiece H)) (one : Kept H) → popped ≤ one.position
      → all_kept new ≡ with_kept (all_kept entries) one
      → all_kept (with_first popped first new) ≡ with_kept (all_kept (with_first popped first entries)) one
  rest_with_kept popped None entries new one behind is = is
  rest_with_kept popped (Some piece) entries new one behind is =
      rw (le-ltb one.position popped behind) (ap (λ rest. kept_piece_of (popped, piece) ∷ rest) is)
