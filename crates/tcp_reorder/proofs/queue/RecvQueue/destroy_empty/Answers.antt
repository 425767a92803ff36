use Rattle.std.proofs.Common.{◌≡◌, ℕ, List, [], ◌∷◌, Option, None, Some, refl, ap, ◌∙◌}
use Rattle.tcp_reorder.specs.{declared.piece.KeptPiece.{KeptPiece}, Queue.{Queue}, Pieces.{all_kept, with_first}}
use Rattle.tcp_reorder.proofs.queue.RecvQueue.destroy_empty.Goals as goal

no_entries : {H : Type 0} (popped : ℕ) (first : Option (KeptPiece H)) (es : List (ℕ × KeptPiece H)) → all_kept (with_first popped first es) ≡ []
    → (first ≡ None) × (es ≡ [])
no_entries popped None [] none = (refl, refl)
no_entries popped None (e ∷ es) none = cc
no_entries popped (Some piece) es none = cc

pub destroy_empty-requires : goal.destroy_empty-requires
destroy_empty-requires g c =
    (no_entries c.self.inside.popped c.self.inside.first c.self.inside.pieces.entries
    (ap (λ (queue : Queue g.row.H.Denot). queue.kept) c.self.view_is ∙ c.requires)).1
