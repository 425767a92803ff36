-- The store of pending pieces has a note in each place.
use Rattle.std.proofs.{Common.{◌≡◌, List, [], ◌∷◌, ◌++◌, length, refl, ap, arith, Option, Some, None, IsSome}, lemmas.List.Elements.{All-head, All-tail}}
use Rattle.page_pool.specs.{declared.pool.Pending.{Pending}, Pieces.{pending_of, AreThere}}

not-some : IsSome {T = Pending} None → ⊥
not-some some = grind arith

pub pending_of-length : (items : List (Option Pending)) → AreThere items → length (pending_of items) ≡ length items
pending_of-length [] all = refl
pending_of-length (None ∷ items) all = absurd (not-some (All-head (λ p. IsSome p) None items all))
pending_of-length (Some p ∷ items) all = grind (arith, pending_of-length items (All-tail (λ p. IsSome p) (Some p) items all))

pub pending_of-push : (items : List (Option Pending)) (p : Pending) → pending_of (items ++ Some p ∷ []) ≡ pending_of items ++ p ∷ []
pending_of-push [] p = refl
pending_of-push (None ∷ items) p = pending_of-push items p
pending_of-push (Some q ∷ items) p = ap (λ ps. q ∷ ps) (pending_of-push items p)
