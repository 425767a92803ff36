-- One loan is out, and it goes.
use Rattle.std.{proofs.Common.{◌≡◌, zero, suc, List, [], ◌∷◌, length, map, refl, ap, arith}, specs.Prelude.{Contains}}
use Rattle.zr_kinds.specs.declared.place.Place.{Place}
use Rattle.board_face.specs.{AppCalls.{HasLoan}, AppEvents.{abandoned}, declared.views.app.{LentPiece.{LentPiece}, AppView.{AppView}}}
use Rattle.flow_queues.specs.Core.{LieApart, total}
use Rattle.zc_poll.{specs.{Standing.{Desk}, Steps.{IsItem}, declared.step.Lent.{Lent}}, proofs.{LoanGone.{gone-loans}, Views.{total-one}}}

-- where none was out, one is with the item
pub one-out : (st now : Desk) (v x : AppView) (lent : Lent) → IsItem st now v x lent → v.loans ≡ [] → length x.loans ≡ 1
one-out st now v x lent item none = omega (arith, item.lends (λ _. 1), total-one x.loans, ap (total (λ _. 1)) none)

-- it is this
is-only : (xs : List LentPiece) (loan : Place) → length xs ≡ 1 → Contains (map (λ (l : LentPiece). l.place) xs) loan
    → (piece : LentPiece) × (xs ≡ piece ∷ []) × (piece.place ≡ loan)
is-only [] loan one out = absurd (omega (arith, one))
is-only (x ∷ []) loan one (zero, below, is) = (x, refl, is)
is-only (x ∷ []) loan one (suc k, below, is) = absurd (omega (arith, below))
is-only (x ∷ y ∷ xs) loan one out = absurd (omega (arith, one))

-- and goes
pub none-left : (v : AppView) (loan : Place) → LieApart v → length v.loans ≡ 1 → HasLoan v loan → (abandoned v loan).loans ≡ []
none-left v loan apart one out =
    let (piece, is, place) = is-only v.loans loan one out in
    gone-loans v apart piece is loan place
