-- Loans are abandoned, and pieces given up, one by one.
use Rattle.std.proofs.Common.{◌++◌, sym, append-nil, append_assoc, ◌≡◌, ℕ, ◌+◌, ◌≤◌, List, [], ◌∷◌, length, refl, ap, ◌∙◌, arith, length-append}
use Rattle.board_face.specs.{AppEvents.{abandoned}, declared.views.app.{LentPiece.{LentPiece}, TakenNote.{TakenNote}, AppView.{AppView}}}
use Rattle.flow_queues.specs.{declared.queues.Lending.{Lending}, Core.{total, IsIn, LieApart, lent_piece}}
use Rattle.flow_queues.proofs.Tokens.{total-append, is-given, is_that_loan, that-loan, is-lent-there}
use Rattle.app_worker.specs.Letting.{OnlyTokens, Abandons}

-- ---- loans

pub tokens-none : (v : AppView) → LieApart v → OnlyTokens v v
tokens-none v lie = record { view = refl; apart = lie }

pub tokens-then : (u v w : AppView) → OnlyTokens u v → OnlyTokens v w → OnlyTokens u w
tokens-then u v w first second = record {
  view = second.view
      ∙ ap (λ (x : AppView). record x { helds = w.helds; loans = w.loans; returned = w.returned }) first.view;
  apart = second.apart;
}

-- some of these loans are abandoned, and others aren't yet
pub record AbandonsSome (old new : AppView) (all left : (LentPiece → ℕ) → ℕ) : Type 0 where
  pub only : OnlyTokens old new
  pub helds : new.helds ≡ old.helds
  pub loans : (f : LentPiece → ℕ) → total f new.loans + all f ≡ total f old.loans + left f
  pub returned : length new.returned + left (λ _. 1) ≡ length old.returned + all (λ _. 1)
  pub back : (f : LentPiece → ℕ) → total f new.returned + left f ≡ total f old.returned + all f
  pub behind : (more : List LentPiece) × (new.returned ≡ old.returned ++ more)

pub abandons-none : (v : AppView) → LieApart v → (all : (LentPiece → ℕ) → ℕ) → AbandonsSome v v all all
abandons-none v lie all = record
    { only = tokens-none v lie; helds = refl; loans = λ f. refl; returned = refl; back = λ f. refl; behind = ([], sym (append-nil v.returned)) }

pub abandons-one : (u v : AppView) (all left : (LentPiece → ℕ) → ℕ) (taken : List TakenNote) (l : Lending) → IsIn (lent_piece taken l) v.loans
    → AbandonsSome u v all (λ f. f (lent_piece taken l) + left f) → AbandonsSome u (abandoned v l.loan) all left
abandons-one u v all left taken l out some =
    let step = is-given v some.only.apart (lent_piece taken l) out in
    let lie : LieApart (abandoned v l.loan) = record { once = step.apart.once; some = step.apart.some } in
    let one_more : length (abandoned v l.loan).returned ≡ length v.returned + 1 = ap length step.returned
    ∙ length-append v.returned (lent_piece taken l ∷ []) in
    record {
      only = tokens-then u v (abandoned v l.loan) some.only (record { view = refl; apart = lie });
      helds = some.helds;
      loans = λ f. omega (arith, some.loans f, step.loans f);
      returned = omega (arith, some.returned, one_more);
      behind = (
        some.behind.0 ++ lent_piece taken l ∷ [],
        step.returned ∙ ap (λ ls. ls ++ lent_piece taken l ∷ []) some.behind.1
            ∙ append_assoc u.returned some.behind.0 (lent_piece taken l ∷ []),
      );
      back = λ f. omega (arith, some.back f, ap (total f) step.returned, total-append f v.returned (lent_piece taken l ∷ []));
    }

-- the first of them is out
pub first-lent : (u v : AppView) (all left : (LentPiece → ℕ) → ℕ) (taken : List TakenNote) (l : Lending)
    → ((f : LentPiece → ℕ) → all f ≤ total f u.loans)
    → AbandonsSome u v all (λ f. f (lent_piece taken l) + left f) → IsIn (lent_piece taken l) v.loans
first-lent u v all left taken l out some =
    let test : LentPiece → ℕ = is_that_loan (lent_piece taken l) in
    is-lent-there (lent_piece taken l) v.loans (omega (arith, that-loan (lent_piece taken l), some.loans test, out test))

pub abandons-all : (u v : AppView) (all : (LentPiece → ℕ) → ℕ) → AbandonsSome u v all (λ f. 0) → Abandons u v all
abandons-all u v all some = record {
  only = some.only;
  helds = some.helds;
  loans = λ f. omega (arith, some.loans f);
  returned = omega (arith, some.returned);
  back = λ f. omega (arith, some.back f);
  behind = some.behind;
}
