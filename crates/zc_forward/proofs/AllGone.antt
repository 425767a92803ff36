-- Forwarding was stopped by its user: each loan that was out was given up.
use Rattle.std.proofs.Common.{◌≡◌, ℕ, List, [], ◌∷◌, ◌++◌, length, Option, Some, None, refl, sym, ap, ◌∙◌, arith, ⊎_elim, ◌⊎◌, inl, inr, length-append, append_assoc, append-nil}
use Rattle.std.specs.Prelude.{IfSome}
use Rattle.zr_kinds.specs.declared.place.Place.{Place}
use Rattle.board_face.specs.{AppCalls.{HasLoan}, declared.views.app.{LentPiece.{LentPiece}, AppView.{AppView}}}
use Rattle.flow_queues.{specs.Core.{total, IsIn, LieApart}, proofs.Tokens.{total-append, in-left, in-right}}
use Rattle.zc_poll.{specs.Stops.{without_loan}, proofs.{Stopping.{AllGone}, Views.{total-one}}}
use Rattle.zc_forward.specs.{Sending.{AreLoans, OutboxState, of_one, of_sent}, GivenUp.{GaveUp}, Turns.{with_due}}
use Rattle.zc_forward.proofs.{Live.{has-out, one-given-up, went-places}, Forwards.{due-out}, Ends.{aside-out}}

pub gave-none : (v : AppView) → GaveUp v v
gave-none v = record {
  view = refl;
  gone = [];
  returned = sym (append-nil v.returned);
  sums = λ f. omega arith;
  each = λ l there. in-left l v.loans [] there;
}

pub gave-then : (u v w : AppView) → GaveUp u v → GaveUp v w → GaveUp u w
gave-then u v w first second = record {
  view = second.view ∙ ap (λ (k : AppView). record k { loans = w.loans; returned = w.returned }) first.view;
  gone = first.gone ++ second.gone;
  returned = second.returned ∙ ap (λ rs. rs ++ second.gone) first.returned ∙ append_assoc u.returned first.gone second.gone;
  sums = λ f. omega (arith, total-append f first.gone second.gone, first.sums f, second.sums f);
  each = λ l there. ⊎_elim
      (λ (still : IsIn l v.loans). ⊎_elim
      (λ (on : IsIn l w.loans). in-left l w.loans (first.gone ++ second.gone) on)
      (λ (off : IsIn l second.gone). in-right l w.loans (first.gone ++ second.gone) (in-right l first.gone second.gone off))
      (parts l w.loans second.gone (second.each l still)))
      (λ (before : IsIn l first.gone). in-right l w.loans (first.gone ++ second.gone) (in-left l first.gone second.gone before))
      (parts l v.loans first.gone (first.each l there));
}
  where
    parts : (x : LentPiece) (xs ys : List LentPiece) → IsIn x (xs ++ ys) → IsIn x xs ⊎ IsIn x ys
    parts x [] ys there = inr there
    parts x (y ∷ xs) ys (inl e) = inl (inl e)
    parts x (y ∷ xs) ys (inr there) = ⊎_elim (λ (one : IsIn x xs). inl (inr one)) (λ (two : IsIn x ys). inr two) (parts x xs ys there)

module _ (w : OutboxState) (v : AppView) (are : AreLoans w v.loans) where
  -- the loan that is due
  pub has-due : (due : Option Place) → w.tally.due ≡ due → IfSome due (λ loan. HasLoan v loan)
  has-due None is = tt
  has-due (Some loan) is = has-out v loan (due-out w v.loans loan are is)

  module _ (apart : LieApart v) where
    pub gave-due : (due : Option Place) → w.tally.due ≡ due → GaveUp v (without_loan due v)
    gave-due None is = gave-none v
    gave-due (Some loan) is = one-given-up v v (gave-none v) apart loan (due-out w v.loans loan are is)

    pub left-due : (due : Option Place) → w.tally.due ≡ due → AreLoans (with_due w None) (without_loan due v).loans
    left-due None is = λ f. (let none : of_one f w.tally.due ≡ 0 = ap (of_one f) is in omega (arith, are f, none))
    left-due (Some loan) is = λ f.
        let one : of_one f w.tally.due ≡ f loan = ap (of_one f) is in
        omega (arith, are f, one, went-places v apart loan (due-out w v.loans loan are is) f)

    -- the loan that wasn't carried
    pub gave-aside : (aside : Option Place) → w.uncarried ≡ aside → GaveUp v (without_loan aside v)
    gave-aside None is = gave-none v
    gave-aside (Some loan) is = one-given-up v v (gave-none v) apart loan (aside-out w v.loans loan are is)

    pub left-aside : w.tally.due ≡ None → (aside : Option Place) → w.uncarried ≡ aside
        → (f : Place → ℕ) → total (λ (l : LentPiece). f l.place) (without_loan aside v).loans ≡ of_sent f w.out
    left-aside due None is f =
        let none : of_one f w.tally.due ≡ 0 = ap (of_one f) due in
        let aside : of_one f w.uncarried ≡ 0 = ap (of_one f) is in
        omega (arith, are f, none, aside)
    left-aside due (Some loan) is f =
        let none : of_one f w.tally.due ≡ 0 = ap (of_one f) due in
        let aside : of_one f w.uncarried ≡ f loan = ap (of_one f) is in
        omega (arith, are f, none, aside, went-places v apart loan (aside-out w v.loans loan are is) f)

-- all went, and the pieces too
pub all-gone : (v y z : AppView) → GaveUp v y → z ≡ record y { helds = [] } → z.loans ≡ [] → AllGone v z
all-gone v y z up view none =
    let left : y.loans ≡ [] = sym (ap (λ (k : AppView). k.loans) view) ∙ none in
    record {
      loans = none;
      many = omega (
        arith,
        ap (λ (k : AppView). length k.returned) view,
        ap length up.returned,
        length-append v.returned up.gone,
        up.sums (λ _. 1),
        ap (total (λ _. 1)) left,
        total-one v.loans,
        total-one up.gone,
      );
      taken = ap (λ (k : AppView). k.taken) view ∙ ap (λ (k : AppView). k.taken) up.view;
      reads = ap (λ (k : AppView). k.reads) view ∙ ap (λ (k : AppView). k.reads) up.view;
      spares = ap (λ (k : AppView). k.spares) view ∙ ap (λ (k : AppView). k.spares) up.view;
    }
