-- The loans that are kept are out, and go.
use Rattle.std.proofs.Common.{◌≡◌, ℕ, zero, suc, ◌+◌, ◌<◌, true, false, if◌then◌else◌, List, [], ◌∷◌, ◌++◌, length, map, refl, sym, ap, subst, ◌∙◌, arith, ⊎_elim, ◌⊎◌, inl, inr, length-append, append_assoc}
use Rattle.std.{specs.Prelude.{Contains}, proofs.lemmas.Bool.{cases_Bool}}
use Rattle.zr_kinds.specs.declared.place.Place.{Place}
use Rattle.board_face.specs.{Lists.{same_place}, AppCalls.{HasLoan}, AppEvents.{abandoned, gave, entry_of}, declared.views.app.LentPiece.{LentPiece}}
use Rattle.board_face.{specs.declared.views.app.{WrittenEntry.{WrittenEntry}, AppView.{AppView}}, proofs.ListLemmas.{same_place-refl, same_place-is}}
use Rattle.flow_queues.specs.{Core.{total, IsIn, LieApart}, Totals.{lent_len, loan_entries}}
use Rattle.flow_queues.proofs.Tokens.{total-append, in-left, in-right, in-contains, in-without, is-given, loan-some}
use Rattle.zc_poll.proofs.Views.{total-one}
use Rattle.zc_forward.specs.{declared.sent.Sent.{Sent}, Sending.{of_sent}, GivenUp.{GaveUp}}

-- ---- a loan that is kept is out

abbrev pub at_place : Place → Place → ℕ
at_place p q = if same_place p q then 1 else 0

pub at-itself : (p : Place) → at_place p p ≡ 1
at-itself p = rw (same_place-refl p) refl

pub record IsOut (place : Place) (loans : List LentPiece) : Type 0 where
  pub piece : LentPiece
  pub there : IsIn piece loans
  pub at : piece.place ≡ place

pub counted-out : (place : Place) (loans : List LentPiece) → 0 < total (λ (l : LentPiece). at_place place l.place) loans → IsOut place loans
counted-out place [] some = absurd (omega (arith, some))
counted-out place (l ∷ loans) some = ⊎_elim
    (λ (is : same_place place l.place ≡ true). record { piece = l; there = inl refl; at = same_place-is place l.place is })
    (λ (no : same_place place l.place ≡ false).
    let rest = counted-out place loans (omega (arith, rw no at some)) in
    record { piece = rest.piece; there = inr rest.there; at = rest.at })
    (cases_Bool (same_place place l.place))

pub has-out : (v : AppView) (place : Place) → IsOut place v.loans → HasLoan v place
has-out v place out = subst (Contains (map (λ (l : LentPiece). l.place) v.loans)) out.at (in-contains (λ (l : LentPiece). l.place) out.piece v.loans out.there)

pub out-has : (place : Place) (loans : List LentPiece) → Contains (map (λ (l : LentPiece). l.place) loans) place → IsOut place loans
out-has place [] (k, below, is) = absurd (omega (arith, below))
out-has place (l ∷ loans) (zero, below, is) = record { piece = l; there = inl refl; at = is }
out-has place (l ∷ loans) (suc k, below, is) =
    let rest = out-has place loans (k, omega (arith, below), is) in
    record { piece = rest.piece; there = inr rest.there; at = rest.at }

-- ---- it goes

-- the loan at a place went
pub record LoanWent (v : AppView) (loan : Place) : Type 0 where
  pub piece : LentPiece
  pub at : piece.place ≡ loan
  pub loans : (f : LentPiece → ℕ) → total f (abandoned v loan).loans + f piece ≡ total f v.loans
  pub returned : (abandoned v loan).returned ≡ v.returned ++ piece ∷ []

module _ (v : AppView) (apart : LieApart v) (loan : Place) (out : IsOut loan v.loans) where
  pub went : LoanWent v loan
  went =
      let given = is-given v apart out.piece out.there in
      subst (LoanWent v) out.at (record { piece = out.piece; at = refl; loans = given.loans; returned = given.returned })

  pub went-places : (f : Place → ℕ) → total (λ (l : LentPiece). f l.place) (abandoned v loan).loans + f loan ≡ total (λ (l : LentPiece). f l.place) v.loans
  went-places f = let same : f went.piece.place ≡ f loan = ap f went.at in omega (arith, same, went.loans (λ (l : LentPiece). f l.place))

  returned-more : length (abandoned v loan).returned ≡ length v.returned + 1
  returned-more = ap length went.returned ∙ length-append v.returned (went.piece ∷ [])

  pub went-many : length (abandoned v loan).loans + length (abandoned v loan).returned ≡ length v.loans + length v.returned
  went-many = omega (arith, returned-more, went.loans (λ _. 1), total-one (abandoned v loan).loans, total-one v.loans)

  pub went-lent : total lent_len (abandoned v loan).loans + total lent_len (abandoned v loan).returned ≡ total lent_len v.loans + total lent_len v.returned
  went-lent = omega (arith, ap (total lent_len) went.returned, total-append lent_len v.returned (went.piece ∷ []), went.loans lent_len)

  -- by an entry of its own
  pub gave-entry : loan_entries (gave v loan) ≡ loan_entries v + 1
  gave-entry = total-append (λ (e : WrittenEntry). if e.of_loan then 1 else 0) v.written (record { entry = entry_of v.setting.layout loan; of_loan = true } ∷ [])

  pub gave-returned : length (gave v loan).returned ≡ length v.returned + 1
  gave-returned = returned-more

  -- another loan is out still, and the one at the place was returned
  pub out-or-gone : (l : LentPiece) → IsIn l v.loans
      → IsIn l (abandoned v loan).loans ⊎ ((abandoned v loan).returned ≡ v.returned ++ l ∷ [])
  out-or-gone l there = ⊎_elim
      (λ (is : same_place loan l.place ≡ true).
      let same : l.place ≡ loan = same_place-is loan l.place is in
      inr (subst (λ (p : Place). (abandoned v p).returned ≡ v.returned ++ l ∷ []) same (is-given v apart l there).returned))
      (λ (no : same_place loan l.place ≡ false). inl (in-without (λ (x : LentPiece). same_place loan x.place) l v.loans there no))
      (cases_Bool (same_place loan l.place))

-- ---- loans are given up

in-parts : {A : Type 0} (x : A) (xs ys : List A) → IsIn x (xs ++ ys) → IsIn x xs ⊎ IsIn x ys
in-parts x [] ys there = inr there
in-parts x (y ∷ xs) ys (inl e) = inl (inl e)
in-parts x (y ∷ xs) ys (inr there) = ⊎_elim (λ (one : IsIn x xs). inl (inr one)) (λ (two : IsIn x ys). inr two) (in-parts x xs ys there)

same-last : (rs : List LentPiece) (a b : LentPiece) → rs ++ a ∷ [] ≡ rs ++ b ∷ [] → a ≡ b
same-last [] a b e = cc
same-last (r ∷ rs) a b e = same-last rs a b (let rest : rs ++ a ∷ [] ≡ rs ++ b ∷ [] = cc in rest)

pub one-given-up : (u v : AppView) → GaveUp u v → LieApart v → (loan : Place) → IsOut loan v.loans → GaveUp u (abandoned v loan)
one-given-up u v up apart loan out =
    let gone = went v apart loan out in
    let later : List LentPiece = up.gone ++ gone.piece ∷ [] in
    record {
      view = ap (λ (k : AppView). record k { loans = (abandoned v loan).loans; returned = (abandoned v loan).returned }) up.view;
      gone = later;
      returned = gone.returned ∙ ap (λ rs. rs ++ gone.piece ∷ []) up.returned ∙ append_assoc u.returned up.gone (gone.piece ∷ []);
      sums = λ f. omega (arith, total-append f up.gone (gone.piece ∷ []), gone.loans f, up.sums f);
      each = λ l there. ⊎_elim
          (λ (still : IsIn l v.loans). ⊎_elim
          (λ (on : IsIn l (abandoned v loan).loans). in-left l (abandoned v loan).loans later on)
          (λ (off : (abandoned v loan).returned ≡ v.returned ++ l ∷ []).
          in-right l (abandoned v loan).loans later
          (in-right l up.gone (gone.piece ∷ []) (inl (same-last v.returned gone.piece l (sym gone.returned ∙ off)))))
          (out-or-gone v apart loan out l still))
          (λ (before : IsIn l up.gone). in-right l (abandoned v loan).loans later (in-left l up.gone (gone.piece ∷ []) before))
          (in-parts l v.loans up.gone (up.each l there));
    }

-- ---- the last of those that are kept

module _ (loans : List LentPiece) (out rest : List Sent) (s : Sent) (last : out ≡ rest ++ s ∷ [])
    (are : (f : Place → ℕ) → total (λ (l : LentPiece). f l.place) loans ≡ of_sent f out) where
  pub last-sum : (f : Place → ℕ) → of_sent f out ≡ of_sent f rest + f s.loan
  last-sum f = omega (arith, ap (of_sent f) last, total-append (λ (x : Sent). f x.loan) rest (s ∷ []))

  pub last-out : IsOut s.loan loans
  last-out = counted-out s.loan loans (omega (arith, are (at_place s.loan), last-sum (at_place s.loan), at-itself s.loan))

pub last-gone : (v : AppView) → LieApart v → (out rest : List Sent) (s : Sent) (last : out ≡ rest ++ s ∷ [])
    → (are : (f : Place → ℕ) → total (λ (l : LentPiece). f l.place) v.loans ≡ of_sent f out)
    → (f : Place → ℕ) → total (λ (l : LentPiece). f l.place) (abandoned v s.loan).loans ≡ of_sent f rest
last-gone v apart out rest s last are f =
    omega (arith, went-places v apart s.loan (last-out v.loans out rest s last are) f, are f, last-sum v.loans out rest s last are f)

pub no-loans : (loans : List LentPiece) → total (λ (l : LentPiece). 1) loans ≡ 0 → loans ≡ []
no-loans [] none = refl
no-loans (l ∷ loans) none = absurd (omega (arith, none))

-- a loan has a byte
pub loan-has : (v : AppView) → LieApart v → (loan : Place) → HasLoan v loan → 0 < loan.len
loan-has v apart loan has =
    let out = out-has loan v.loans has in
    subst (λ (p : Place). 0 < p.len) out.at (loan-some v apart out.piece out.there)

pub pushed-sum : (f : Place → ℕ) (out : List Sent) (s : Sent) → of_sent f (out ++ s ∷ []) ≡ f s.loan + of_sent f out
pushed-sum f out s = omega (arith, total-append (λ (x : Sent). f x.loan) out (s ∷ []))
