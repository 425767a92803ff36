-- The one loan that is out goes: by an entry, or it is given up.
use Rattle.std.proofs.Common.{◌≡◌, ℕ, ◌+◌, true, if◌then◌else◌, List, [], ◌∷◌, ◌++◌, length, drop, refl, sym, ap, subst, ◌∙◌, arith, inl, inr, length-append}
use Rattle.std.proofs.Math.Seq.{drop-append_seam}
use Rattle.zr_kinds.specs.declared.place.Place.{Place}
use Rattle.board_face.specs.{AppEvents.{abandoned, gave, entry_of}, declared.views.app.{LentPiece.{LentPiece}, WrittenEntry.{WrittenEntry}, AppView.{AppView}}}
use Rattle.flow_queues.{specs.{Core.{total, IsIn, LieApart}, Totals.{lent_len, loan_entries}, Shelves.{kept_loans}}, proofs.Tokens.{total-append, is-given}}
use Rattle.zc_poll.proofs.Views.{total-one}

-- there is one, and it is this
pub one-loan : (xs : List LentPiece) (p : LentPiece) → length xs ≡ 1 → IsIn p xs → xs ≡ p ∷ []
one-loan [] p one there = absurd there
one-loan (x ∷ []) p one (inl is) = ap (λ y. y ∷ []) is
one-loan (x ∷ []) p one (inr none) = absurd none
one-loan (x ∷ y ∷ xs) p one there = absurd (omega (arith, one))

none-left : (xs : List LentPiece) → length xs ≡ 0 → xs ≡ []
none-left [] none = refl
none-left (x ∷ xs) none = absurd (omega (arith, none))

pub drop-all : (rs : List LentPiece) (n : ℕ) → n ≡ length rs → drop n rs ≡ []
drop-all [] n is = rw is refl
drop-all (r ∷ rs) n is = rw is (drop-all rs (length rs) refl)

module _ (v : AppView) (apart : LieApart v) (p : LentPiece) (one : v.loans ≡ p ∷ []) (loan : Place) (place : p.place ≡ loan) where
  step : (total (λ _. 1) (gave v p.place).loans + 1 ≡ total (λ _. 1) v.loans) × ((gave v p.place).returned ≡ v.returned ++ p ∷ [])
  step = let given = is-given v apart p (subst (IsIn p) (sym one) (inl refl)) in (given.loans (λ _. 1), given.returned)

  pub gone-loans : (abandoned v loan).loans ≡ []
  gone-loans = subst (λ (q : Place). (abandoned v q).loans ≡ []) place (none-left (abandoned v p.place).loans
      (omega (arith, step.0, total-one (abandoned v p.place).loans, ap (total (λ _. 1)) one)))

  pub gone-returned : (abandoned v loan).returned ≡ v.returned ++ p ∷ []
  gone-returned = subst (λ (q : Place). (abandoned v q).returned ≡ v.returned ++ p ∷ []) place step.1

  pub gone-many : length (abandoned v loan).loans + length (abandoned v loan).returned ≡ length v.loans + length v.returned
  gone-many = omega (arith, ap length gone-loans, ap length gone-returned, length-append v.returned (p ∷ []), ap length one)

  pub gone-lent : total lent_len (abandoned v loan).loans + total lent_len (abandoned v loan).returned ≡ total lent_len v.loans + total lent_len v.returned
  gone-lent = omega (arith, ap (total lent_len) gone-loans, ap (total lent_len) gone-returned, total-append lent_len v.returned (p ∷ []), ap (total lent_len) one)

  -- all before it went by entries
  pub gone-kept : loan_entries v ≡ length v.returned → kept_loans (abandoned v loan) ≡ kept_loans v
  gone-kept all =
      ap (λ ls. ls ++ drop (loan_entries v) (abandoned v loan).returned) gone-loans ∙ ap (drop (loan_entries v)) gone-returned
      ∙ ap (λ n. drop n (v.returned ++ p ∷ [])) all ∙ drop-append_seam v.returned (p ∷ [])
      ∙ sym (ap (λ ls. ls ++ drop (loan_entries v) v.returned) one ∙ ap (λ rs. p ∷ rs) (drop-all v.returned (loan_entries v) all))

  -- by an entry of its own
  pub gave-entries : loan_entries v ≡ length v.returned → loan_entries (gave v loan) ≡ length (gave v loan).returned
  gave-entries all = omega (
    arith,
    total-append (λ (e : WrittenEntry). if e.of_loan then 1 else 0) v.written (record { entry = entry_of v.setting.layout loan; of_loan = true } ∷ []),
    all,
    ap length gone-returned,
    length-append v.returned (p ∷ []),
  )
