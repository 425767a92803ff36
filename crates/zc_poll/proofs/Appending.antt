-- One more part of a loan is read and appended.
use Rattle.std.{proofs.Common.{◌≡◌, ℕ, ◌+◌, ◌<◌, ◌≤◌, List, length, take, Option, refl, sym, ap, subst, arith}, specs.Io.KnownBytes.{Appends}}
use Rattle.zr_kinds.specs.declared.place.Place.{Place}
use Rattle.zr_io.specs.Moved.{Gained}
use Rattle.board_face.specs.{AppCalls.{ShowsCopy}, AppEvents.{has_read, loan_origin}, declared.views.app.{AppView.{AppView}, TakenNote.{TakenNote}}}
use Rattle.flow_queues.specs.{declared.queues.Lending.{Lending}, Core.{IsIn, LieApart, lent_piece, OnlyReads, IsReadOf, most_at_once}}
use Rattle.flow_queues.proofs.ReadLemmas.{IsReadTo, one-more, some-more, only-read, only-then}

pub read-more : (u v w : AppView) (loan : Place) (from : ℕ) (text : List ℕ) → OnlyReads u v → w ≡ has_read v loan from text → OnlyReads u w
read-more u v w loan from text only view = subst (OnlyReads u) (sym view)
    (only-then u v (has_read v loan from text) only (only-read v (record { note = 0; at = 0; loan = loan }) from text))

module _ (taken : List TakenNote) (a b c : Option (List ℕ)) (v w : AppView) (lie : LieApart v) (loan : Place) (done : ℕ) (text : List ℕ)
    (shows : ShowsCopy (loan_origin v loan) done text) (view : w ≡ has_read v loan done text) (l : Lending) (same : l.loan ≡ loan)
    (out : IsIn (lent_piece taken l) v.loans) (known : l.note < length taken) (before : Gained a b (IsReadTo taken v.reads l done)) where
  shown : ShowsCopy (loan_origin v l.loan) done text
  shown = subst (λ (p : Place). ShowsCopy (loan_origin v p) done text) (sym same) shows

  pub one-more-at : done + length text ≤ loan.len → Appends b c text → Gained a c (IsReadTo taken w.reads l (done + length text))
  one-more-at fits added =
      subst (λ (x : AppView). Gained a c (IsReadTo taken x.reads l (done + length text))) (sym view)
      (subst (λ (p : Place). Gained a c (IsReadTo taken (has_read v p done text).reads l (done + length text))) same
      (one-more taken a b c v lie l done text text out known shown (let e : l.loan.len ≡ loan.len = ap (λ (p : Place). p.len) same in omega (arith, fits, e))
      refl before added))

  pub some-more-at : (n : ℕ) → done + length text ≤ loan.len → length text ≤ most_at_once → Appends b c (take n text)
      → Gained a c (IsReadOf taken w.reads l done loan.len)
  some-more-at n fits once added =
      subst (λ (x : AppView). Gained a c (IsReadOf taken x.reads l done loan.len)) (sym view)
      (subst (λ (p : Place). Gained a c (IsReadOf taken (has_read v p done text).reads l done p.len)) same
      (some-more taken a b c v lie l done l.loan.len n text text out known shown (omega arith)
      (let e : l.loan.len ≡ loan.len = ap (λ (p : Place). p.len) same in omega (arith, fits, e)) once refl before added))
