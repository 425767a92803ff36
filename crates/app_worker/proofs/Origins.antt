-- Where the bytes of the loans came from that an application doesn't have any more.
use Rattle.std.proofs.Common.{◌≡◌, ℕ, ◌+◌, ◌<◌, ◌≤◌, List, [], ◌∷◌, ◌++◌, length, refl, sym, subst, ◌∙◌, arith, ⊎_elim, inl, inr, length-append}
use Rattle.std.proofs.lemmas.Bool.{cases_lt}
use Rattle.zr_kinds.specs.declared.ring.Completion.{Completion}
use Rattle.board_face.specs.declared.views.app.{LentPiece.{LentPiece}, TakenNote.{TakenNote}, AppView.{AppView}}
use Rattle.flow_queues.specs.{declared.queues.Lending.{Lending}, Core.{total, Each, IsIn, IsOfTaken, lent_piece, over_read}}
use Rattle.flow_queues.proofs.{Tokens.{in-total, is_that_loan, that-loan, is-lent-there}, Standing.{each-map, each-join}, NotesStay.{lent-still}}

-- one more note was taken
pub origins-noted : (v : AppView) (t : TakenNote) → Each (IsOfTaken v.taken) v.returned → Each (IsOfTaken (v.taken ++ t ∷ [])) v.returned
origins-noted v t origins = each-map (IsOfTaken v.taken) (IsOfTaken (v.taken ++ t ∷ [])) v.returned (λ x _ of. record {
  lending = of.lending;
  known = omega (arith, of.known, length-append v.taken (t ∷ []));
  is = of.is ∙ sym (lent-still v.taken t of.lending of.known);
}) origins

-- more went
pub origins-more : (old new : AppView) (more : List LentPiece) → new.returned ≡ old.returned ++ more → new.taken ≡ old.taken
    → Each (IsOfTaken old.taken) old.returned → Each (IsOfTaken old.taken) more → Each (IsOfTaken new.taken) new.returned
origins-more old new more returned taken origins others = subst (λ ts. Each (IsOfTaken ts) new.returned) (sym taken)
    (subst (Each (IsOfTaken old.taken)) (sym returned) (each-join (IsOfTaken old.taken) old.returned more origins others))

each-of : {A : Type 0} (P : A → Type 0) (xs : List A) → ((x : A) → IsIn x xs → P x) → Each P xs
each-of P [] step = tt
each-of P (x ∷ xs) step = (step x (inl refl), each-of P xs (λ y there. step y (inr there)))

-- a loan is that of one of these
found : {A : Type 0} (x : LentPiece) (g : A → LentPiece) (P : A → Type 0) (Q : Type 0) → ((a : A) → P a → g a ≡ x → Q) → (xs : List A)
    → Each P xs
    → 0 < total (λ a. is_that_loan x (g a)) xs → Q
found x g P Q step [] each some = absurd (omega (arith, some))
found x g P Q step (a ∷ xs) each some = ⊎_elim
    (λ (here : 0 < is_that_loan x (g a)). by-one (is-lent-there x (g a ∷ []) (omega (arith, here))))
    (λ (none : is_that_loan x (g a) ≤ 0). found x g P Q step xs each.1 (omega (arith, some, none)))
    (cases_lt 0 (is_that_loan x (g a)))
  where
    by-one : IsIn x (g a ∷ []) → Q
    by-one (inl is) = step a each.0 is
    by-one (inr other) = absurd other

pub gone-origins : (taken : List TakenNote) (more : List LentPiece) (posted : List (Completion × Lending)) (read : List Lending)
    → ((f : LentPiece → ℕ) → total f more ≡ total (λ p. f (lent_piece taken p.1)) posted + over_read taken f read)
    → Each (λ p. p.1.note < length taken) posted → Each (λ l. l.note < length taken) read → Each (IsOfTaken taken) more
gone-origins taken more posted read sums lent due = each-of (IsOfTaken taken) more (λ x there.
    let test : LentPiece → ℕ = is_that_loan x in
    let some : 0 < total test more = omega (arith, that-loan x, in-total test x more there) in
    ⊎_elim
    (λ (first : 0 < total (λ (p : Completion × Lending). is_that_loan x (lent_piece taken p.1)) posted).
    found x (λ (p : Completion × Lending). lent_piece taken p.1) (λ p. p.1.note < length taken) (IsOfTaken taken x)
    (λ p below is. record { lending = p.1; known = below; is = sym is }) posted lent first)
    (λ (none : total (λ (p : Completion × Lending). is_that_loan x (lent_piece taken p.1)) posted ≤ 0).
    found x (λ (l : Lending). lent_piece taken l) (λ l. l.note < length taken) (IsOfTaken taken x)
    (λ l below is. record { lending = l; known = below; is = sym is }) read due (omega (arith, some, sums test, none)))
    (cases_lt 0 (total (λ (p : Completion × Lending). is_that_loan x (lent_piece taken p.1)) posted)))

pub fresh_origins : (v : AppView) → v.returned ≡ [] → Each (IsOfTaken v.taken) v.returned
fresh_origins v returned = subst (Each (IsOfTaken v.taken)) (sym returned) tt
