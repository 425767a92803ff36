-- The entry in hand: what was lowered for it.
use Rattle.std.{proofs.Common.{◌≡◌, ⊎_elim, ℕ, Bool, true, false, refl, ap, sym, ◌∙◌, subst}, specs.Prelude.{◌≢◌, ◌==◌, ◌&&◌, if◌then◌else◌, Option, Some}}
use Rattle.std.proofs.lemmas.Bool.Decides.{eqb_tells}
use Rattle.zr_kinds.specs.declared.ring.Rqe.{Rqe}
use Rattle.board_face.{specs.declared.views.nic.{EntryInHand.{EntryInHand}, Judged.{Judged}}, proofs.{ListLemmas.{eqb_same, not-eqb}, Tallies.{one_if}}}

abbrev pub in_hand : ℕ → Rqe → Judged → Option EntryInHand
in_hand a entry judged = Some (record { app = a; entry = entry; judged = judged })

pub some-is : (x y : EntryInHand) → Some x ≡ Some y → x ≡ y
some-is x y e = cc

pub if-none : (c : Bool) → ◌≡◌ {A = ℕ} (if c then 0 else 0) 0
if-none true = refl
if-none false = refl

pub same-if : (a n b c : ℕ) → n ≡ a → one_if ((a == n) && (b == c)) ≡ one_if (b == c)
same-if a n b c e = ap (λ z. one_if (z && (b == c))) (subst (λ m. (a == m) ≡ true) (sym e) (eqb_same a))

pub other-if : (a n b c : ℕ) → n ≢ a → one_if ((a == n) && (b == c)) ≡ 0
other-if a n b c ne = ap (λ z. one_if (z && (b == c))) (not-eqb a n (λ e. ne (sym e)))

-- another application's count, or that of another buffer
pub other-pair : (a n b c : ℕ) → (a ≡ n → b ≡ c → ⊥) → one_if ((a == n) && (b == c)) ≡ 0
other-pair a n b c other =
    ⊎_elim
    (λ t. ⊎_elim
    (λ u. absurd (other t.1 u.1))
    (λ u. ap (λ z. one_if (z && (b == c))) t.0 ∙ ap one_if u.0)
    (eqb_tells b c))
    (λ t. ap (λ z. one_if (z && (b == c))) t.0)
    (eqb_tells a n)
