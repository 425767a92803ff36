-- Counts of loans: what a raised and a lowered count says, and that a loan is out in a buffer exactly where some are counted there.
use Rattle.std.proofs.Common.{◌≡◌, ℕ, zero, suc, ◌+◌, ◌-◌, ◌<◌, List, [], ◌∷◌, length, map, set, get_or, ap, sym, subst, arith, ⊎_elim}
use Rattle.std.{specs.Prelude.{◌==◌, ◌↔◌, nat_lt, count_by, Contains, IsTrue}, proofs.lemmas.Bool.{eq-eqb, lt-ltb, ltb-true, Decides.{eqb_tells}}}
use Rattle.std.proofs.lemmas.List.{get_or-set_same, get_or-set_other}
use Rattle.board_face.{specs.declared.views.app.LentPiece.{LentPiece}, proofs.{Parts.{count-tally}, Tallies.{one_if, tally}}}

pub count-raised : (counts : List ℕ) (i b : ℕ) → i < length counts
    → get_or (set counts i (get_or counts i 0 + 1)) b 0 ≡ get_or counts b 0 + one_if (i == b)
count-raised counts i b there =
    let n : ℕ = get_or counts i 0 + 1 in
    ⊎_elim
    (λ t. let at : get_or (set counts i n) b 0 ≡ n = subst (λ x. get_or (set counts i n) x 0 ≡ n) t.1 (get_or-set_same counts i n 0 there) in
    omega (arith, at, ap (λ x. get_or counts x 0) t.1, ap one_if t.0))
    (λ t. omega (arith, get_or-set_other counts i b n 0 (λ e. t.1 (sym e)), ap one_if t.0))
    (eqb_tells i b)

pub count-lowered : (counts : List ℕ) (i b : ℕ) → i < length counts → 0 < get_or counts i 0
    → get_or (set counts i (get_or counts i 0 - 1)) b 0 + one_if (i == b) ≡ get_or counts b 0
count-lowered counts i b there some =
    let n : ℕ = get_or counts i 0 - 1 in
    ⊎_elim
    (λ t. let at : get_or (set counts i n) b 0 ≡ n = subst (λ x. get_or (set counts i n) x 0 ≡ n) t.1 (get_or-set_same counts i n 0 there) in
    omega (arith, at, ap (λ x. get_or counts x 0) t.1, ap one_if t.0))
    (λ t. omega (arith, get_or-set_other counts i b n 0 (λ e. t.1 (sym e)), ap one_if t.0))
    (eqb_tells i b)

-- ---- whether a loan is out

some-tallied : (b : ℕ) (loans : List LentPiece) → Contains (map (λ l. l.place.buffer) loans) b → 0 < tally (λ l. l.place.buffer == b) loans
some-tallied b [] (k, there, e) = absurd (omega arith)
some-tallied b (l ∷ ls) (zero, there, e) = omega (arith, ap one_if (eq-eqb l.place.buffer b e))
some-tallied b (l ∷ ls) (suc k, there, e) = omega (arith, some-tallied b ls (k, omega arith, e))

tallied-is_out : (b : ℕ) (loans : List LentPiece) → 0 < tally (λ l. l.place.buffer == b) loans → Contains (map (λ l. l.place.buffer) loans) b
tallied-is_out b [] some = absurd (omega arith)
tallied-is_out b (l ∷ ls) some =
    ⊎_elim
    (λ t. (0, omega arith, t.1))
    (λ t. let rest = tallied-is_out b ls (omega (arith, some, ap one_if t.0)) in (suc rest.0, let h = rest.1 in omega arith, rest.2))
    (eqb_tells l.place.buffer b)

out-is_counted : (b : ℕ) (loans : List LentPiece) → Contains (map (λ l. l.place.buffer) loans) b → 0 < count_by (λ l. l.place.buffer == b) loans
out-is_counted b loans out = omega (arith, some-tallied b loans out, count-tally (λ (l : LentPiece). l.place.buffer == b) loans)

-- a count that is right tells it
pub counted-tells : (n b : ℕ) (loans : List LentPiece) → n ≡ count_by (λ l. l.place.buffer == b) loans
    → IsTrue (nat_lt 0 n) ↔ Contains (map (λ l. l.place.buffer) loans) b
counted-tells n b loans right = (
  λ some. tallied-is_out b loans (omega (arith, ltb-true 0 n some, right, count-tally (λ (l : LentPiece). l.place.buffer == b) loans)),
  λ out. lt-ltb 0 n (omega (arith, out-is_counted b loans out, right)),
)
