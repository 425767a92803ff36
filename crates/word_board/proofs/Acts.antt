-- Acts in which a seat takes lines, each from its slot, and gives them all back.
use Rattle.std.proofs.Common.{◌≡◌, ⊎_elim, ℕ, zero, suc, ◌+◌, ◌<◌, ◌≤◌, List, [], ◌∷◌, length, map, get_or, set, refl, ap, ◌∙◌, subst, inl, inr, arith}
use Rattle.std.{proofs.lemmas.List.{length-set}, specs.Prelude.{◌⊎◌}}
use mathlib.Core.Option.{Option, none, some}
use lib.ListN.{get_elem?}
use Rattle.atomic_table.{specs.Table.{Act, keeps, takes, gives, chain, Valid, carried_after, homes_after}, proofs.Lists.{set_here, set_else}}
use Rattle.word_board.specs.Lines.{numbered}

-- what stands in numbered lines
pub held-numbered : (x : ℕ) (lines : List (List ℕ)) → map (λ (slot : ℕ × List ℕ). slot.1) (numbered x lines) ≡ lines
held-numbered x [] = refl
held-numbered x (line ∷ lines) = ap (λ xs. line ∷ xs) (held-numbered (x + 1) lines)

-- the next line is no later than these or behind them
next-away : (x n k : ℕ) → (k < x) ⊎ (x + suc n ≤ k) → (k < x + 1) ⊎ (x + 1 + n ≤ k)
next-away x n k away = ⊎_elim (λ (before : k < x). inl (omega arith)) (λ (behind : x + suc n ≤ k). inr (omega arith)) away

-- ---- lines are taken

-- the first one last, so that the seat has them in their order
abbrev pub taking : ℕ → List (List ℕ) → Act (List ℕ)
taking x [] = keeps
taking x (line ∷ lines) = chain (taking (x + 1) lines) (takes x line)

pub taken : (x : ℕ) (lines : List (List ℕ)) → carried_after [] (taking x lines) ≡ numbered x lines
taken x [] = refl
taken x (line ∷ lines) = ap (λ slots. (x, line) ∷ slots) (taken (x + 1) lines)

pub taking-long : (x : ℕ) (lines : List (List ℕ)) (homes : List (Option (List ℕ))) → length (homes_after homes [] (taking x lines)) ≡ length homes
taking-long x [] homes = refl
taking-long x (line ∷ lines) homes = length-set (homes_after homes [] (taking (x + 1) lines)) x none ∙ taking-long (x + 1) lines homes

-- a slot before them or behind them stays
pub taking-other : (x : ℕ) (lines : List (List ℕ)) (homes : List (Option (List ℕ))) (k : ℕ) → (k < x) ⊎ (x + length lines ≤ k)
    → get_elem? (homes_after homes [] (taking x lines)) k ≡ get_elem? homes k
taking-other x [] homes k away = refl
taking-other x (line ∷ lines) homes k away =
    set_else (homes_after homes [] (taking (x + 1) lines)) x k none
    (λ e. ⊎_elim (λ (before : k < x). let none : ⊥ = omega (arith, e) in none) (λ (behind : x + suc (length lines) ≤ k). let none : ⊥ = omega (arith, e) in none) away)
    ∙ taking-other (x + 1) lines homes k (next-away x (length lines) k away)

-- and each of them is at home before
pub taking-valid : (x : ℕ) (lines : List (List ℕ)) (homes : List (Option (List ℕ)))
    → ((j : ℕ) → j < length lines → get_elem? homes (x + j) ≡ some (some (get_or lines j []))) → Valid homes [] (taking x lines)
taking-valid x [] homes home = tt
taking-valid x (line ∷ lines) homes home = (
  taking-valid (x + 1) lines homes (λ j less.
      let at : x + suc j ≡ x + 1 + j = omega arith in
      subst (λ k. get_elem? homes k ≡ some (some (get_or lines j []))) at (home (suc j) (omega (arith, less)))),
  taking-other (x + 1) lines homes x (inl (omega arith))
      ∙ (let at : x + 0 ≡ x = omega arith in subst (λ k. get_elem? homes k ≡ some (some line)) at (home 0 (omega arith))),
)

-- ---- all lines are given back

abbrev pub giving : List (ℕ × List ℕ) → Act (List ℕ)
giving [] = keeps
giving (slot ∷ slots) = chain gives (giving slots)

pub given : (slots : List (ℕ × List ℕ)) → carried_after slots (giving slots) ≡ []
given [] = refl
given (slot ∷ slots) = given slots

pub giving-valid : (slots : List (ℕ × List ℕ)) (homes : List (Option (List ℕ))) → Valid homes slots (giving slots)
giving-valid [] homes = tt
giving-valid (slot ∷ slots) homes = (tt, giving-valid slots (set homes slot.0 (some slot.1)))

-- what is in the slots then
abbrev pub put_all : ℕ → List (List ℕ) → List (Option (List ℕ)) → List (Option (List ℕ))
put_all x lines homes = homes_after homes (numbered x lines) (giving (numbered x lines))

pub giving-long : (x : ℕ) (lines : List (List ℕ)) (homes : List (Option (List ℕ))) → length (put_all x lines homes) ≡ length homes
giving-long x [] homes = refl
giving-long x (line ∷ lines) homes = giving-long (x + 1) lines (set homes x (some line)) ∙ length-set homes x (some line)

pub giving-other : (x : ℕ) (lines : List (List ℕ)) (homes : List (Option (List ℕ))) (k : ℕ) → (k < x) ⊎ (x + length lines ≤ k)
    → get_elem? (put_all x lines homes) k ≡ get_elem? homes k
giving-other x [] homes k away = refl
giving-other x (line ∷ lines) homes k away =
    giving-other (x + 1) lines (set homes x (some line)) k (next-away x (length lines) k away)
    ∙ set_else homes x k (some line)
    (λ e. ⊎_elim (λ (before : k < x). let none : ⊥ = omega (arith, e) in none) (λ (behind : x + suc (length lines) ≤ k). let none : ⊥ = omega (arith, e) in none) away)

pub giving-at : (x : ℕ) (lines : List (List ℕ)) (homes : List (Option (List ℕ))) (j : ℕ) → x + length lines ≤ length homes → j < length lines
    → get_elem? (put_all x lines homes) (x + j) ≡ some (some (get_or lines j []))
giving-at x [] homes j within less = absurd (omega arith)
giving-at x (line ∷ lines) homes zero within less =
    let at : x + 0 ≡ x = omega arith in
    ap (λ k. get_elem? (put_all (x + 1) lines (set homes x (some line))) k) at
    ∙ (giving-other (x + 1) lines (set homes x (some line)) x (inl (omega arith)) ∙ set_here homes x (some line) (omega (arith, within)))
giving-at x (line ∷ lines) homes (suc j) within less =
    let at : x + suc j ≡ x + 1 + j = omega arith in
    ap (λ k. get_elem? (put_all (x + 1) lines (set homes x (some line))) k) at
    ∙ giving-at (x + 1) lines (set homes x (some line)) j (omega (arith, within, length-set homes x (some line))) (omega arith)
