-- Applications that are numbered in order stay so, and each is found by its number.
use Rattle.std.proofs.Common.{◌≡◌, ℕ, zero, suc, ◌+◌, ◌<◌, List, [], ◌∷◌, length, get_or, set, refl, arith}
use Rattle.board_face.specs.{Sides.{IsApp, AreNumbered}, declared.views.app.AppSide.{AppSide}}

-- one application's side changes, and not its number
pub AreNumbered-set : (n : ℕ) (apps : List AppSide) (i : ℕ) (now : AppSide) → now.view.app ≡ n + i → AreNumbered n apps
    → AreNumbered n (set apps i now)
AreNumbered-set n [] i now number numbered = numbered
AreNumbered-set n (app ∷ apps) zero now number numbered = (omega (arith, number), numbered.1)
AreNumbered-set n (app ∷ apps) (suc i) now number numbered = (numbered.0, AreNumbered-set (suc n) apps i now (omega (arith, number)) numbered.1)

number-at : (n : ℕ) (apps : List AppSide) (i : ℕ) (d : AppSide) → i < length apps → AreNumbered n apps → (get_or apps i d).view.app ≡ n + i
number-at n [] i d within numbered = absurd (omega arith)
number-at n (app ∷ apps) zero d within numbered = omega (arith, numbered.0)
number-at n (app ∷ apps) (suc i) d within numbered = omega (arith, number-at (suc n) apps i d (omega arith) numbered.1)

default-free : (apps : List AppSide) (i : ℕ) (d e : AppSide) → i < length apps → get_or apps i d ≡ get_or apps i e
default-free [] i d e within = absurd (omega arith)
default-free (app ∷ apps) zero d e within = refl
default-free (app ∷ apps) (suc i) d e within = default-free apps i d e (omega arith)

-- the application at a number
pub IsApp-at : (apps : List AppSide) (a : ℕ) (d : AppSide) → AreNumbered 0 apps → a < length apps → IsApp apps a (get_or apps a d)
IsApp-at apps a d numbered within = record {
  there = within;
  is = default-free apps a (get_or apps a d) d within;
  number = let n = number-at 0 apps a d within numbered in omega arith;
}
