-- What is tested of areas.
use Rattle.std.{proofs.Common.{ℕ, ◌<◌, ◌≤◌, List, length, All, Bool, true, false, IsTrue, arith, refl, suc, [], ◌∷◌, if◌then◌else◌, ltb, ◌-◌}, specs.Bool.{MatchBool}}
use Rattle.std.specs.List.{AllWithin, HoldsAt}
use Rattle.zr_kinds.specs.Setting.{IsRunArea, first_size, size_among, size_of_buffer}

pub each_from_cases : (r : Bool) (areas : List (ℕ × ℕ))
    → MatchBool r (AllWithin IsRunArea areas 0 (length areas)) ((k : ℕ) × (k < length areas) × HoldsAt (λ area. IsRunArea area → ⊥) areas k)
    → (IsTrue r → All IsRunArea areas) × (All IsRunArea areas → IsTrue r)
each_from_cases true areas h = (λ t k d lt. h k d (omega arith) lt, λ all. refl)
each_from_cases false areas h = (λ t. cc, λ all. absurd (h.2 (0, 0) (all h.0 (0, 0) h.1)))

most_of : (t : Bool) (x y most : ℕ) → x ≤ most → y ≤ most → (if t then x else y) ≤ most
most_of true x y most p q = p
most_of false x y most p q = q

among_most : (areas : List (ℕ × ℕ)) (reserve b : ℕ) → reserve ≤ 65536 → All IsRunArea areas → size_among areas reserve b ≤ 65536
among_most [] reserve b small each = small
among_most (area ∷ areas) reserve b small each =
    let first : IsRunArea area = each 0 area (omega arith) in
    most_of (ltb b area.0) area.1 (size_among areas reserve (b - area.0)) 65536 first.size.most
    (among_most areas reserve (b - area.0) small (λ k d lt. each (suc k) d (omega arith)))

first_most : (areas : List (ℕ × ℕ)) → All IsRunArea areas → first_size areas ≤ 65536
first_most [] each = omega arith
first_most (area ∷ areas) each = let first : IsRunArea area = each 0 area (omega arith) in first.size.most

pub size_most : (areas : List (ℕ × ℕ)) (b : ℕ) → All IsRunArea areas → size_of_buffer areas b ≤ 65536
size_most areas b each = among_most areas (first_size areas) b (first_most areas each) each
