-- Tests, and numbers that stand where a test holds.
use Rattle.std.{proofs.Common.{◌≡◌, ℕ, ◌≤◌, Bool, true, false, refl, arith}, specs.Prelude.{◌&&◌, if◌then◌else◌}}

pub and-true : (c d : Bool) → d ≡ true → (c && d) ≡ c
and-true true d e = e
and-true false d e = refl

pub if-none : (c : Bool) (w : ℕ) → w ≡ 0 → (if c then w else 0) ≡ 0
if-none true w none = none
if-none false w none = refl

pub if-one : (c : Bool) (w : ℕ) → w ≡ 1 → (if c then w else 0) ≡ (if c then 1 else 0)
if-one true w one = one
if-one false w one = refl

pub if-le : (c : Bool) (n : ℕ) → (if c then n else 0) ≤ n
if-le true n = omega arith
if-le false n = omega arith
