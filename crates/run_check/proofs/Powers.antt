-- Powers of two have one bit.
use Rattle.std.proofs.{Common.{◌≡◌, ℕ, zero, suc, ◌+◌, ◌*◌, ◌/◌, ◌%◌, ◌^◌, ◌≤◌, count_ones, refl, arith}, Math.Nat.{pow-suc}}
use Rattle.std.{proofs.lemmas.Nat.{pow_pos, zero_from_ones, ones_le_self}, specs.Int.{IsPowerOfTwo}}
use lib.Count.{ones_step, ones_cat}

-- a number whose lowest digit is r, by what its half is
power_step : (n r : ℕ) → n % 2 ≡ r → (count_ones (n / 2) ≡ 1 → IsPowerOfTwo (n / 2)) → count_ones n ≡ 1 → IsPowerOfTwo n
power_step n zero low half one =
    let s = ones_step n in
    let k = half (omega arith) in
    let double = pow-suc 2 k.0 in
    (suc k.0, omega arith)
power_step n (suc r) low half one =
    let s = ones_step n in
    let none : n / 2 ≡ 0 = zero_from_ones (n / 2) (omega arith) in
    (0, omega arith)

power_within : (d n : ℕ) → n ≤ d → count_ones n ≡ 1 → IsPowerOfTwo n
power_within zero n h one = let least = ones_le_self n in absurd (omega arith)
power_within (suc d) n h one =
    power_step n (n % 2) refl (λ half. power_within d (n / 2) (omega arith) half) one

-- one bit alone makes a power of two
pub power_from_one : (n : ℕ) → count_ones n ≡ 1 → IsPowerOfTwo n
power_from_one n one = power_within n n (omega arith) one

-- a power of two has one bit
pub one_from_power : (n : ℕ) → IsPowerOfTwo n → count_ones n ≡ 1
one_from_power n power =
    let apart = ones_cat power.0 1 0 (pow_pos power.0) in
    let none = ones_le_self 0 in
    let first = ones_step 1 in
    let same : n ≡ 1 * 2 ^ power.0 + 0 = omega (arith, power.1) in
    rw same (omega arith)
