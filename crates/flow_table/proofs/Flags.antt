-- A flag as a bit of the byte of flags.
use Rattle.std.proofs.{Common.{◌≡◌, ℕ, ◌*◌, ◌/◌, ◌%◌, not, nat_eq, ◌==◌, bit_and, arith}, lemmas.{Nat.Bits.{and_pow}, Bool.Decides.{nat_tests}}}

is_odd : (n : ℕ) → not (nat_eq (n % 2 * 2) 0) ≡ (n % 2 == 1)
is_odd n = grind (arith, nat_tests)

is_odd_by_4 : (n : ℕ) → not (nat_eq (n % 2 * 4) 0) ≡ (n % 2 == 1)
is_odd_by_4 n = grind (arith, nat_tests)

pub rst_by_mask : (flags : ℕ) → not (nat_eq (bit_and flags 4) 0) ≡ (flags / 4 % 2 == 1)
rst_by_mask flags = let masked : bit_and flags 4 ≡ flags / 4 % 2 * 4 = and_pow flags 2 in rw masked (is_odd_by_4 (flags / 4))

pub syn_by_mask : (flags : ℕ) → not (nat_eq (bit_and flags 2) 0) ≡ (flags / 2 % 2 == 1)
syn_by_mask flags = let masked : bit_and flags 2 ≡ flags / 2 % 2 * 2 = and_pow flags 1 in rw masked (is_odd (flags / 2))
