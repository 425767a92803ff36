-- The distance of the copying receiver, from the number of a first byte to another.
use Rattle.std.proofs.Common.{◌≡◌, ◌≤◌, ◌<◌, ℕ, ◌+◌, ◌-◌, ◌%◌, ◌^◌, arith}
use Rattle.zr_kinds.specs.CopyingReceiver.{lead}

pub ahead_of : (end first : ℕ) → end < 2 ^ 32 → first < 2 ^ 32 → (end + (2 ^ 32 - first)) % 2 ^ 32 < 2 ^ 31
    → lead first 0 end - 2 ^ 31 ≡ (end + (2 ^ 32 - first)) % 2 ^ 32
unfolding lead
ahead_of end first small below near = omega arith

pub behind_of : (end first : ℕ) → end < 2 ^ 32 → first < 2 ^ 32 → 2 ^ 31 ≤ (end + (2 ^ 32 - first)) % 2 ^ 32 → lead first 0 end - 2 ^ 31 ≡ 0
unfolding lead
behind_of end first small below far = omega arith
