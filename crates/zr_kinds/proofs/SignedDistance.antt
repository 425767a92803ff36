-- The proof that `lead` less 2^31 is the signed distance.
use Rattle.std.{proofs.{Common.{◌≡◌, ℕ, ◌+◌, ◌-◌, ◌%◌, ◌^◌, ◌<◌, ◌≤◌, pos, ◌+ℤ◌, arith, w32, ap, ◌∙◌, ⊎_elim, ltb, false}, lemmas.Int.{ints}}, specs.Int.{cast_signed}}
use Rattle.std.proofs.lemmas.Bool.{cases_lt, le-ltb}
use Rattle.zr_kinds.specs.{CopyingReceiver.{lead}, ReceiverLaws.{LeadIsSignedDistance}}

-- a distance that reads as a positive number, and one that reads as a negative number
ahead : (d : ℕ) → d < 2 ^ 31 → pos (d + 2 ^ 31) ≡ cast_signed w32 d +ℤ pos (2 ^ 31)
ahead d h = omega (arith, ints)

behind : (d : ℕ) → 2 ^ 31 ≤ d → d < 2 ^ 32 → pos (d - 2 ^ 31) ≡ cast_signed w32 d +ℤ pos (2 ^ 31)
behind d h below = let test : ltb d (2 ^ 31) ≡ false = le-ltb d (2 ^ 31) h in rw test (omega (arith, ints))

-- with the remainder as a number of its own
at_remainder : (s r : ℕ) → s < 2 ^ 32 → r < 2 ^ 32 → pos ((s + 2 ^ 32 + 2 ^ 31 - r) % 2 ^ 32) ≡ cast_signed w32 ((s + 2 ^ 32 - r) % 2 ^ 32) +ℤ pos
    (2 ^ 31)
at_remainder s r below small =
    let d : ℕ = (s + 2 ^ 32 - r) % 2 ^ 32 in
    ⊎_elim
    (λ (h : d < 2 ^ 31). ap pos (omega arith) ∙ ahead d h)
    (λ (h : 2 ^ 31 ≤ d). ap pos (omega arith) ∙ behind d h (omega arith))
    (cases_lt d (2 ^ 31))

pub lead_signed : LeadIsSignedDistance
unfolding lead
lead_signed base n s below = at_remainder s ((base + n) % 2 ^ 32) below (omega arith)
