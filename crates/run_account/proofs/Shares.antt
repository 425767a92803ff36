-- The entries of each application, added up over the applications.
use Rattle.std.{proofs.Common.{◌≡◌, ℕ, zero, suc, ◌+◌, ◌*◌, ◌<◌, ◌≤◌, ◌==◌, List, [], ◌∷◌, length, arith}, specs.Prelude.{All}}
use Rattle.std.proofs.lemmas.List.Elements.{All-head, All-tail}
use Rattle.board_face.{specs.declared.views.nic.Dealt.{Dealt}, proofs.Tallies.{tally}}
use Rattle.run_account.proofs.FlowSums.{over, over-add, over-zero, only, over-one}

-- the entries of each application are together all of them
pub shares : (n : ℕ) (dealt : List Dealt) → All (λ (d : Dealt). d.app < n) dealt → over (λ a. tally (λ (d : Dealt). d.app == a) dealt) 0 n ≡ length dealt
shares n [] below = over-zero 0 n
shares n (d ∷ dealt) below =
    let more : over (λ a. tally (λ (e : Dealt). e.app == a) (d ∷ dealt)) 0 n
    ≡ over (only d.app 1) 0 n + over (λ a. tally (λ (e : Dealt). e.app == a) dealt) 0 n =
    over-add (only d.app 1) (λ a. tally (λ (e : Dealt). e.app == a) dealt) 0 n in
    let one : over (only d.app 1) 0 n ≡ 1 =
    over-one d.app 1 0 n (omega arith) (omega (arith, All-head (λ (e : Dealt). e.app < n) d dealt below)) in
    omega (arith, more, one, shares n dealt (All-tail (λ (e : Dealt). e.app < n) d dealt below))

-- where none of these is more than so many
pub over-most : (g : ℕ → ℕ) (most from k : ℕ) → ((n : ℕ) → from ≤ n → n < from + k → g n ≤ most) → over g from k ≤ k * most
over-most g most from zero each = omega arith
over-most g most from (suc k) each =
    let first : g from ≤ most = each from (omega arith) (omega arith) in
    let later : over g (suc from) k ≤ k * most = over-most g most (suc from) k
    (λ n above below. each n (omega (arith, above)) (omega (arith, below))) in
    let product : suc k * most ≡ most + k * most = omega arith in
    omega (arith, first, later, product)
