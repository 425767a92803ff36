-- A listed buffer is one more than those below it, so there is room for it.
use Rattle.std.proofs.Common.{◌≡◌, ℕ, zero, suc, ◌<◌, ◌≢◌, Bool, true, List, [], ◌∷◌, ◌++◌, length, ap, refl, arith, ⊎_elim, length-append}
use Rattle.std.proofs.lemmas.Bool.Decides.{eqb_tells}
use Rattle.board_parts.specs.Free.{listed_in, listed_below}
use Rattle.board_parts.proofs.free.append_listed.Goals as goal

one-more : (listed : List Bool) (m : ℕ) → listed_in listed m ≡ true → listed_below listed (suc m) ≡ listed_below listed m ++ m ∷ []
one-more listed m is = rw is refl

fewer-below : (listed : List Bool) (m n : ℕ) → m < n → listed_in listed m ≡ true → length (listed_below listed m) < length (listed_below listed n)
fewer-below listed m zero lower is = absurd (omega arith)
fewer-below listed m (suc n) lower is = ⊎_elim
    (λ t. omega (
      arith,
      ap (λ k. length (listed_below listed (suc k))) t.1,
      ap length (one-more listed m is),
      length-append (listed_below listed m) (m ∷ []),
    ))
    (λ t. let ne : m ≢ n = t.1 in omega (arith, fewer-below listed m n (omega arith) is, length-append {A = ℕ}))
    (eqb_tells m n)

pub push_reserved-requires : goal.push_reserved-requires
push_reserved-requires c =
    let more = fewer-below c.args.listed.now c.loop-buffer.buffer (length c.args.listed.now) (omega arith) c.if-listed-buffer.true in
    omega (arith, ap length c.loop-buffer.invariant.items, length-append {A = ℕ})
