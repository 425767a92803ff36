-- How far a loop has sent a piece.
use Rattle.std.proofs.Common.{◌≡◌, ℕ, ◌+◌, ◌-◌, ◌≤◌, List, ◌++◌, length, take, drop, Option, sym, ap, subst, ◌∙◌, arith, length-drop, length-take-le, take-append-drop}
use Rattle.std.{proofs.{lemmas.List.{drop-drop, take_rest}, Math.Seq.{take-append-add}, KnownBytes.{Appends-trans}}, specs.Io.KnownBytes.{Appends}}

-- the rest is still to be sent, and what stands before it in the piece went out
pub record IsSending (old new : Option (List ℕ)) (piece rest : List ℕ) : Type 0 where
  pub within : length rest ≤ length piece
  pub rest_is : rest ≡ drop (length piece - length rest) piece
  pub sent : Appends old new (take (length piece - length rest) piece)

-- the front of a piece, in two steps
take_then : (k n : ℕ) (piece : List ℕ) → k ≤ length piece → take k piece ++ take n (drop k piece) ≡ take (k + n) piece
take_then k n piece within =
    let size : length (take k piece) ≡ k = length-take-le k piece within in
    sym (take-append-add (take k piece) (drop k piece) n) ∙ ap (λ m. take (m + n) (take k piece ++ drop k piece)) size
    ∙ ap (take (k + n)) (take-append-drop k piece)

-- after a write of n bytes
pub goes_on : (a b c : Option (List ℕ)) (piece rest : List ℕ) (n : ℕ) → IsSending a b piece rest → n ≤ length rest → Appends b c (take n rest)
    → IsSending a c piece (take (length rest - n) (drop n rest))
goes_on a b c piece rest n sending fits more =
    let left : take (length rest - n) (drop n rest) ≡ drop n rest = take_rest rest n in
    let k = length piece - length rest in
    let size : length (drop n rest) ≡ length rest - n = length-drop n rest in
    let gone : length piece - length (drop n rest) ≡ k + n = omega (arith, sending.within) in
    let rest_now : drop n rest ≡ drop (k + n) piece = ap (drop n) sending.rest_is ∙ drop-drop n k piece in
    let front : take k piece ++ take n rest ≡ take (k + n) piece = ap (λ l. take k piece ++ take n l) sending.rest_is
    ∙ take_then k n piece (omega arith) in
    rw left record {
      within = omega (arith, sending.within);
      rest_is = rest_now ∙ ap (λ m. drop m piece) (sym gone);
      sent = subst (Appends a c) (front ∙ ap (λ m. take m piece) (sym gone)) (Appends-trans a b c _ _ sending.sent more);
    }
