-- Items behind the first ones of a list.
use Rattle.std.{proofs.Common.{◌≡◌, ℕ, ◌+◌, ◌-◌, ◌≤◌, List, drop, sym, ap, ◌∙◌, arith}, specs.List.{slice_get}}
use Rattle.run_account.proofs.Ended.{slice-drop}

-- what follows so many is the same, so each of it is
pub get-same_rest : {A : Type 0} (n : ℕ) (xs ys : List A) (i : ℕ) → drop n ys ≡ drop n xs → n ≤ i → slice_get ys i ≡ slice_get xs i
get-same_rest n xs ys i same past =
    let e : n + (i - n) ≡ i = omega arith in
    ap (slice_get ys) (sym e) ∙ sym (slice-drop n ys (i - n)) ∙ ap (λ l. slice_get l (i - n)) same ∙ slice-drop n xs (i - n) ∙ ap (slice_get xs) e
