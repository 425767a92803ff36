-- One more numbered line.
use Rattle.std.proofs.Common.{◌≡◌, ℕ, zero, suc, ◌+◌, ◌<◌, List, [], ◌∷◌, ◌++◌, length, get_or, take, sym, ap, ◌∙◌, append_assoc, append-nil, add-one, arith}
use Rattle.std.specs.List.{flat_map, enumerate_from}
use Rattle.top_call.specs.Report.{numbered_lines}

more_from : {T : Type 0} (line : ℕ → T → List ℕ) (first : ℕ) (items : List T) (i n : ℕ) (d : T) → n ≡ first + i → i < length items
    → flat_map (λ e. line e.0 e.1) (enumerate_from first (take i items)) ++ line n (get_or items i d)
    ≡ flat_map (λ e. line e.0 e.1) (enumerate_from first (take (suc i) items))
more_from line first [] i n d is within = absurd (omega (arith, within))
more_from line first (x ∷ items) zero n d is within =
    let same : n ≡ first = omega (arith, is) in ap (λ m. line m x) same ∙ sym (append-nil (line first x))
more_from line first (x ∷ items) (suc i) n d is within =
    append_assoc (line first x) _ _ ∙ ap (λ rest. line first x ++ rest) (more_from line (first + 1) items i n d (omega (arith, is)) (omega (arith, within)))

-- the lines of the first i items and the line of the next
pub numbered_more : {T : Type 0} (line : ℕ → T → List ℕ) (items : List T) (i : ℕ) (d : T) → i < length items
    → numbered_lines line (take i items) ++ line i (get_or items i d) ≡ numbered_lines line (take (i + 1) items)
numbered_more line items i d within = rw (add-one i) (more_from line 0 items i i d (omega arith) within)

more : {T : Type 0} (line : T → List ℕ) (items : List T) (i : ℕ) (d : T) → i < length items
    → flat_map line (take i items) ++ line (get_or items i d) ≡ flat_map line (take (suc i) items)
more line [] i d within = absurd (omega (arith, within))
more line (x ∷ items) zero d within = sym (append-nil (line x))
more line (x ∷ items) (suc i) d within =
    append_assoc (line x) _ _ ∙ ap (λ rest. line x ++ rest) (more line items i d (omega (arith, within)))

-- the lines of the first i items and the line of the next, without numbers
pub mapped_more : {T : Type 0} (line : T → List ℕ) (items : List T) (i : ℕ) (d : T) → i < length items
    → flat_map line (take i items) ++ line (get_or items i d) ≡ flat_map line (take (i + 1) items)
mapped_more line items i d within = rw (add-one i) (more line items i d within)
