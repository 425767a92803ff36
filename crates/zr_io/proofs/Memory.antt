-- What a read from a list gives.
use Rattle.std.proofs.Common.{◌≡◌, ℕ, ◌+◌, ◌-◌, ◌<◌, ◌≤◌, min, List, [], ◌++◌, length, take, drop, sym, ap, ◌∙◌, arith, length-take, length-drop, take-append-drop}
use Rattle.std.proofs.lemmas.List.{drop-drop, drop_all, take_rest, take_at}

-- the bytes that were copied and the bytes after them are all that was left
pub read_front : (left bytes copied more : List ℕ) (taken n : ℕ) → drop taken bytes ≡ left
    → copied ≡ take n left → n ≤ length left
    → left ≡ take n (copied ++ more) ++ drop (taken + n) bytes
read_front left bytes copied more taken n here front fits =
    let count : length copied ≡ n = omega (arith, ap length front, length-take n left) in
    let rest : drop (taken + n) bytes ≡ drop n left = sym (drop-drop n taken bytes) ∙ ap (drop n) here in
    sym (take-append-drop n left) ∙ ap (λ l. l ++ drop n left) (sym front ∙ sym (take_at copied more n count))
    ∙ ap (λ l. take n (copied ++ more) ++ l) (sym rest)

-- A read took the bytes that it copied, and came to the end if there were none, where it has room for one.
pub read_took : (left bytes slice copied more : List ℕ) (taken n room : ℕ) → slice ≡ bytes → drop taken bytes ≡ left
    → copied ≡ take n (take (length slice - taken) (drop taken slice))
    → n ≡ min room (length (take (length slice - taken) (drop taken slice))) → 0 < room
    → (left ≡ take n (copied ++ more) ++ drop (taken + n) bytes) × (n ≡ 0 → 0 < length (copied ++ more) → drop (taken + n) bytes ≡ [])
read_took left bytes slice copied more taken n room same here copy count some =
    let whole : take (length slice - taken) (drop taken slice) ≡ left = take_rest slice taken ∙ ap (drop taken) same ∙ here in
    let counted : n ≡ min room (length left) = count ∙ ap (λ l. min room (length l)) whole in
    let size : length left ≡ length bytes - taken = ap length (sym here) ∙ length-drop taken bytes in
    (read_front left bytes copied more taken n here (copy ∙ ap (take n) whole) (omega arith), λ none full. drop_all (taken + n) bytes (omega arith))
