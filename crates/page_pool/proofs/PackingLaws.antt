-- The parts of a packing.
use Rattle.std.proofs.Common.{◌≡◌, ℕ, zero, suc, ◌+◌, ◌-◌, ◌*◌, ◌<◌, ◌≤◌, min, List, [], ◌∷◌, ◌++◌}
use Rattle.std.proofs.Common.{length, append_assoc, length-append, refl, sym, ap, arith, true, false, Option, Some, None, All, sum_by, ⊎_elim, inl, inr, ◌∙◌}
use Rattle.std.{specs.Prelude.{slice_get}, proofs.lemmas.{Bool.{cases_Bool, cases_lt, leb-true}, Grind.{div_ceil_times}}}
use Rattle.std.proofs.{Math.Nat.{lt_of_mul-lt-mul_right, mul-le-mul_right}, lemmas.List.{Sums.{sum_by-cons}, Elements.{All-nil, All-cons, All-head, All-tail}}}
use Rattle.zr_kinds.specs.Limits.{longest_payload}
use Rattle.page_pool.specs.Packing.{Current, PayloadPart, fresh, fits, buffers_for, fresh_parts, needed, packing, taken}
use Rattle.page_pool.specs.Laws.{AreEnough, LiesWell, PackingIsWhole, PackingIsShort}

-- ---- fresh buffers

-- they have room for all
room : (least : ℕ) (sizes : List ℕ) → All (λ size. least ≤ size) sizes → length sizes * least ≤ sum_by (λ (s : ℕ). s) sizes
room least [] each = omega arith
room least (size ∷ sizes) each =
    let first = All-head (λ s. least ≤ s) size sizes each in
    let others = room least sizes (All-tail (λ s. least ≤ s) size sizes each) in
    simp sum_by-cons (omega (arith, first, others))

fresh_sum : (number : ℕ) (sizes : List ℕ) (len : ℕ) → len ≤ sum_by (λ (s : ℕ). s) sizes
    → sum_by (λ (p : PayloadPart). p.len) (fresh_parts number sizes len) ≡ len
fresh_sum number [] len within = omega (arith, within)
fresh_sum number (size ∷ sizes) zero within = refl
fresh_sum number (size ∷ sizes) (suc rest) within =
    let later = fresh_sum (suc number) sizes (suc rest - size) (omega (arith, simp sum_by-cons at within)) in
    simp sum_by-cons (grind (arith, later))

index_seam : (pre sizes : List ℕ) (size : ℕ) → slice_get (pre ++ size ∷ sizes) (length pre) ≡ Some size
index_seam [] sizes size = refl
index_seam (p ∷ pre) sizes size = index_seam pre sizes size

fresh_lie : (own : Option Current) (pre sizes : List ℕ) (len : ℕ) → All (LiesWell own (pre ++ sizes)) (fresh_parts (length pre) sizes len)
fresh_lie own pre [] len = All-nil _
fresh_lie own pre (size ∷ sizes) zero = All-nil _
fresh_lie own pre (size ∷ sizes) (suc rest) =
    let next : suc (length pre) ≡ length (pre ++ size ∷ []) = simp length-append (omega arith) in
    let all : (pre ++ size ∷ []) ++ sizes ≡ pre ++ size ∷ sizes = append_assoc pre (size ∷ []) sizes in
    let later : All (LiesWell own (pre ++ size ∷ sizes)) (fresh_parts (suc (length pre)) sizes (suc rest - size)) =
    rw (next, sym all) (fresh_lie own (pre ++ size ∷ []) sizes (suc rest - size)) in
    All-cons (LiesWell own (pre ++ size ∷ sizes)) (record { target = fresh (length pre); offset = 0; len = min size (suc rest) })
    (fresh_parts (suc (length pre)) sizes (suc rest - size))
    (record { size = size; size_is = index_seam pre sizes size; within = omega arith; aligned = refl })
    later

-- no bytes take no buffer
fresh_none : (number : ℕ) (sizes : List ℕ) → fresh_parts number sizes 0 ≡ []
fresh_none number [] = refl
fresh_none number (size ∷ sizes) = refl

-- each but the last is full
fresh_full : (least number : ℕ) (sizes : List ℕ) (len : ℕ) → 0 < least → All (λ size. least ≤ size) sizes
    → length (fresh_parts number sizes len) * least < len + least
fresh_full least number [] len some each = omega (arith, some)
fresh_full least number (size ∷ sizes) zero some each = omega (arith, some)
fresh_full least number (size ∷ sizes) (suc rest) some each =
    let first = All-head (λ s. least ≤ s) size sizes each in
    elim (cases_lt (suc rest) size) [
      | inl last ↦
          let gone : suc rest - size ≡ 0 = omega (arith, last) in
          let none : length (fresh_parts (suc number) sizes (suc rest - size)) ≡ 0 =
          ap (λ (n : ℕ). length (fresh_parts (suc number) sizes n)) gone ∙ ap length (fresh_none (suc number) sizes) in
          let one : suc (length (fresh_parts (suc number) sizes (suc rest - size))) * least ≡ 1 * least = ap (λ (n : ℕ). suc n * least) none in
          omega (arith, one)
      | inr more ↦
          let later = fresh_full least (suc number) sizes (suc rest - size) some (All-tail (λ s. least ≤ s) size sizes each) in
          omega (arith, first, more, later)
    ]

-- ---- the laws

abbrev pub IsWhole : Option Current → List ℕ → ℕ → Type 0
IsWhole own sizes len = (sum_by (λ (p : PayloadPart). p.len) (packing own sizes len) ≡ len) × All (LiesWell own sizes) (packing own sizes len)

fresh_whole : (least : ℕ) (own : Option Current) (sizes : List ℕ) (len : ℕ) → 0 < least → AreEnough least own sizes len → fits own len ≡ false
    → IsWhole own sizes len
fresh_whole least own sizes len some are long =
    let many : buffers_for least len ≤ length sizes = rw long at are.many in
    let enough : len ≤ buffers_for least len * least = (div_ceil_times len least some).0 in
    let all : length sizes * least ≤ sum_by (λ (s : ℕ). s) sizes = room least sizes are.each in
    let as_many = mul-le-mul_right least many in
    rw long (fresh_sum 0 sizes len (omega (arith, all, enough, as_many)), fresh_lie own [] sizes len)

current_whole : (own : Option Current) (sizes : List ℕ) (len : ℕ) → fits own len ≡ true → IsWhole own sizes len
current_whole None sizes len there = absurd (grind arith)
current_whole (Some own) sizes len there =
    rw there (
      omega arith,
      All-cons (LiesWell (Some own) sizes) _ []
          (record { size = own.size; size_is = refl; within = leb-true _ _ there; aligned = omega arith }) (All-nil _),
    )

pub packing_whole : PackingIsWhole
packing_whole least own sizes len some are = ⊎_elim (current_whole own sizes len) (fresh_whole least own sizes len some are) (cases_Bool (fits own len))

abbrev IsShort : ℕ → Option Current → List ℕ → ℕ → Type 0
IsShort least own sizes len = (taken own sizes len ≤ needed least own len) × (length (packing own sizes len) ≤ 64)

current_short : (least : ℕ) (own : Option Current) (sizes : List ℕ) (len : ℕ) → fits own len ≡ true → IsShort least own sizes len
current_short least None sizes len there = absurd (grind arith)
current_short least (Some own) sizes len there = rw there (omega arith, omega arith)

fresh_short : (least : ℕ) (own : Option Current) (sizes : List ℕ) (len : ℕ) → 1024 ≤ least → len ≤ longest_payload → AreEnough least own sizes len
    → fits own len ≡ false → IsShort least own sizes len
fresh_short least own sizes len size most are long =
    let some : 0 < least = omega (arith, size) in
    let full = fresh_full least 0 sizes len some are.each in
    let times = div_ceil_times len least some in
    let parts = length (fresh_parts 0 sizes len) in
    let few : parts < buffers_for least len + 1 =
    lt_of_mul-lt-mul_right least {m = parts} {n = buffers_for least len + 1} (omega (arith, full, times.0)) in
    let close : buffers_for least len < 65 = lt_of_mul-lt-mul_right least {m = buffers_for least len} {n = 65} (omega (arith, times.1, size, most)) in
    rw long (omega (arith, few), omega (arith, few, close))

pub packing_short : PackingIsShort
packing_short least own sizes len size most are =
    ⊎_elim (current_short least own sizes len) (fresh_short least own sizes len size most are) (cases_Bool (fits own len))
