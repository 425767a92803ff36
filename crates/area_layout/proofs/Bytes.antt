-- Numbers as bytes and back, and the entries made of them.
use Rattle.std.proofs.Common.{◌≡◌, ℕ, zero, suc, ◌+◌, ◌*◌, ◌/◌, ◌%◌, ◌^◌, ◌<◌, ◌≤◌, List, [], ◌∷◌, ◌++◌, length}
use Rattle.std.proofs.Common.{take, drop, slice_index, replicate, ℤ, Bool, if◌then◌else◌, ◌≢◌, Some, None, refl, sym, ap, ◌∙◌, arith}
use Rattle.std.proofs.{Math.Nat.{div-div-eq-div-mul, pow-succ'}, lemmas.List.{take-append-drop, drop-drop, length-drop, get_or-drop, drop_all, take_all}}
use Rattle.std.{proofs.lemmas.{Bool.{eq-eqb, ne_eqb}, Int.{of_z-to_z}}, specs.Int.{byte_at, bytes_low_first, cast_signed}}
use mir.Syntax.{w32}
use Rattle.byteorder.specs.{Endian.{little_from, little_number, little_bytes}, Numbers.{little_from-cons, little_from-lt}}
use Rattle.area_layout.specs.Entries.{refill_bytes, refill_of, completion_bytes, completion_of, completion_read}
use Rattle.zr_kinds.specs.declared.ring.Completion.{Completion}

-- the byte at the next place is that of the number's 256th part
byte_at-suc : (j n : ℕ) → byte_at (suc j) n ≡ byte_at j (n / 256)
byte_at-suc zero n = refl
byte_at-suc (suc j) n =
    ap (λ (p : ℕ). n / p % 256) (pow-succ' 256 (suc j)) ∙ ap (λ (x : ℕ). x % 256) (sym (div-div-eq-div-mul n 256 (256 ^ suc j)))

bytes_low_first-suc : (j k n : ℕ) → bytes_low_first (suc j) k n ≡ bytes_low_first j k (n / 256)
bytes_low_first-suc j zero n = refl
bytes_low_first-suc j (suc k) n =
    ap (λ (b : ℕ). b ∷ bytes_low_first (suc (suc j)) k n) (byte_at-suc j n)
    ∙ ap (λ (bs : List ℕ). byte_at j (n / 256) ∷ bs) (bytes_low_first-suc (suc j) k n)

-- the bytes of the number in the first n bytes are these bytes
pub little_bytes-number : (n : ℕ) (xs : List ℕ) → n ≤ length xs → ((i : ℕ) → slice_index xs i < 256)
    → little_bytes n (little_number n xs) ≡ take n xs
little_bytes-number zero xs h small = refl
little_bytes-number (suc n) [] h small = absurd (omega arith)
little_bytes-number (suc n) (x ∷ xs) h small =
    let rest = little_bytes-number n xs (omega arith) (λ i. small (suc i)) in
    let below : x < 256 = small 0 in
    let moved = little_from-cons 0 n x xs in
    let low : (x + 256 * little_from 1 n (x ∷ xs)) % 256 ≡ x = omega arith in
    let high : (x + 256 * little_from 1 n (x ∷ xs)) / 256 ≡ little_from 0 n xs = omega arith in
    ap (λ (b : ℕ). b ∷ bytes_low_first 1 n (x + 256 * little_from 1 n (x ∷ xs))) low
    ∙ ap (λ (bs : List ℕ). x ∷ bs) (bytes_low_first-suc 0 n (x + 256 * little_from 1 n (x ∷ xs)))
    ∙ ap (λ (m : ℕ). x ∷ bytes_low_first 0 n m) high
    ∙ ap (λ (bs : List ℕ). x ∷ bs) rest

-- one field of an entry, in front of the others
pub field_back : (n : ℕ) (xs rest : List ℕ) → n ≤ length xs → ((i : ℕ) → slice_index xs i < 256) → rest ≡ drop n xs
    → little_bytes n (little_number n xs) ++ rest ≡ xs
field_back n xs rest h small same =
    ap (λ (bs : List ℕ). bs ++ rest) (little_bytes-number n xs h small) ∙ ap (λ (bs : List ℕ). take n xs ++ bs) same ∙ take-append-drop n xs

-- ---- entries

pub small_behind : (n : ℕ) (xs : List ℕ) → ((i : ℕ) → slice_index xs i < 256) → (i : ℕ) → slice_index (drop n xs) i < 256
small_behind n xs small i = let e = get_or-drop n xs i 0 in omega (arith, small (n + i))

-- nothing stands behind the last field
nothing_behind : (m n : ℕ) (xs : List ℕ) → length xs ≡ m + n → [] ≡ drop n (drop m xs)
nothing_behind m n xs len = sym (drop-drop n m xs ∙ drop_all (m + n) xs (omega arith))

-- the bytes of an entry that was read are those that it was read from
pub refill_back : (xs : List ℕ) → length xs ≡ 16 → ((i : ℕ) → slice_index xs i < 256) → refill_bytes (refill_of xs) ≡ xs
refill_back xs len small =
    let all = length-drop 8 xs in
    let last = length-drop 12 xs in
    let pad = field_back 4 (drop 12 xs) [] (omega arith) (small_behind 12 xs small) (nothing_behind 12 4 xs (omega arith)) in
    let lent = field_back 4 (drop 8 xs) (little_bytes 4 (little_number 4 (drop 12 xs)) ++ []) (omega arith) (small_behind 8 xs small)
    (pad ∙ sym (drop-drop 4 8 xs)) in
    field_back 8 xs (little_bytes 4 (little_number 4 (drop 8 xs)) ++ (little_bytes 4 (little_number 4 (drop 12 xs)) ++ [])) (omega arith) small lent

pub pad_zeros : (xs : List ℕ) → length xs ≡ 8 → ((i : ℕ) → slice_index xs i < 256) → little_number 8 xs ≡ 0 → xs ≡ replicate 8 0
pad_zeros xs len small none =
    sym (take_all 8 xs (omega arith)) ∙ sym (little_bytes-number 8 xs (omega arith) small) ∙ ap (little_bytes 8) none

-- ---- completions

pub read_none : (xs : List ℕ) → little_number 8 (drop 24 xs) ≢ 0 → None ≡ completion_read xs
read_none xs padded = ap (λ (b : Bool). if b then Some (completion_of xs) else None) (sym (ne_eqb (little_number 8 (drop 24 xs)) 0 padded))

pub read_some : (xs : List ℕ) → little_number 8 (drop 24 xs) ≡ 0 → Some (completion_of xs) ≡ completion_read xs
read_some xs padded = ap (λ (b : Bool). if b then Some (completion_of xs) else None) (sym (eq-eqb (little_number 8 (drop 24 xs)) 0 padded))

pub completion_back : (xs : List ℕ) → length xs ≡ 32 → ((i : ℕ) → slice_index xs i < 256) → little_number 8 (drop 24 xs) ≡ 0
    → completion_bytes (completion_of xs) ≡ xs
completion_back xs len small none =
    let l8 = length-drop 8 xs in
    let l12 = length-drop 12 xs in
    let l16 = length-drop 16 xs in
    let l24 = length-drop 24 xs in
    let pad = ap (λ (n : ℕ). little_bytes 8 n ++ []) (sym none)
    ∙ field_back 8 (drop 24 xs) [] (omega arith) (small_behind 24 xs small) (nothing_behind 24 8 xs (omega arith)) in
    let off = field_back 8 (drop 16 xs) _ (omega arith) (small_behind 16 xs small) (pad ∙ sym (drop-drop 8 16 xs)) in
    let flags = field_back 4 (drop 12 xs) _ (omega arith) (small_behind 12 xs small) (off ∙ sym (drop-drop 4 12 xs)) in
    let res = field_back 4 (drop 8 xs) _ (omega arith) (small_behind 8 xs small) (flags ∙ sym (drop-drop 4 8 xs)) in
    let bits = of_z-to_z w32 (little_number 4 (drop 8 xs)) (little_from-lt 0 4 (drop 8 xs) (small_behind 8 xs small)) in
    ap (λ (n : ℕ). little_bytes 8 (little_number 8 xs) ++
    (little_bytes 4 n ++ (little_bytes 4 (little_number 4 (drop 12 xs))
    ++ (little_bytes 8 (little_number 8 (drop 16 xs)) ++ (little_bytes 8 0 ++ []))))) bits
    ∙ field_back 8 xs _ (omega arith) small res

pub same_completion : (xs : List ℕ) (user_data : ℕ) (res : ℤ) (flags off : ℕ)
    → user_data ≡ little_number 8 xs → res ≡ cast_signed w32 (little_number 4 (drop 8 xs)) → flags ≡ little_number 4 (drop 12 xs)
    → off ≡ little_number 8 (drop 16 xs)
    → Some (record { user_data = user_data; res = res; flags = flags; off = off }) ≡ Some (completion_of xs)
same_completion xs user_data res flags off a b c d = cc

pub some_back : (xs : List ℕ) (c : Completion) → Some c ≡ Some (completion_of xs) → completion_bytes (completion_of xs) ≡ xs
    → completion_bytes c ≡ xs
some_back xs c same back = let e : c ≡ completion_of xs = cc in ap completion_bytes e ∙ back
