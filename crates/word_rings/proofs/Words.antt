-- Lists of bytes as words, and back.
use Rattle.std.proofs.Common.{◌≡◌, ℕ, zero, suc, ◌+◌, ◌*◌, ◌-◌, ◌^◌, ◌<◌, ◌≤◌, List, [], ◌∷◌, ◌++◌, length}
use Rattle.std.proofs.{Common.{take, drop, slice_index, replicate, sym, ap, ◌∙◌, arith, refl}, Math.Seq.{take-append_seam}}
use Rattle.std.proofs.lemmas.List.{get_or-drop, take-append-drop, drop-drop, length-drop, length-append, length-replicate}
use Rattle.byteorder.specs.{Endian.{little_from, little_number}, Numbers.{little_number-reads_back, length-bytes_low_first}}
use Rattle.area_layout.proofs.Bytes.{little_bytes-number, small_behind}
use Rattle.word_rings.specs.Slots.{words_of, bytes_of_words}

-- ---- what a number in bytes reads

pub same_number : (i n : ℕ) (xs ys : List ℕ) → ((j : ℕ) → slice_index xs j ≡ slice_index ys j) → little_from i n xs ≡ little_from i n ys
same_number i zero xs ys same = refl
same_number i (suc n) xs ys same = rw (same i, same_number (suc i) n xs ys same) refl

same_behind : (n : ℕ) (xs ys : List ℕ) → ((j : ℕ) → slice_index xs j ≡ slice_index ys j) → (j : ℕ)
    → slice_index (drop n xs) j ≡ slice_index (drop n ys) j
same_behind n xs ys same j = get_or-drop n xs j 0 ∙ same (n + j) ∙ sym (get_or-drop n ys j 0)

-- words look at bytes alone
pub same_words : (n : ℕ) (xs ys : List ℕ) → ((j : ℕ) → slice_index xs j ≡ slice_index ys j) → words_of n xs ≡ words_of n ys
same_words zero xs ys same = refl
same_words (suc n) xs ys same = rw (same_number 0 8 xs ys same, same_words n (drop 8 xs) (drop 8 ys) (same_behind 8 xs ys same)) refl

-- ---- words one by one

-- numbers read one after another are these words
pub words_are : (n : ℕ) (bytes dst : List ℕ) → length dst ≡ n
    → ((k : ℕ) → k < length dst → slice_index dst k ≡ little_number 8 (drop (8 * k) bytes)) → dst ≡ words_of n bytes
words_are zero bytes [] len read = refl
words_are zero bytes (x ∷ dst) len read = absurd (omega arith)
words_are (suc n) bytes [] len read = absurd (omega arith)
words_are (suc n) bytes (x ∷ dst) len read =
    let first : x ≡ little_number 8 bytes = read 0 (omega arith) in
    let rest = words_are n (drop 8 bytes) dst (omega arith) (λ k lt.
    let place : 8 * suc k ≡ 8 + 8 * k = omega arith in
    read (suc k) (omega arith) ∙ ap (λ (m : ℕ). little_number 8 (drop m bytes)) place
    ∙ ap (little_number 8) (sym (drop-drop (8 * k) 8 bytes))) in
    rw (first, rest) refl

-- ---- there and back

-- the bytes of the words of so many bytes are these bytes
pub bytes_back : (n : ℕ) (xs : List ℕ) → length xs ≡ 8 * n → ((i : ℕ) → slice_index xs i < 256) → bytes_of_words (words_of n xs) ≡ xs
bytes_back zero [] len small = refl
bytes_back zero (x ∷ xs) len small = absurd (omega arith)
bytes_back (suc n) xs len small =
    let behind = length-drop 8 xs in
    let first = little_bytes-number 8 xs (omega arith) small in
    let rest = bytes_back n (drop 8 xs) (omega arith) (small_behind 8 xs small) in
    ap (λ (bs : List ℕ). bs ++ bytes_of_words (words_of n (drop 8 xs))) first ∙ ap (λ (bs : List ℕ). take 8 xs ++ bs) rest
    ∙ take-append-drop 8 xs

-- the words of the bytes of these words are these words
pub words_back : (ws : List ℕ) → ((k : ℕ) → slice_index ws k < 2 ^ 64) → words_of (length ws) (bytes_of_words ws) ≡ ws
words_back [] small = refl
words_back (w ∷ ws) small =
    let first = little_number-reads_back 8 w (bytes_of_words ws) (small 0) in
    let len = length-bytes_low_first 0 8 w in
    let rest = words_back ws (λ k. small (suc k)) in
    rw (first) (ap (λ (r : List ℕ). w ∷ r) rest)

-- ---- a text with zeros behind it

pub zero_in : (n i : ℕ) → slice_index (replicate n 0) i ≡ 0
zero_in zero i = refl
zero_in (suc n) zero = refl
zero_in (suc n) (suc i) = zero_in n i

pub zero_behind : (n m i : ℕ) → slice_index (drop n (replicate m 0)) i ≡ 0
zero_behind n m i = get_or-drop n (replicate m 0) i 0 ∙ zero_in m (n + i)

pub same_padded : (xs zeros : List ℕ) → ((i : ℕ) → slice_index zeros i ≡ 0) → (j : ℕ) → slice_index (xs ++ zeros) j ≡ slice_index xs j
same_padded [] zeros none j = none j
same_padded (x ∷ xs) zeros none zero = refl
same_padded (x ∷ xs) zeros none (suc j) = same_padded xs zeros none j

-- words have zeros behind a text anyway
pub padded_words : (n m k : ℕ) (xs : List ℕ) → words_of n (xs ++ drop k (replicate m 0)) ≡ words_of n xs
padded_words n m k xs = same_words n (xs ++ drop k (replicate m 0)) xs (same_padded xs (drop k (replicate m 0)) (zero_behind k m))

-- the first bytes of the words of a text with zeros behind it are the text
pub text_back : (xs : List ℕ) (m n : ℕ) → length xs ≤ m → m ≡ 8 * n → ((i : ℕ) → slice_index xs i < 256)
    → take (length xs) (bytes_of_words (words_of n (xs ++ drop (length xs) (replicate m 0)))) ≡ xs
text_back xs m n few whole small =
    let zeros = drop (length xs) (replicate m 0) in
    let behind : length zeros ≡ m - length xs = length-drop (length xs) (replicate m 0) ∙ ap (λ (k : ℕ). k - length xs) (length-replicate m 0) in
    let long : length (xs ++ zeros) ≡ length xs + length zeros = length-append xs zeros in
    let len : length (xs ++ zeros) ≡ 8 * n = omega arith in
    let below : (i : ℕ) → slice_index (xs ++ zeros) i < 256 = λ i.
    let at = same_padded xs zeros (zero_behind (length xs) m) i in omega (arith, small i) in
    ap (take (length xs)) (bytes_back n (xs ++ zeros) len below) ∙ take-append_seam xs zeros
