-- The bytes of a flow from a position on, and a frame's length.
use Rattle.std.proofs.Common.{◌≡◌, ℕ, zero, suc, ◌+◌, ◌*◌, ◌%◌, [], ◌∷◌, ◌++◌, length, refl, ap, ◌∙◌, add-one, arith}
use Rattle.cap_make.specs.{declared.piece.Piece.{Piece}, GeneratedCapture.{bytes_from, frame_of_piece}}

pub length-bytes_from : (shift p n : ℕ) → length (bytes_from shift p n) ≡ n
length-bytes_from shift p zero = refl
length-bytes_from shift p (suc n) = ap suc (length-bytes_from shift (p + 1) n)

-- one byte more
snoc : (shift p n : ℕ) → bytes_from shift p n ++ (p + n + shift) % 256 ∷ [] ≡ bytes_from shift p (suc n)
snoc shift p zero = let e : p + 0 + shift ≡ p + shift = omega arith in ap (λ m. m % 256 ∷ []) e
snoc shift p (suc n) =
    let e : p + suc n + shift ≡ p + 1 + n + shift = omega arith in
    ap (λ l. (p + shift) % 256 ∷ l) (ap (λ m. bytes_from shift (p + 1) n ++ m % 256 ∷ []) e ∙ snoc shift (p + 1) n)

pub bytes_from-snoc : (shift p n : ℕ) → bytes_from shift p n ++ (p + n + shift) % 256 ∷ [] ≡ bytes_from shift p (n + 1)
bytes_from-snoc shift p n = rw (add-one n) (snoc shift p n)

-- a frame has 54 bytes of headers
pub length-frame_of : (seed : ℕ) (piece : Piece) → length (frame_of_piece seed piece) ≡ 54 + piece.count
length-frame_of seed piece = omega (arith, length-bytes_from (31 * piece.flow + seed) piece.first piece.count)
