-- Buffers for filling keep what their tokens need.
use Rattle.std.proofs.{Common.{◌≡◌, ℕ, ◌+◌, ◌%◌, ◌^◌, ◌≤◌, zero, suc, arith}, Math.Nat.{pow-suc}}
use Rattle.area_layout.{specs.Layout.{IsLayout, IsBufferSize, size_of}, proofs.Words.{words_apart}}
use Rattle.board_face.specs.{Tokens.{FitsBuffer, filled_by}, NicEvents.{fresh}, declared.views.parts.{Filling.{Filling}, Setting.{Setting}}}

-- what is filled ends within the buffer
pub FitsBuffer-filled_by : (own : Filling) (n : ℕ) → FitsBuffer own → own.start + n ≤ own.size → FitsBuffer (filled_by own n)
FitsBuffer-filled_by own n fits within = record { start = omega (arith, fits.whole); size = fits.size; whole = fits.whole; aligned = omega arith }

-- a power of two from 64 on is a multiple of 64
sixty-fours : (k n : ℕ) → n ≡ 2 ^ k → 64 ≤ n → n % 64 ≡ 0
sixty-fours zero n e h = omega arith
sixty-fours (suc zero) n e h = omega arith
sixty-fours (suc (suc zero)) n e h = omega arith
sixty-fours (suc (suc (suc zero))) n e h = omega arith
sixty-fours (suc (suc (suc (suc zero)))) n e h = omega arith
sixty-fours (suc (suc (suc (suc (suc zero))))) n e h = omega arith
sixty-fours (suc (suc (suc (suc (suc (suc k)))))) n e h =
    let a = pow-suc 2 (suc (suc (suc (suc (suc k))))) in
    let b = pow-suc 2 (suc (suc (suc (suc k)))) in
    let c = pow-suc 2 (suc (suc (suc k))) in
    let d = pow-suc 2 (suc (suc k)) in
    let f = pow-suc 2 (suc k) in
    let g = pow-suc 2 k in
    omega arith

-- so is the size of a buffer
pub whole-size : (size : ℕ) → IsBufferSize size → size % 64 ≡ 0
whole-size size good = let least = good.least in sixty-fours good.power.0 size good.power.1 (omega arith)

pub FitsBuffer-fresh : (setting : Setting) (buffer : ℕ) → IsLayout setting.layout → FitsBuffer (fresh setting buffer)
FitsBuffer-fresh setting buffer layout =
    let size = (words_apart setting.layout layout).size buffer in
    record { start = omega arith; size = size.most; whole = whole-size (size_of setting.layout buffer) size; aligned = omega arith }
