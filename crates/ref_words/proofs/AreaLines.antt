-- Lines lie in one buffer each: those of two buffers are apart, and all lie in the area.
use Rattle.std.proofs.{Common.{◌≡◌, ℕ, zero, suc, ◌/◌, ◌%◌, ◌^◌, ◌<◌, ◌≤◌, refl, ap, arith, inl, inr}, Math.Nat.{pow-suc}, lemmas.Bool.{cases_lt}}
use Rattle.area_layout.{specs.Layout.{Shape, IsLayout, all_buffers, size_of, begin_of}, proofs.Words.{size-fits, begins-apart}}
use Rattle.ref_words.specs.Lines.{first_line, line_at, area_lines}

-- a power of two from 64 on is a multiple of 64
sixty-fours : (k n : ℕ) → n ≡ 2 ^ k → 64 ≤ n → n % 64 ≡ 0
sixty-fours zero n e h = omega arith
sixty-fours (suc zero) n e h = omega arith
sixty-fours (suc (suc zero)) n e h = omega arith
sixty-fours (suc (suc (suc zero))) n e h = omega arith
sixty-fours (suc (suc (suc (suc zero)))) n e h = omega arith
sixty-fours (suc (suc (suc (suc (suc zero))))) n e h = omega arith
sixty-fours (suc (suc (suc (suc (suc (suc k)))))) n e h =
    omega (
      arith,
      e,
      pow-suc 2 k,
      pow-suc 2 (suc k),
      pow-suc 2 (suc (suc k)),
      pow-suc 2 (suc (suc (suc k))),
      pow-suc 2 (suc (suc (suc (suc k)))),
      pow-suc 2 (suc (suc (suc (suc (suc k))))),
    )

-- a buffer has whole lines, and so have those before it
pub size-lines : (shape : Shape) (b : ℕ) → IsLayout shape → size_of shape b % 64 ≡ 0
size-lines shape b l = let fits = size-fits shape b l in sixty-fours fits.power.0 (size_of shape b) fits.power.1 (omega (arith, fits.least))

pub begin-lines : (shape : Shape) (b : ℕ) → IsLayout shape → begin_of shape b % 64 ≡ 0
begin-lines shape zero l = refl
begin-lines shape (suc b) l = omega (arith, begin-lines shape b l, size-lines shape b l)

-- a line of a buffer lies before those of each later one
lines-before : (shape : Shape) → IsLayout shape → (b c o p : ℕ) → b < c → o < size_of shape b → line_at shape b o < line_at shape c p
lines-before shape l b c o p less within = omega (arith, begins-apart shape b c less, begin-lines shape b l, begin-lines shape c l)

pub line-within : (shape : Shape) → IsLayout shape → (b o : ℕ) → b < all_buffers shape → o < size_of shape b → line_at shape b o < area_lines shape
line-within shape l b o there within = omega (
  arith,
  begins-apart shape b (all_buffers shape) there,
  begin-lines shape b l,
  begin-lines shape (all_buffers shape) l,
)

-- So a line is one buffer's, and has one number there.
pub lines_apart : (shape : Shape) → IsLayout shape → (b c o p : ℕ) → b < all_buffers shape → c < all_buffers shape → o < size_of shape b → p < size_of shape c
    → line_at shape b o ≡ line_at shape c p → (b ≡ c) × (o / 64 ≡ p / 64)
lines_apart shape l b c o p b_there c_there o_within p_within same =
    elim (cases_lt b c) [
      | inl less ↦ absurd (omega (arith, lines-before shape l b c o p less o_within, same))
      | inr from ↦
          elim (cases_lt c b) [
            | inl less ↦ absurd (omega (arith, lines-before shape l c b p o less p_within, same))
            | inr to ↦ let e : b ≡ c = omega arith in (e, omega (arith, ap (first_line shape) e, same))
          ]
    ]
