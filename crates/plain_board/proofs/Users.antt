-- Where the counts of an application in a buffer stand: one of them raised or lowered leaves all others.
use Rattle.std.{proofs.Common.{◌≡◌, ℕ, ◌+◌, ◌*◌, ◌<◌, List, length, set, get_or, ap, sym, subst, arith, inr, ⊎_elim}, specs.Prelude.{◌≢◌, ◌⊎◌, ◌==◌}}
use Rattle.std.proofs.lemmas.{List.{get_or-set_same, get_or-set_other}, Nat.{mul-add-lt}, Bool.Decides.{eqb_tells}}
use Rattle.area_layout.specs.Layout.{all_buffers}
use Rattle.board_face.proofs.Tallies.{one_if}
use Rattle.board_parts.specs.Counts.{user_at}
use Rattle.plain_board.{specs.{Stand.{Stand}, Sound.{IsSound}}, proofs.Lists.{same-user}}

user-row : (t n a b : ℕ) → a < n → b < t → a * t + b < n * t
user-row t n a b app within = omega (arith, mul-add-lt a t b n app within)

pub loans-there : (board : Stand) → IsSound board → (a b : ℕ) → a < board.arrays.layout.reserves → b < all_buffers board.arrays.layout
    → user_at board.arrays.layout a b < length board.arrays.loans
loans-there board sound a b app within = let row = user-row (all_buffers board.arrays.layout) board.arrays.layout.reserves a b app within in omega
    (arith, row, sound.sizes.loans)

pub users-there : (board : Stand) → IsSound board → (a b : ℕ) → a < board.arrays.layout.reserves → b < all_buffers board.arrays.layout
    → user_at board.arrays.layout a b < length board.arrays.users
users-there board sound a b app within = let row = user-row (all_buffers board.arrays.layout) board.arrays.layout.reserves a b app within in omega
    (arith, row, sound.sizes.users)

module _ (t : ℕ) (counts : List ℕ) (a i n : ℕ) (inside : i < t) where
  -- those of another application, or in another buffer, are as before
  pub user-other : (k b : ℕ) → b < t → (k ≢ a) ⊎ (b ≢ i) → get_or (set counts (a * t + i) n) (k * t + b) 0 ≡ get_or counts (k * t + b) 0
  user-other k b within other =
      get_or-set_other counts (a * t + i) (k * t + b) n 0
      (λ e. let same = same-user t k a b i within inside e in ⊎_elim (λ ne. ne same.0) (λ ne. ne same.1) other)

  user-here : a * t + i < length counts → (b : ℕ) → i ≡ b → get_or (set counts (a * t + i) n) (a * t + b) 0 ≡ n
  user-here there b e = subst (λ x. get_or (set counts (a * t + i) n) (a * t + x) 0 ≡ n) e (get_or-set_same counts (a * t + i) n 0 there)

  pub user-raised : a * t + i < length counts → n ≡ get_or counts (a * t + i) 0 + 1 → (b : ℕ) → b < t
      → get_or (set counts (a * t + i) n) (a * t + b) 0 ≡ get_or counts (a * t + b) 0 + one_if (i == b)
  user-raised there more b within =
      ⊎_elim
      (λ e. let was = ap (λ x. get_or counts (a * t + x) 0) e.1 in omega (arith, user-here there b e.1, was, more, ap one_if e.0))
      (λ e. omega (arith, user-other a b within (inr (λ same. e.1 (sym same))), ap one_if e.0))
      (eqb_tells i b)

  pub user-lowered : a * t + i < length counts → n + 1 ≡ get_or counts (a * t + i) 0 → (b : ℕ) → b < t
      → get_or (set counts (a * t + i) n) (a * t + b) 0 + one_if (i == b) ≡ get_or counts (a * t + b) 0
  user-lowered there less b within =
      ⊎_elim
      (λ e. let was = ap (λ x. get_or counts (a * t + x) 0) e.1 in omega (arith, user-here there b e.1, was, less, ap one_if e.0))
      (λ e. omega (arith, user-other a b within (inr (λ same. e.1 (sym same))), ap one_if e.0))
      (eqb_tells i b)
