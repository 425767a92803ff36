-- What comes of a frame of which parts are received one after another, each judged anew.
use Rattle.std.specs.Prelude.{◌≡◌, ℕ, ◌+◌, ◌^◌, ◌≤◌, List, ◌++◌, length, None}
use Rattle.zr_kinds.specs.CopyingReceiver.{Placed, nothing_placed, next_missing, received_part}

-- as a copying receiver's map is: nothing stands from its top on, nor 2^30 or more ahead of the first missing position
pub record IsReceived {A : Type 0} (placed : Placed A) : Type 0 where
  pub past : (p : ℕ) → placed.top ≤ p → placed.at p ≡ None
  pub window : (p : ℕ) → next_missing placed + 2 ^ 30 ≤ p → placed.at p ≡ None

-- the same stands at each position
abbrev pub AreSame : {A : Type 0} → Placed A → Placed A → Type 0
AreSame one other = (p : ℕ) → one.at p ≡ other.at p

-- To receive the parts of a frame is to receive the frame.
pub record PartsMakeTheFrame (A : Type 0) : Type 0 where
  pub nothing : IsReceived {A = A} nothing_placed
  pub received : (base : ℕ) (placed : Placed A) (seq total at : ℕ) (part : List A) → IsReceived placed → at + length part ≤ total
      → IsReceived (received_part base placed seq total at part)
  pub alike : (base : ℕ) (one other : Placed A) (seq total at : ℕ) (part : List A) → IsReceived one → IsReceived other → AreSame one other
      → AreSame (received_part base one seq total at part) (received_part base other seq total at part)
  -- two parts of which the second begins where the first ends
  pub joined : (base : ℕ) (placed : Placed A) (seq total at : ℕ) (first second : List A) → IsReceived placed → total ≤ 2 ^ 30
      → at + length first + length second ≤ total
      → AreSame (received_part base (received_part base placed seq total at first) seq total (at + length first) second)
      (received_part base placed seq total at (first ++ second))
