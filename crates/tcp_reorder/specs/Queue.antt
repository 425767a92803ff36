-- The reassembly queue of one flow: its pieces at their positions in the stream, and how much was popped from its front.
use Rattle.std.specs.Prelude.{ℕ, ◌+◌, ◌^◌, ◌<◌, ◌≤◌, max, List, [], ◌∷◌, nat_lt, nat_le, if◌then◌else◌, Bool, true, false, ◌&&◌, ◌||◌, ◌==◌, Option, None, Some}
use Rattle.zr_kinds.specs.CopyingReceiver.{Placed, next_missing}

-- a piece of so many bytes, the first of which is at the position
pub record Kept (H : Type 0) : Type 0 where
  pub position : ℕ
  pub len : ℕ
  pub piece : H

-- the sequence number of position 0, the number of positions that were popped, and the kept pieces by ascending position
pub record Queue (H : Type 0) : Type 0 where
  pub base : ℕ
  pub popped : ℕ
  pub kept : List (Kept H)

-- something, or nothing
abbrev pub present : Bool → Option (Unit {0})
present true = Some tt
present false = None

module _ {H : Type 0} where
  -- the position behind the piece
  abbrev pub end_of : Kept H → ℕ
  end_of one = one.position + one.len

  -- one of the piece's bytes is at the position
  abbrev pub covers : Kept H → ℕ → Bool
  covers one position = nat_le one.position position && nat_lt position (end_of one)

  -- one of the pieces has a byte at the position
  abbrev pub is_kept : List (Kept H) → ℕ → Bool
  is_kept [] position = false
  is_kept (one ∷ others) position = covers one position || is_kept others position

  -- the position was popped, or a piece has a byte there
  abbrev pub has : Queue H → ℕ → Bool
  has queue position = nat_lt position queue.popped || is_kept queue.kept position

  -- the greatest end of the pieces, and at least `top`
  abbrev pub top_of : ℕ → List (Kept H) → ℕ
  top_of top [] = top
  top_of top (one ∷ others) = max (end_of one) (top_of top others)

  -- the positions that were popped and those kept, as the copying receiver has them
  abbrev pub positions_of : Queue H → Placed (Unit {0})
  positions_of queue = record { at = λ position. present (has queue position); top = top_of queue.popped queue.kept }

  -- the least position that was neither popped nor is kept
  abbrev pub next_of : Queue H → ℕ
  next_of queue = next_missing (positions_of queue)

  -- the piece put in at its place by position
  abbrev pub with_kept : List (Kept H) → Kept H → List (Kept H)
  with_kept [] one = one ∷ []
  with_kept (first ∷ others) one = if nat_lt one.position first.position then one ∷ first ∷ others else first ∷ with_kept others one

  -- no piece begins before the position `from` or before the end of the one before it, and each has 1 to 2^32 - 1 bytes
  abbrev pub AreApart : ℕ → List (Kept H) → Type 0
  AreApart from [] = Unit {0}
  AreApart from (one ∷ others) = (from ≤ one.position) × (0 < one.len) × (one.len < 2 ^ 32) × AreApart (end_of one) others

  -- no piece ends behind the limit
  abbrev pub EndWithin : ℕ → List (Kept H) → Type 0
  EndWithin limit [] = Unit {0}
  EndWithin limit (one ∷ others) = (end_of one ≤ limit) × EndWithin limit others

  -- what is true of every queue
  pub record IsSound (queue : Queue H) : Type 0 where
    pub apart : AreApart queue.popped queue.kept
    pub in_window : EndWithin (next_of queue + 2 ^ 30) queue.kept
    pub in_stream : EndWithin (2 ^ 62) queue.kept
    pub popped : queue.popped ≤ 2 ^ 62

  -- the first piece, where it begins at the first position that wasn't popped
  abbrev pub front_of : Queue H → Option (Kept H)
  front_of queue = first_at queue.popped queue.kept
    where
      first_at : {H : Type 0} → ℕ → List (Kept H) → Option (Kept H)
      first_at popped [] = None
      first_at popped (one ∷ others) = if one.position == popped then Some one else None
