-- The values of the kept pieces, as the copying receiver has them.
use Rattle.std.specs.Prelude.{◌≡◌, ℕ, ◌-◌, ◌<◌, ◌≤◌, List, [], ◌∷◌, length, if◌then◌else◌, Option, None, IsSome}
use Rattle.zr_kinds.specs.CopyingReceiver.{Placed, value_at}
use Rattle.tcp_reorder.specs.Queue.{Kept, Queue, covers}

module _ {A H : Type 0} (values : H → List A) where
  -- the value that a kept piece has at the position
  abbrev pub kept_value : List (Kept H) → ℕ → Option A
  kept_value [] position = None
  kept_value (one ∷ others) position = if covers one position then value_at (values one.piece) (position - one.position) else kept_value others position

  -- each piece has as many values as bytes
  abbrev pub AreSized : List (Kept H) → Type 0
  AreSized [] = Unit {0}
  AreSized (one ∷ others) = (length (values one.piece) ≡ one.len) × AreSized others

  -- Something is placed at each position that was popped, and behind these what the kept pieces have, and nothing else.
  pub record Holds (queue : Queue H) (placed : Placed A) : Type 0 where
    pub popped : (position : ℕ) → position < queue.popped → IsSome (placed.at position)
    pub kept : (position : ℕ) → queue.popped ≤ position → placed.at position ≡ kept_value queue.kept position
    pub sized : AreSized queue.kept
    pub past : (position : ℕ) → placed.top ≤ position → placed.at position ≡ None
