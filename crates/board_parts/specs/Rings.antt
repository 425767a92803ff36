-- Rings, and those of all applications.
use Rattle.std.specs.Prelude.{ℕ, List, [], ◌∷◌, ◌++◌, drop, slice_index_or}
use Rattle.circular_buffer.specs.Buffer.{Buffer, buffer}

-- the ring of an application
abbrev pub ring_in : {X : Type 0} → List (Buffer X) → ℕ → Buffer X
ring_in rings a = slice_index_or rings a (buffer [] 0)

-- the ring without its front
abbrev pub popped : {X : Type 0} → Buffer X → Buffer X
popped ring = buffer (drop 1 ring.items) ring.capacity

-- the ring with one more behind the others
abbrev pub pushed : {X : Type 0} → Buffer X → X → Buffer X
pushed ring x = buffer (ring.items ++ x ∷ []) ring.capacity
