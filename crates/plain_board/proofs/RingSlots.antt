-- A ring keeps its slots as its front leaves and as one more enters where there is room.
use Rattle.std.{proofs.Common.{ℕ, ◌<◌, List, [], ◌∷◌, length, arith, length-append, length-drop}, specs.Prelude.{All}}
use Rattle.circular_buffer.specs.Buffer.{Buffer, buffer}
use Rattle.board_parts.specs.Rings.{ring_in, popped, pushed}
use Rattle.plain_board.specs.Sound.{IsRing}

pub IsRing-at : {X : Type 0} (places : ℕ) (rings : List (Buffer X)) (a : ℕ) → a < length rings → All (IsRing places) rings
    → IsRing places (ring_in rings a)
IsRing-at places rings a there all = all a (buffer [] 0) there

pub IsRing-popped : {X : Type 0} (places : ℕ) (ring : Buffer X) → IsRing places ring → IsRing places (popped ring)
IsRing-popped places ring was = record { slots = was.slots; within = omega (arith, was.within, length-drop 1 ring.items) }

pub IsRing-pushed : {X : Type 0} (places : ℕ) (ring : Buffer X) (x : X) → length ring.items < ring.capacity → IsRing places ring
    → IsRing places (pushed ring x)
IsRing-pushed places ring x room was = record { slots = was.slots; within = omega (arith, was.slots, room, length-append ring.items (x ∷ [])) }
