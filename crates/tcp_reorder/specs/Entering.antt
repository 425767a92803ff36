-- How the values of frames enter a queue, as the copying receiver has them: gap after gap, whatever a piece is made of.
use Rattle.std.specs.Prelude.{◌≡◌, ℕ, ◌+◌, ◌-◌, ◌%◌, ◌^◌, ◌<◌, ◌≤◌, List, [], length, take, drop, true, false}
use Rattle.zr_kinds.specs.CopyingReceiver.{Placed, nothing_placed, next_missing, accepts, received, received_part, values_from}
use Rattle.tcp_reorder.specs.{declared.places.{Gap.{Gap}, Span.{Span}}, Queue.{Queue, next_of, IsSound}}
use Rattle.tcp_reorder.specs.{Gaps.{origin, IsFirstGap, AreWanted, AreUnwanted, with_taken, LosesFirst}, Values.{Holds}}

-- Of a part of a frame the first `done` values entered the queue, where they were wanted. The frame has `total` values
-- from the sequence number `seq` on, and the part's are those behind its first `at`.
pub record HasEntered {A H : Type 0} (values : H → List A) (was now : Queue H) (seq total at : ℕ) (part : List A) (done : ℕ) : Type 0 where
  pub small : total ≤ 2 ^ 30
  pub within : at + length part ≤ total
  pub some : done ≤ length part
  -- the frame is judged as at first
  pub accepted : accepts was.base (next_of was) seq total ≡ true
  pub still_accepted : accepts now.base (next_of now) seq total ≡ true
  pub same_origin : origin now seq ≡ origin was seq
  pub same_base : now.base ≡ was.base
  pub same_popped : now.popped ≡ was.popped
  pub holds : (placed : Placed A) → Holds values was placed → Holds values now (received_part was.base placed seq total at (take done part))

-- A queue holds what the copying receiver has of the frames that it was asked for and took gap after gap.
pub record HoldsWhatCame (A H : Type 0) : Type 0 where
  pub new : (values : H → List A) (base : ℕ) → Holds values (record { base = base; popped = 0; kept = [] }) nothing_placed
  pub next : (values : H → List A) (queue : Queue H) (placed : Placed A) → Holds values queue placed → next_of queue ≡ next_missing placed
  -- a frame that isn't accepted is received by doing nothing
  pub refused : (values : H → List A) (queue : Queue H) (placed : Placed A) (seq total at : ℕ) (part : List A)
      → accepts queue.base (next_of queue) seq total ≡ false → Holds values queue placed
      → Holds values queue (received_part queue.base placed seq total at part)
  -- of one that is accepted a part may enter
  pub begun : (values : H → List A) (queue : Queue H) (seq total at : ℕ) (part : List A)
      → accepts queue.base (next_of queue) seq total ≡ true → total ≤ 2 ^ 30 → at + length part ≤ total
      → HasEntered values queue queue seq total at part 0
  -- the rest of it may be asked for its first gap ..
  pub rest : (values : H → List A) (was now : Queue H) (seq total at : ℕ) (part : List A) (done from : ℕ)
      → HasEntered values was now seq total at part done → from ≡ (seq + (at + done)) % 2 ^ 32
      → accepts now.base (next_of now) from (length part - done) ≡ true
  -- .. which meets the conditions of `take` ..
  pub may_be_taken : (queue : Queue H) (from len : ℕ) (gap : Gap) → accepts queue.base (next_of queue) from len ≡ true → IsFirstGap queue from len gap
      → accepts queue.base (next_of queue) ((from + gap.skip) % 2 ^ 32) gap.len ≡ true × AreWanted queue ((from + gap.skip) % 2 ^ 32) gap.len
  -- .. and what comes up to its end has entered with the gap's piece.
  pub taken : (values : H → List A) (was now : Queue H) (seq total at : ℕ) (part : List A) (done from : ℕ) (gap : Gap) (piece : H) → IsSound now
      → HasEntered values was now seq total at part done → from ≡ (seq + (at + done)) % 2 ^ 32 → IsFirstGap now from (length part - done) gap
      → values piece ≡ take gap.len (drop (done + gap.skip) part)
      → HasEntered values was (with_taken now ((from + gap.skip) % 2 ^ 32) gap.len piece) seq total at part (done + gap.skip + gap.len)
  -- With no gap left the part is received.
  pub ended : (values : H → List A) (was now : Queue H) (seq total at : ℕ) (part : List A) (done from : ℕ) (placed : Placed A)
      → HasEntered values was now seq total at part done → from ≡ (seq + (at + done)) % 2 ^ 32 → AreUnwanted now from (length part - done)
      → Holds values was placed → Holds values now (received_part was.base placed seq total at part)
  -- A frame that comes in one part is received whole.
  pub whole : (base : ℕ) (placed : Placed A) (seq : ℕ) (part : List A)
      → received_part base placed seq (length part) 0 part ≡ received base placed seq part
  -- What is popped are the values that stand there, and nothing else changes.
  pub popped : (values : H → List A) (old new : Queue H) (placed : Placed A) (piece : H) (span : Span)
      → Holds values old placed → LosesFirst old new piece span → span.position ≡ old.popped
      → Holds values new placed × (values piece ≡ values_from placed.at span.len old.popped)

-- A queue came to be another by takes of a frame's own bytes, as wanted, and by pops.
pub data CameBy {H : Type 0} (seq total : ℕ) (was : Queue H) : Queue H → Type 0 where
  nothing : CameBy seq total was was
  took : {now : Queue H} → CameBy seq total was now → (skip len : ℕ) (piece : H) → 0 < len → skip + len ≤ total
      → AreWanted now ((seq + skip) % 2 ^ 32) len
      → CameBy seq total was (with_taken now ((seq + skip) % 2 ^ 32) len piece)
  popped : {old new : Queue H} → CameBy seq total was old → (piece : H) (span : Span) → LosesFirst old new piece span → span.position ≡ old.popped
      → CameBy seq total was new

-- Then a frame that was accepted is accepted, at the same positions.
abbrev pub StaysAccepted : Type 0 → Type 0
StaysAccepted H = (seq total : ℕ) (was now : Queue H) → IsSound was → accepts was.base (next_of was) seq total ≡ true → total ≤ 2 ^ 30
    → CameBy seq total was now
    → (accepts now.base (next_of now) seq total ≡ true) × (origin now seq ≡ origin was seq)
