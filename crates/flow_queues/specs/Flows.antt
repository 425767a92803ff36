-- Flows by their numbers, and which of them have something in order.
use Rattle.std.specs.{Prelude.{◌≡◌, ℕ, zero, suc, ◌<◌, ◌⊎◌, List, [], ◌∷◌, ◌++◌, length, Option, MatchOption, slice_index_or}, Map.{lookup}, Ordering.{is_eq, nat_cmp}}
use Rattle.zr_kinds.specs.declared.place.Note.{Note}
use Rattle.tcp_reorder.specs.Queue.{next_of}
use Rattle.flow_queues.specs.{declared.queues.FlowQueue.{FlowQueue}, Core.{Each, many}}

-- no piece of the flow is in order
abbrev pub IsAtRest : FlowQueue → Type 0
IsAtRest f = f.queue.popped ≡ next_of f.queue

-- nor is one of any flow but that at this place
abbrev pub RestBut : ℕ → List FlowQueue → Type 0
RestBut place [] = Unit {0}
RestBut zero (f ∷ fs) = Each IsAtRest fs
RestBut (suc before) (f ∷ fs) = IsAtRest f × RestBut before fs

-- what an index has of a number
abbrev pub place_in_index : List (ℕ × ℕ) → ℕ → Option ℕ
place_in_index index number = lookup (λ k. is_eq (nat_cmp number k)) index

-- the index tells the place of each flow
abbrev pub IsIndex : List (ℕ × ℕ) → List FlowQueue → Type 0
IsIndex index flows = (number : ℕ) → MatchOption (place_in_index index number) (many number flows ≡ 0)
    (λ i. (i < length flows) × ((d : FlowQueue) → (slice_index_or flows i d).number ≡ number))

-- ---- the queue of a note's flow

-- one that keeps nothing
abbrev pub fresh_flow : Note → FlowQueue
fresh_flow note = record { number = note.flow; queue = record { base = note.base; popped = 0; kept = [] }; bytes = 0 }

-- it was there, or there was none and one was put behind the others
abbrev pub IsChosen : List FlowQueue → List FlowQueue → Note → ℕ → Type 0
IsChosen was now note i =
    ((now ≡ was) × ((d : FlowQueue) → (slice_index_or now i d).number ≡ note.flow))
    ⊎ ((many note.flow was ≡ 0) × (now ≡ was ++ fresh_flow note ∷ []) × (i ≡ length was))

-- ---- what stays known of a flow whose pieces are given up

pub record FlowFacts : Type 0 where
  pub number : ℕ
  pub base : ℕ
  pub bytes : ℕ

abbrev pub facts_of : FlowQueue → FlowFacts
facts_of f = record { number = f.number; base = f.queue.base; bytes = f.bytes }
