-- What of a frame's bytes a queue still wants, and how its calls change it.
use Rattle.std.specs.Prelude.{◌≡◌, ℕ, ◌+◌, ◌-◌, ◌^◌, ◌<◌, ◌≤◌, ◌∷◌, nat_le, not, Bool, true, false, ◌&&◌}
use Rattle.zr_kinds.specs.CopyingReceiver.{lead}
use Rattle.tcp_reorder.specs.{declared.places.{Gap.{Gap}, Span.{Span}}, Queue.{Kept, Queue, has, next_of, with_kept}}

module _ {H : Type 0} where
  -- the position of the byte with this sequence number, and 2^31 more: so it is no less than 0
  abbrev pub origin : Queue H → ℕ → ℕ
  origin queue seq = next_of queue + lead queue.base (next_of queue) seq

  -- the byte at a place, counted from the one with this sequence number, is at position 0 or behind it, and its position is missing
  abbrev pub wants : Queue H → ℕ → ℕ → Bool
  wants queue seq place = nat_le (2 ^ 31) (origin queue seq + place) && not (has queue (origin queue seq + place - 2 ^ 31))

  -- of `len` places the gap is the first run of those that are wanted
  pub record IsFirstGap (queue : Queue H) (seq len : ℕ) (gap : Gap) : Type 0 where
    pub some : 0 < gap.len
    pub within : gap.skip + gap.len ≤ len
    pub before : (place : ℕ) → place < gap.skip → wants queue seq place ≡ false
    pub wanted : (place : ℕ) → gap.skip ≤ place → place < gap.skip + gap.len → wants queue seq place ≡ true
    pub whole : gap.skip + gap.len < len → wants queue seq (gap.skip + gap.len) ≡ false

  -- all of so many bytes from the one with this sequence number on are wanted
  abbrev pub AreWanted : Queue H → ℕ → ℕ → Type 0
  AreWanted queue seq len = (place : ℕ) → place < len → wants queue seq place ≡ true

  -- none of them is
  abbrev pub AreUnwanted : Queue H → ℕ → ℕ → Type 0
  AreUnwanted queue seq len = (place : ℕ) → place < len → wants queue seq place ≡ false

  -- the queue with a piece more, which has so many bytes from the one with this sequence number on
  abbrev pub with_taken : Queue H → ℕ → ℕ → H → Queue H
  with_taken queue seq len piece = record queue { kept = with_kept queue.kept (record { position = origin queue seq - 2 ^ 31; len = len; piece = piece }) }

  -- where a kept piece stands
  abbrev pub span_of : Kept H → Span
  span_of one = record { position = one.position; len = one.len }

  -- the piece of these positions
  abbrev pub kept_at : Span → H → Kept H
  kept_at span piece = record { position = span.position; len = span.len; piece = piece }

  -- The first piece is gone, and everything before its end counts as popped.
  pub record LosesFirst (old new : Queue H) (piece : H) (span : Span) : Type 0 where
    pub first : old.kept ≡ kept_at span piece ∷ new.kept
    pub popped : new.popped ≡ span.position + span.len
    pub base : new.base ≡ old.base
