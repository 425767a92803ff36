-- Why the pieces of one frame may be taken one after another.
use Rattle.std.specs.Prelude.{◌≡◌, ℕ, ◌+◌, ◌%◌, ◌^◌, ◌<◌, ◌≤◌, true}
use Rattle.zr_kinds.specs.CopyingReceiver.{lead, accepts}
use Rattle.tcp_reorder.specs.Queue.{Kept, Queue, next_of, end_of, with_kept, EndWithin}

-- What was accepted at n is accepted at a later n, at the same positions. It has to end behind n: what lies before n
-- altogether may lie more than 2^31 before the later n, and is read as far ahead of it.
abbrev pub AreJudgedAlike : Type 0
AreJudgedAlike = (base n later seq total : ℕ) → total ≤ 2 ^ 30 → accepts base n seq total ≡ true → 2 ^ 31 < lead base n seq + total → n ≤ later
    → later ≤ n + 2 ^ 30
    → (accepts base later seq total ≡ true) × (later + lead base later seq ≡ n + lead base n seq)

-- A part of what was accepted is accepted, at its place in the whole.
abbrev pub PartsAreAccepted : Type 0
PartsAreAccepted = (base n seq total skip len : ℕ) → accepts base n seq total ≡ true → skip + len ≤ total
    → (accepts base n ((seq + skip) % 2 ^ 32) len ≡ true) × (lead base n ((seq + skip) % 2 ^ 32) ≡ lead base n seq + skip)

-- The first missing position never falls as pieces are put in, and passes no limit that everything lies within.
pub record NextNeverFalls (H : Type 0) : Type 0 where
  pub rises : (queue : Queue H) (one : Kept H) → next_of queue ≤ next_of (record queue { kept = with_kept queue.kept one })
  pub within : (queue : Queue H) (limit : ℕ) → queue.popped ≤ limit → EndWithin limit queue.kept → next_of queue ≤ limit
  pub still_within : (queue : Queue H) (one : Kept H) (limit : ℕ) → EndWithin limit queue.kept → end_of one ≤ limit
      → EndWithin limit (with_kept queue.kept one)
