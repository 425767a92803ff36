-- The loans that are out, by their tags, and what forwarding keeps beside its stream and its carrier.
use Rattle.std.specs.Prelude.{◌≡◌, ℕ, ◌+◌, ◌==◌, ◌||◌, Bool, true, false, List, [], length, map, Option, Some, None}
use Rattle.zr_kinds.specs.declared.place.Place.{Place}
use Rattle.board_face.specs.declared.views.app.LentPiece.{LentPiece}
use Rattle.flow_queues.specs.{Core.{total}, Counting.{TallyState, new_tally}}
use Rattle.zc_poll.specs.declared.step.Waits.{Waits, TheVariants.{NoNote, ReserveHeld, Enough}}
use Rattle.zc_forward.specs.{declared.sent.Sent.{Sent}, Tags.{Tags}}

-- their tags, each with its flow
abbrev pub tags_of : List Sent → Tags
tags_of out = map (λ s. (s.tag, s.flow)) out

-- what forwarding keeps beside its stream and its carrier
pub record OutboxState : Type 0 where
  -- its counts, and the loan whose notice came and that is to be given back
  pub tally : TallyState
  -- the loans whose tags are out
  pub out : List Sent
  -- a loan that wasn't carried for want of memory
  pub uncarried : Option Place
  -- the stream waits for a buffer, or has ended
  pub pressed : Bool

-- nothing was handed out yet, with room for so many flows
abbrev pub new_outbox : ℕ → OutboxState
new_outbox room = record { tally = new_tally room; out = []; uncarried = None; pressed = false }

-- how many loans may be out
abbrev pub most_out : ℕ
most_out = 64

abbrev pub is_held : Waits → Bool
is_held NoNote = false
is_held ReserveHeld = true
is_held Enough = false

abbrev pub of_one : (Place → ℕ) → Option Place → ℕ
of_one f None = 0
of_one f (Some loan) = f loan

abbrev pub of_sent : (Place → ℕ) → List Sent → ℕ
of_sent f out = total (λ s. f s.loan) out

-- how many loans are out by their tags, or weren't carried
abbrev pub many_kept : OutboxState → ℕ
many_kept w = of_one (λ _. 1) w.uncarried + length w.out

-- how many loans are out
abbrev pub many_out : OutboxState → ℕ
many_out w = of_one (λ _. 1) w.tally.due + many_kept w

-- whether the next notice is wanted soon
abbrev pub is_urgent : OutboxState → Bool
is_urgent w = w.pressed || (many_kept w == most_out)

-- The loans that are out are those that are kept, each once: by their tags, and one that is due, and one that wasn't carried.
abbrev pub AreLoans : OutboxState → List LentPiece → Type 0
AreLoans w loans = (f : Place → ℕ) → total (λ (l : LentPiece). f l.place) loans ≡ of_one f w.tally.due + of_one f w.uncarried + of_sent f w.out
