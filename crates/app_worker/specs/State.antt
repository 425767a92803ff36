-- What an application keeps between its turns, as plain data, and how that stands to what its face has seen.
use mir.Syntax.{w32}
use Rattle.std.specs.Int.{cast_signed}
use Rattle.std.specs.Prelude.{◌≡◌, ◌≢◌, ℕ, ◌+◌, ◌-◌, ◌*◌, ◌<◌, ◌≤◌, min, Bool, true, false, if◌then◌else◌, List, [], ◌++◌, length, take, drop, Option}
use Rattle.std.specs.Prelude.{Some, None, MatchBool}
use Rattle.zr_kinds.specs.declared.{behaviour.{Behaviour.{Behaviour}, Stopped.{Stopped, TheVariants.{No}}}, ring.Completion.{Completion}}
use Rattle.zr_kinds.specs.CopyingReceiver.{next_missing}
pub use Rattle.zr_kinds.specs.Counting.{one_if}
use Rattle.area_layout.specs.Layout.{Shape, off_of, judged}
use Rattle.circular_buffer.specs.Buffer.{Buffer}
use Rattle.completion_ring.specs.Ring.{Ring}
use Rattle.board_face.specs.{AppEvents.{reserve_of}, declared.views.app.{LentPiece.{LentPiece}, AppView.{AppView}}}
use Rattle.flow_queues.specs.{declared.queues.{Lending.{Lending}, FlowQueue.{FlowQueue}}, Entries.{GivesAll, lies_in, returned_aside, WasLive, AreBlocks}}
use Rattle.flow_queues.specs.Core.{total, is_odd, is_copy, IsOfTaken, Each, many, read_out, own_notes, placed_of, short_bytes, Stands, unsplit_len, held_len}
use Rattle.flow_queues.specs.{Flows.{IsAtRest, RestBut, IsIndex}, Shelves.{FlowEnds}, Kept.{QueueState}}
use Rattle.flow_queues.specs.Totals.{Quits, capped, lent_len, lent_bytes, loan_entries, raw_entries, taken_len}
use Rattle.app_worker.specs.{declared.stack.Stray.{Stray}, ReadWhole.{AreReadWhole, GivesWhole}}

pub record State : Type 0 where
  pub app : ℕ
  pub how : Behaviour
  -- how many notes entered its queues
  pub notes : ℕ
  pub flows : List FlowQueue
  -- the place of each flow, by its number
  pub index : List (ℕ × ℕ)
  -- the place of the flow that may have a piece in order
  pub active : ℕ
  -- what was reaped and isn't read yet, and how many of these there may be
  pub unread : List (Completion × Lending)
  pub room : ℕ
  pub posted : Ring (Completion × Lending)
  -- the loan that is to be given back
  pub due : Option Lending
  -- those that are kept to the end
  pub leaked : Buffer Lending
  -- the entries that still follow the loan that was given back last
  pub stray : Stray
  pub written : ℕ
  pub loans : ℕ
  pub stopped : Stopped
  -- it was told that no note comes any more
  pub ended : Bool
  -- it has no piece and no loan any more
  pub bare : Bool
  -- its user counts were scrubbed
  pub scrubbed : Bool
  -- how many loans were of bytes that had to be copied
  pub copied : ℕ
  -- all that is unread is to be read, since a loan in the reserve was posted
  pub flush : Bool

-- what it keeps of its flows
abbrev pub queues_of : State → QueueState
queues_of st = record { notes = st.notes; flows = st.flows; index = st.index; active = st.active }

-- ---- while it goes on

-- what a completion says of its loan
pub record TellsOfLoan (layout : Shape) (p : Completion × Lending) : Type 0 where
  pub size : p.0.res ≡ cast_signed w32 p.1.loan.len
  pub flags : p.0.flags ≡ 2
  pub off : p.0.off ≡ off_of layout p.1.loan

-- the loans that were read and are still out
abbrev pub read_of : State → List Lending
read_of st = read_out st.due st.leaked.items

-- how many bytes it has
abbrev pub loan_len : Lending → ℕ
loan_len l = l.loan.len

-- how many of these don't have bytes in one buffer, no more than a payload may have
abbrev pub odd_loans : Shape → List LentPiece → ℕ
odd_loans layout loans = total (λ l. is_odd layout l.place) loans

-- its loan lies in another buffer
abbrev pub LiesOutside : ℕ → Completion × Lending → Type 0
LiesOutside buffer p = p.1.loan.buffer ≢ buffer

-- What it has out, and how far its flows are.
pub record Working (st : State) (v : AppView) : Type 0 where
  pub stands : Stands st.notes st.flows (st.unread ++ st.posted.entries) (read_of st) v
  pub completions : Each (TellsOfLoan v.setting.layout) (st.unread ++ st.posted.entries)
  pub rest : RestBut st.active st.flows
  pub index : IsIndex st.index st.flows
  -- once no note comes any more, nothing is in order
  pub over : st.ended ≡ true → Each IsAtRest st.flows
  pub going : st.stopped ≡ No
  -- a loan in the reserve is unread only while all is to be read
  pub outside : st.flush ≡ false → Each (LiesOutside (reserve_of v)) (st.unread ++ st.posted.entries)
  pub flush : st.flush ≡ true → st.unread ++ st.posted.entries ≢ []
  pub live : st.bare ≡ false
  -- each loan that it doesn't have any more was given back by an entry of its own, in order
  pub given : GivesAll v v.returned
  -- a loan is given back only once as many are kept as are to be, those in the reserve aside
  pub keeps_first : 0 < returned_aside v → length st.leaked.items ≡ st.how.leak
  -- no other loan is due before the entries that follow one are written
  pub waits : 0 < st.stray.left → st.due ≡ None
  -- each loan that it doesn't have any more was appended whole, as each that was read, and nothing else was
  pub appended : total lent_len v.returned + total loan_len (read_of st) ≡ total (λ f. f.bytes) st.flows
  -- each that waits to be given back, or is kept to the end, was read whole
  pub read_whole : AreReadWhole v (read_of st)

-- ---- once it has stopped, or has read all

-- it has nothing out
pub record Bare (st : State) (v : AppView) : Type 0 where
  pub helds : v.helds ≡ []
  pub loans : v.loans ≡ []
  pub due : st.due ≡ None
  pub leaked : st.leaked.items ≡ []
  pub none_left : st.stray.left ≡ 0
  -- the first loans were given back by entries of their own, in order, and then the others abandoned: where nothing stopped
  -- it, as many as were to be kept to the end, or all outside the reserve where these are fewer, and none in it
  pub given : GivesAll v (take (loan_entries v) v.returned)
  pub abandoned : st.stopped ≡ No → (length v.returned ≡ loan_entries v + min st.how.leak (returned_aside v))
      × (total (lies_in (reserve_of v)) (drop (loan_entries v) v.returned) ≡ 0)
  pub unread : st.unread ≡ []
  pub flows : Each (FlowEnds v.taken) st.flows
  pub distinct : (number : ℕ) → many number st.flows ≤ 1
  pub index : IsIndex st.index st.flows
  -- and where nothing stopped it, all of its flows was appended
  pub whole : st.stopped ≡ No → (st.ended ≡ true) × Each (λ f. f.bytes ≡ next_missing (placed_of f v.taken)) st.flows
  -- each loan that it had was then appended whole
  pub appended : st.stopped ≡ No → total lent_len v.returned ≡ total (λ f. f.bytes) st.flows
  -- and never more than was lent, nor less than the loans had that entries gave back
  pub within_lent : total (λ f. f.bytes) st.flows ≤ lent_bytes v
  pub whole_given : total lent_len (take (loan_entries v) v.returned) ≤ total (λ f. f.bytes) st.flows
  pub known : st.stopped ≡ No → (number : ℕ) → many number st.flows ≡ 0 → own_notes number v.taken ≡ []

-- ---- always

pub record Common (st : State) (v : AppView) : Type 0 where
  pub app : v.app ≡ st.app
  pub ended : v.ended ≡ st.ended
  pub scrubbed : v.scrubbed ≡ st.scrubbed
  pub owns : v.owns ≡ []
  pub copied : st.copied ≡ capped v.spares
  -- each loan that it doesn't have any more was one of a note, and each spare was lent
  pub origins : Each (IsOfTaken v.taken) v.returned
  pub copies : v.spares ≡ total is_copy v.loans + total is_copy v.returned
  -- each spare was for a byte that came in a note, and is for one that it doesn't keep any more
  pub spares : v.spares + total (λ f. short_bytes f.queue) st.flows ≤ total unsplit_len v.taken
  pub some_places : 1 ≤ st.posted.places
  pub within : length st.posted.entries ≤ st.posted.places
  pub room : st.how.hold + st.posted.places ≤ st.room
  pub loans : st.loans ≡ capped (length v.loans + length v.returned)
  pub written : st.written ≡ capped (total (λ f. f.bytes) st.flows)
  pub quits : Quits st.how.quit st.written st.stopped
  -- no more are kept to the end than are to be, and none in the reserve
  pub leaks : length st.leaked.items ≤ st.how.leak
  pub leak_room : st.leaked.capacity ≡ st.how.leak
  pub leak_aside : Each (λ l. l.loan.buffer ≢ reserve_of v) st.leaked.items
  -- at most so many raw entries are written as may follow the loans that were given back
  pub strays : raw_entries v + st.stray.left ≤ st.how.stray * loan_entries v
  pub entries : loan_entries v ≤ length v.returned
  -- only a loan that was read whole is given back by an entry, whatever stops it
  pub gives_whole : GivesWhole v
  -- each loan that it doesn't have any more had a byte
  pub sound : odd_loans v.setting.layout v.returned ≡ 0
  -- each of these is the same as the entry of the loan that was given back last before it, and one is dropped only where a
  -- loan in its buffer was out then, which still is or went later
  pub blocks : AreBlocks st.how.stray (WasLive v) v.written st.stray.entry st.stray.left
  pub names : 0 < st.stray.left → judged v.setting.layout st.stray.entry ≡ Some st.stray.buffer
  -- each loan was of a byte that was taken, and is of one that it doesn't keep any more
  pub bound : length v.loans + length v.returned + total held_len v.helds + total (λ f. short_bytes f.queue) st.flows ≤ total taken_len v.taken

-- between two turns
pub record AppStands (st : State) (v : AppView) : Type 0 where
  pub common : Common st v
  pub reaped : st.posted.entries ≡ []
  pub mode : MatchBool st.bare (Bare st v) (Working st v)

-- ---- how far it has come

-- Notes, loans and entries, each at the place that it has come to, and what comes once. Each turn that did something
-- raises it, and none lowers it.
abbrev pub due_one : Option Lending → ℕ
due_one None = 0
due_one (Some l) = 1

abbrev pub app_steps : State → AppView → ℕ
app_steps st v = length v.taken + length v.loans + 4 * length v.returned + due_one st.due + 2 * length st.leaked.items + one_if v.ended
    + one_if st.bare + one_if st.scrubbed + one_if v.left + (st.how.stray * length v.returned - st.stray.left)

-- it goes no further than the notes that were taken, their bytes, and the entries that may follow each, let it
abbrev pub furthest : ℕ → AppView → ℕ
furthest stray v = length v.taken + 4 * total taken_len v.taken + stray * total taken_len v.taken + 5
