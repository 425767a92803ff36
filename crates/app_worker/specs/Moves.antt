-- From one moment of an application to a later one.
use Rattle.std.specs.Prelude.{◌≡◌, ◌≢◌, ℕ, ◌+◌, ◌<◌, ◌≤◌, if◌then◌else◌, false, List, ◌++◌, length, drop, Option}
use Rattle.zr_kinds.specs.declared.{place.Place.{Place}, ring.Completion.{Completion}}
use Rattle.zr_kinds.specs.declared.behaviour.Stopped.TheVariants as stop
use Rattle.board_face.specs.{Looks.{AppLooksStay}, declared.views.app.AppView.{AppView}, AppEvents.{reserve_of}}
use Rattle.flow_queues.specs.{declared.queues.Lending.{Lending}, Core.{total, Each}, Entries.{lies_in}, Totals.{loan_entries, queue_bytes_of}}
use Rattle.flow_queues.specs.Shelves.{AreShelved, AreFronts}
use Rattle.zr_io.specs.Moved.{raised_by}
use Rattle.app_worker.specs.State.{State, TellsOfLoan, read_of, due_one, app_steps}

-- Until all is given up, what is kept to the end stays.
abbrev pub KeepsLeaked : State → State → Type 0
KeepsLeaked was now = (was.bare ≡ false) × ((more : List Lending) × (now.leaked.items ≡ was.leaked.items ++ more))

-- how many loans were read: those that it doesn't have any more, the one that is to be given back, and those that are kept
-- to the end
abbrev pub reads_of : State → AppView → ℕ
reads_of st v = length v.returned + due_one st.due + length st.leaked.items

-- how many loans lay in the reserve so far
abbrev pub reserve_loans : AppView → ℕ
reserve_loans v = total (lies_in (reserve_of v)) v.loans + total (lies_in (reserve_of v)) v.returned

-- Since n loans were read, and r lay in the reserve: as long as no other lay there, and notes come, all that it may keep is
-- unread once more were read.
pub record KeptSince (n r : ℕ) (st : State) (v : AppView) : Type 0 where
  pub lent : r ≤ reserve_loans v
  pub kept : st.ended ≡ false → reserve_loans v ≡ r
      → (st.flush ≡ false) × (n < reads_of st v → st.how.hold ≤ length (st.unread ++ st.posted.entries))

-- ---- completions

-- over the loans that it has lent
abbrev pub over_lent : (Place → ℕ) → AppView → ℕ
over_lent f v = total (λ l. f l.place) v.loans + total (λ l. f l.place) v.returned

-- over those that were read: it doesn't have them any more, one is to be given back, and some are kept to the end
abbrev pub over_gone : (Place → ℕ) → State → AppView → ℕ
over_gone f st v = total (λ l. f l.place) v.returned + total (λ l. f l.loan) (read_of st)

-- Completions are read in the order in which they were posted, whatever flow they are of, each once. Once it is stopped,
-- those that are unread go with the others.
pub record Reaps (was now : State) (old new : AppView) : Type 0 where
  pub read : List (Completion × Lending)
  pub more : List (Completion × Lending)
  pub in_order : (was.unread ++ was.posted.entries) ++ more ≡ read ++ (now.unread ++ now.posted.entries)
  -- each loan that was lent was posted once, by what tells of it, and nothing else was
  pub lent : (f : Place → ℕ) → over_lent f old + total (λ p. f p.1.loan) more ≡ over_lent f new
  pub tells : Each (TellsOfLoan old.setting.layout) more
  -- the loans of those that were read are kept, or to be given back, or gone, and no others are
  pub gone : (f : Place → ℕ) → over_gone f was old + total (λ p. f p.1.loan) read ≡ over_gone f now new

-- over the loans that are kept to the end, and then over those that were abandoned
abbrev pub over_leaked : (Place → ℕ) → State → AppView → ℕ
over_leaked f st v = if st.bare then total (λ l. f l.place) (drop (loan_entries v) v.returned) else total (λ l. f l.loan) st.leaked.items

-- ---- all together

-- What some steps did: nothing goes back.
pub record Moves (was now : State) (old new : AppView) : Type 0 where
  pub same : (new.setting ≡ old.setting) × (new.app ≡ old.app) × (new.owns ≡ old.owns) × (old.spares ≤ new.spares)
  pub how : (now.app ≡ was.app) × (now.how ≡ was.how)
  pub places : now.posted.places ≡ was.posted.places
  pub steps : app_steps was old ≤ app_steps now new
  pub looks : AppLooksStay old new
  -- what it may keep unread it keeps
  pub keeps : (n r : ℕ) → (was.bare ≡ false → KeptSince n r was old) → now.bare ≡ false → KeptSince n r now new
  -- what stopped it first stays
  pub stays : was.stopped ≢ stop.No → now.stopped ≡ was.stopped
  pub leaked : now.bare ≡ false → KeepsLeaked was now
  -- each loan that is kept to the end is one of those that are abandoned then
  pub abandons : (f : Place → ℕ) → over_leaked f was old ≤ over_leaked f now new
  pub reaps : Reaps was now old new
  -- no flow's count of bytes falls
  pub bytes : (number : ℕ) → queue_bytes_of number was.flows ≤ queue_bytes_of number now.flows

-- The shelf counts as appended what is written, beside what it had counted before the first turn.
abbrev pub CountsOn : (written written_now appended appended_now : ℕ) → Type 0
CountsOn written written_now appended appended_now = (had : ℕ) → appended ≡ raised_by had written → appended_now ≡ raised_by had written_now

-- And what the shelf has went on by what was read; where it failed, by perhaps some bytes more than are counted.
pub record Goes (was now : State) (old new : AppView) (kept kept_now : ℕ → Option (List ℕ)) : Type 0 where
  pub moves : Moves was now old new
  pub shelved : now.stopped ≢ stop.Write → (first : ℕ → Option (List ℕ)) → AreShelved first kept was.flows old
      → AreShelved first kept_now now.flows new
  pub failed : now.stopped ≡ stop.Write → (first : ℕ → Option (List ℕ)) → (was.stopped ≢ stop.Write → AreShelved first kept was.flows old)
      → (was.stopped ≡ stop.Write → AreFronts first kept was.flows old) → AreFronts first kept_now now.flows new
