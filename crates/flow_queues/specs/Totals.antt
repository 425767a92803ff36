-- What is counted of an application: of what its face has seen, and of its flows.
use Rattle.std.specs.Prelude.{◌≡◌, ◌≢◌, ◌↔◌, ℕ, ◌+◌, ◌-◌, ◌≤◌, ◌==◌, min, if◌then◌else◌, List, Option, Some, None}
use Rattle.zr_kinds.specs.declared.behaviour.Stopped.{Stopped, TheVariants.{Quit}}
pub use Rattle.zr_kinds.specs.Counting.{capped}
use Rattle.board_face.specs.declared.views.app.{LentPiece.{LentPiece}, TakenNote.{TakenNote}, AppView.{AppView}}
use Rattle.flow_queues.specs.{declared.queues.FlowQueue.{FlowQueue}, Core.{total}}

-- how many bytes the note's piece has
abbrev pub taken_len : TakenNote → ℕ
taken_len t = t.note.place.len

-- how many bytes a loan has
abbrev pub lent_len : LentPiece → ℕ
lent_len l = l.place.len

-- how many bytes it was lent
abbrev pub lent_bytes : AppView → ℕ
lent_bytes v = total lent_len v.loans + total lent_len v.returned

-- the refill entries that were written: raw, and of loans
abbrev pub raw_entries : AppView → ℕ
raw_entries v = total (λ w. if w.of_loan then 0 else 1) v.written

abbrev pub loan_entries : AppView → ℕ
loan_entries v = total (λ w. if w.of_loan then 1 else 0) v.written

-- how many bytes of a flow were appended
abbrev pub bytes_if : ℕ → FlowQueue → ℕ
bytes_if number f = if f.number == number then f.bytes else 0

abbrev pub queue_bytes_of : ℕ → List FlowQueue → ℕ
queue_bytes_of number flows = total (bytes_if number) flows

-- It quits exactly where it has written so many bytes, and writes no more.
abbrev pub Quits : Option ℕ → ℕ → Stopped → Type 0
Quits None written stopped = stopped ≢ Quit
Quits (Some bytes) written stopped = (written ≤ bytes) × ((stopped ≡ Quit) ↔ (written ≡ bytes))

-- how many of the next bytes it is to write
abbrev pub wanted_of : Option ℕ → ℕ → ℕ → ℕ
wanted_of None written len = len
wanted_of (Some bytes) written len = min len (bytes - written)
