-- What an answer 'not now' implies of what the role itself has done, on every board.
use Rattle.std.specs.Prelude.{ℕ, ◌+◌, ◌<◌, ◌≤◌, ◌==◌, length, filter, count_by}
use Rattle.board_face.specs.{Returns.{is_raw}, AppEvents.{reserve_of}, declared.views.{nic.NicView.{NicView}, app.AppView.{AppView}}}

-- At least as many notes were sent to the application as a ring has places.
abbrev pub HasSentRingful : NicView → ℕ → Type 0
HasSentRingful v a = v.setting.places ≤ length (filter (λ s. s.app == a) v.sent)

-- at least as many entries were written
abbrev pub HasWrittenRingful : AppView → Type 0
HasWrittenRingful v = v.setting.places ≤ length v.written

-- an entry was written
abbrev pub HasWritten : AppView → Type 0
HasWritten v = 0 < length v.written

-- one that came from no loan
abbrev pub HasPushedRaw : AppView → Type 0
HasPushedRaw v = 0 < count_by is_raw v.written

-- A spare or a loan of the application lies in its reserve, or one did that it gave back or abandoned.
abbrev pub HasUsedReserve : AppView → Type 0
HasUsedReserve v =
    0 < count_by (λ s. s.own.buffer == reserve_of v) v.owns
    + count_by (λ l. l.place.buffer == reserve_of v) v.loans
    + count_by (λ l. l.place.buffer == reserve_of v) v.returned
