-- What a call tells the log of its board: the events of the step that it made, and no others.
use Rattle.std.specs.Prelude.{◌≡◌, ℕ, ◌==◌, Bool}
use Rattle.zr_kinds.specs.declared.{place.Place.{Place}, ring.Rqe.{Rqe}}
use Rattle.area_layout.specs.Layout.{all_buffers}
use Rattle.zr_kinds.specs.declared.event.Event.TheVariants as event
use Rattle.board_face.specs.BoardSteps.{CardStep, AppStep, Step, apply, card, app, shuts, honours, polls}
use Rattle.board_face.specs.{Laws.{pool_of}, declared.{views.parts.Filling.{Filling}, answers.{Entry.{Entry}, Polled.{Polled}}}}
use Rattle.board_face.specs.{declared.answers.Entry.TheVariants.{Freed, Honoured, Stray, Empty}, AppEvents.{app_gist}, Looks.{AppTold}}
use Rattle.board_face.specs.declared.answers.Polled.TheVariants.{Note as got_note, Linear as got_linear, Empty as got_none, Ended as got_end}
use Rattle.plain_board.specs.{Logs.{all_logged, logged}, ScrubLaw.{scrub_logged}, StepEvents.{events_of}}
use Rattle.plain_board.specs.{Board.{Board, Part, beside_of, sides_of, view_of}, Seen.{IsSeenBy}}

-- the log behind the step is the log before it with its events
abbrev pub StepIsLogged : Step → Board → Board → Type 0
StepIsLogged step old new = new.log ≡ all_logged old.log (events_of step (sides_of old) (sides_of new))

-- a step of the card
abbrev pub CardTells : CardStep → Board → Board → Type 0
CardTells step old new = StepIsLogged (card step) old new

-- a step of the application that has the part
abbrev pub AppStepIsLogged : AppStep → Part → Part → Type 0
AppStepIsLogged step old new = StepIsLogged (app old.app step) old.board new.board

-- each look whose count rose for the application is so of the board before
abbrev pub SawSo : Part → Part → Type 0
SawSo old new = AppTold (λ look. IsSeenBy look (app_gist (view_of old)) (beside_of old)) (view_of old) (view_of new)

-- ---- by what a call answered

-- the card shut the buffer, and it was the last holder or not
abbrev pub ShutTells : Filling → Board → Board → Type 0
ShutTells own old new = CardTells (shuts own (pool_of (sides_of new) own.buffer == 0)) old new

-- an entry of the application was honoured, and the log tells of it
pub record HonourTells (a : ℕ) (old new : Board) : Type 0 where
  pub entry : Rqe
  pub place : Place
  pub last : Bool
  pub made : sides_of new ≡ apply (card (honours a entry place last)) (sides_of old)
  pub log : CardTells (honours a entry place last) old new

-- a stray is told as one, and that nothing was there isn't told
abbrev pub EntryTells : ℕ → Entry → Board → Board → Type 0
EntryTells a Freed old new = HonourTells a old new
EntryTells a Honoured old new = HonourTells a old new
EntryTells a Stray old new = new.log ≡ logged old.log (event.Stray a)
EntryTells a Empty old new = new.log ≡ old.log

-- only a note with a piece is told
abbrev pub PollTells : Polled → Part → Part → Type 0
PollTells (got_note note held) old new = AppStepIsLogged (polls note) old new
PollTells (got_linear note) old new = new.board.log ≡ old.board.log
PollTells got_none old new = new.board.log ≡ old.board.log
PollTells got_end old new = new.board.log ≡ old.board.log

-- an event for each buffer in which the application had a user count
abbrev pub ScrubTells : Part → Part → Type 0
ScrubTells old new =
    new.board.log ≡ scrub_logged (sides_of old.board) (sides_of new.board) old.app old.board.log (all_buffers old.board.arrays.layout)
