-- What an application's look for a note did.
use Rattle.std.specs.Prelude.{◌≡◌, ℕ, Bool, false, List, take}
use Rattle.board_face.specs.{AppCalls.{Looked}, AppEvents.{app_saw, told_end}, Sides.{app_at}, SlotSteps.{side_took_note, side_took_linear}}
use Rattle.board_face.specs.declared.answers.Polled.{Polled, TheVariants.{Note as got_note, Linear as got_linear, Empty as got_none, Ended as got_end}}
use Rattle.board_face.specs.declared.views.app.{AppLook.TheVariants.{NoNote}, AppSide.{AppSide}}

-- the side that has seen that the card had ended, or that it hadn't, and is in no look for a note
abbrev pub end_known : AppSide → Bool → AppSide
end_known app over = record app { inside = record app.inside { end_seen = over; end_unseen = false } }

-- and what came of the look for a note
abbrev pub side_polled : AppSide → List ℕ → Polled → AppSide
side_polled app linear (got_note note held) = side_took_note app note
side_polled app linear (got_linear note) = side_took_linear app note (take note.total linear)
side_polled app linear got_none = app_at app (app_saw app.view NoNote)
side_polled app linear got_end = app_at app (told_end app.view)

-- It looked whether the card had ended, and then for a note.
pub record Polls (old new : AppSide) (linear : List ℕ) (answer : Polled) : Type 0 where
  pub over : Bool
  pub event : new ≡ side_polled (end_known old over) linear answer
  pub looked : Looked old.view new.view linear answer
