-- The log goes on to tell of a board behind every step, once it has the events of the step.
use Rattle.std.specs.{List.{AllByRecursion}}
use Rattle.zr_kinds.specs.LegalRun.{HasSmallNumbers}
use Rattle.board_face.specs.{BoardSteps.{Step, Can, apply}, Laws.{AllSides}}
use Rattle.plain_board.specs.{Fills.{AreShort}, IsLogged.{AreSound, IsLogged}, Logs.{KeptEvents, all_logged}, StepEvents.{MayTell, events_of}}

-- The log tells of the sides.
pub record IsRecorded (sides : AllSides) (log : KeptEvents) : Type 0 where
  pub logged : IsLogged sides log
  -- so that the loan of a filled spare is no longer than its event may say
  pub short : AreShort sides.apps

abbrev pub StepLaw : Type 0
StepLaw =
    (step : Step) (s : AllSides) → AreSound s → Can step s → MayTell step s
    → let new = apply step s in
    (log : KeptEvents) → AllByRecursion HasSmallNumbers (events_of step s new) → IsRecorded s log
    → IsRecorded new (all_logged log (events_of step s new))
