-- The log goes on to tell of a board behind every step.
use Rattle.std.{proofs.Common.{ℕ, List, [], ◌∷◌, refl}, specs.List.{AllByRecursion}}
use Rattle.zr_kinds.specs.{declared.event.Event.{Event}, LegalRun.{HasSmallNumbers}}
use Rattle.board_face.specs.{Laws.{AllSides}, Sides.{IsApp, side_in}, BoardSteps.{CardStep, AppStep, AppCan, CardCan, apply, card, app, app_view}}
use Rattle.board_face.specs.BoardSteps.{takes, sweeps, places, sends, sends_linear, shuts, honours, strays, looks, sees_leave, ends}
use Rattle.board_face.specs.BoardSteps.{polls, polls_linear, cuts, releases, lends, gives, abandons, spares, fills, lends_own}
use Rattle.plain_board.specs.{Fills.{AreShort}, IsLogged.{AreSound, IsLogged, KeepsLog, Logs}, Logs.{KeptEvents, all_logged}}
use Rattle.plain_board.specs.{StepEvents.{MayTell, app_events, card_events}, StepLaw.{StepLaw}}
use Rattle.plain_board.proofs.CardLaws.{card-keeps, honoured-logs, placed-logs, sends-none, sent-logs, shut-logs, strayed-logs, took-logs}
use Rattle.plain_board.proofs.AppLaws.{abandoned-logs, app-keeps, cut-logs, gave-logs, lent-logs, lent_own-logs, polled-logs, released-logs, spared-logs}
use Rattle.plain_board.proofs.{AppTallies.{gains-filled, takes-none}, ShortFills.{step-short}, Tallying.{gains-none}}

-- the log goes on to tell of the sides once these were logged
abbrev Goes : List Event → AllSides → AllSides → Type 0
Goes events old new = (log : KeptEvents) → AllByRecursion HasSmallNumbers events → IsLogged old log → IsLogged new (all_logged log events)

one-goes : (e : Event) (old new : AllSides) → Logs e old new → Goes (e ∷ []) old new
one-goes e old new logs log small was = logs log small.0 was

none-goes : (old new : AllSides) → KeepsLog old new → Goes [] old new
none-goes old new keeps log small was = keeps log was

card-goes : (step : CardStep) (s : AllSides) → AreSound s → CardCan step s → MayTell (card step) s
    → let new = apply (card step) s in Goes (card_events step new) s new
card-goes (takes b) s sound can may = one-goes _ _ _ (took-logs s sound b may.0 may.1)
card-goes (places own bytes) s sound can may = one-goes _ _ _ (placed-logs s sound own bytes can may.0 may.1)
card-goes (sends a note) s sound can may = one-goes _ _ _ (sent-logs s sound a note can)
card-goes (shuts own last) s sound can may = one-goes _ _ _ (shut-logs s sound own last can)
card-goes (honours a entry p last) s sound can may = one-goes _ _ _ (honoured-logs s sound a entry p last can)
card-goes (strays a entry) s sound can may = one-goes _ _ _ (strayed-logs s sound a entry may)
card-goes (sends_linear a note bytes) s sound can may =
    none-goes _ _ (card-keeps (sends_linear a note bytes) s can refl refl refl refl (sends-none s.nic.view.sent _ can.2) refl)
card-goes (sweeps word found) s sound can may = none-goes _ _ (card-keeps (sweeps word found) s can refl refl refl refl refl refl)
card-goes (looks look) s sound can may = none-goes _ _ (card-keeps (looks look) s can refl refl refl refl refl refl)
card-goes (sees_leave a) s sound can may = none-goes _ _ (card-keeps (sees_leave a) s can refl refl refl refl refl refl)
card-goes ends s sound can may = none-goes _ _ (card-keeps ends s can refl refl refl refl refl refl)

module _ (s : AllSides) (sound : AreSound s) (short : AreShort s.apps) (a : ℕ) (at : IsApp s.apps a (side_in s.apps a)) where
  app-goes : (step : AppStep) → AppCan step s.nic (side_in s.apps a) → MayTell (app a step) s
      → let new = apply (app a step) s in Goes (app_events a step (side_in s.apps a).view new) s new
  app-goes (polls note) can may = one-goes _ _ _ (polled-logs s sound a at note can)
  app-goes (cuts p n) can may = one-goes _ _ _ (cut-logs s sound a at p n can may.0 may.1)
  app-goes (releases p) can may = one-goes _ _ _ (released-logs s sound a at p can)
  app-goes (lends p) can may = one-goes _ _ _ (lent-logs s sound a at p can)
  app-goes (gives p) can may = one-goes _ _ _ (gave-logs s sound a at p can)
  app-goes (abandons p) can may = one-goes _ _ _ (abandoned-logs s sound a at p can)
  app-goes (spares b) can may = one-goes _ _ _ (spared-logs s sound a at b may.0 may.1)
  app-goes (lends_own own) can may = one-goes _ _ _ (lent_own-logs s sound a at own can may short)
  app-goes (polls_linear note bytes) can may =
      let v = (side_in s.apps a).view in
      none-goes _ _ (app-keeps (polls_linear note bytes) s a at can (λ b f. refl) (gains-none v _ refl refl refl refl)
      (record { taken = takes-none v.taken _ can.0; returned = refl; spares = refl }))
  app-goes (fills own bytes) can may =
      none-goes _ _ (app-keeps (fills own bytes) s a at can (λ b f. refl) (gains-filled (side_in s.apps a).view own bytes can)
      (record { taken = refl; returned = refl; spares = refl }))
  app-goes step can may =
      let v = (side_in s.apps a).view in
      none-goes _ _ (app-keeps step s a at can (λ b f. refl) (gains-none v (app_view step v) refl refl refl refl)
      (record { taken = refl; returned = refl; spares = refl }))

pub step-law : StepLaw
step-law (card step) s sound can may log small was =
    record { logged = card-goes step s sound can may log small was.logged; short = was.short }
step-law (app a step) s sound can may log small was = record {
  logged = app-goes s sound was.short a can.0 step can.1 may log small was.logged;
  short = step-short step s a can.0 may was.short;
}
