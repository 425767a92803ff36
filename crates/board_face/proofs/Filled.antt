-- A buffer stays filled by one at most, whatever the step.
use Rattle.std.proofs.Common.{ℕ, set, arith, ap, length, refl}
use Rattle.board_face.specs.{Sides.{nic_at, app_at, side_in, IsApp}, Laws.{AllSides}, NicEvents.{honoured}}
use Rattle.board_face.specs.{BoardSteps.{AppStep, AppCan, app_view, card_view}, Holdings.{FilledLaw, BeginsFresh}, Fillings.{IsFilledByOne}, declared.views.app.AppSide.{AppSide}}
use Rattle.board_face.specs.BoardSteps as steps
use Rattle.board_face.proofs.{Parts.{owed-count}, NicLemmas.{Owes}}
use Rattle.board_face.proofs.IsFilledByOneLemmas.{IsFilledByOne-nic, IsFilledByOne-gave_up, IsFilledByOne-took, IsFilledByOne-swept, IsFilledByOne-placed}
use Rattle.board_face.proofs.IsFilledByOneLemmas.{IsFilledByOne-shut, IsFilledByOne-sent, IsFilledByOne-sent_linear, IsFilledByOne-honoured}
use Rattle.board_face.proofs.IsFilledByOneLemmas.{IsFilledByOne-passed_over, IsFilledByOne-app, IsFilledByOne-took_note, IsFilledByOne-took_linear}
use Rattle.board_face.proofs.IsFilledByOneLemmas.{IsFilledByOne-cut, IsFilledByOne-released, IsFilledByOne-lent, IsFilledByOne-abandoned, IsFilledByOne-gave}
use Rattle.board_face.proofs.IsFilledByOneLemmas.{IsFilledByOne-got_spare, IsFilledByOne-filled, IsFilledByOne-lent_own}

module _ (b : ℕ) (s : AllSides) (a : ℕ) (x : AppSide) (at : IsApp s.apps a x) (sound : IsFilledByOne b s.nic s.apps) where
  app-filled : (step : AppStep) → AppCan step s.nic x → BeginsFresh (steps.app a step) s
      → IsFilledByOne b s.nic (set s.apps a (app_at x (app_view step x.view)))
  app-filled (steps.polls note) can free = IsFilledByOne-took_note b s.nic s.apps a x note at can.1 can.0 sound
  app-filled (steps.polls_linear note bytes) can free = IsFilledByOne-took_linear b s.nic s.apps a x note bytes at can.1 can.0 sound
  app-filled (steps.cuts p n) can free = IsFilledByOne-cut b s.nic s.apps a x p n at can sound
  app-filled (steps.releases p) can free = IsFilledByOne-released b s.nic s.apps a x p at can sound
  app-filled (steps.lends p) can free = IsFilledByOne-lent b s.nic s.apps a x p at can sound
  app-filled (steps.gives p) can free = IsFilledByOne-gave b s.nic s.apps a x p at can.0 (can.1 b) sound
  app-filled (steps.abandons p) can free = IsFilledByOne-abandoned b s.nic s.apps a x p at can.0 (can.1 b) sound
  app-filled (steps.spares c) can free = IsFilledByOne-got_spare b s.nic s.apps a x c at free.1 free.0 sound
  app-filled (steps.fills it bytes) can free = IsFilledByOne-filled b s.nic s.apps a x it bytes at can sound
  app-filled (steps.lends_own it) can free = IsFilledByOne-lent_own b s.nic s.apps a x it at can sound
  app-filled step can free = IsFilledByOne-app b s.nic s.apps a x (app_at x (app_view step x.view)) at (omega arith) (omega arith) sound

pub filled : FilledLaw
filled (steps.card (steps.takes c)) s can free b sound = IsFilledByOne-took b s.nic s.apps c free.1 free.0 sound
filled (steps.card (steps.sweeps word found)) s can free b sound = IsFilledByOne-swept b s.nic s.apps word found sound
filled (steps.card (steps.places it bytes)) s can free b sound = IsFilledByOne-placed b s.nic s.apps it bytes can sound
filled (steps.card (steps.sends a note)) s can free b sound =
    let x = side_in s.apps a in
    IsFilledByOne-sent b s.nic s.apps a note x can.3 can.2 can.0.numbers can.1 (can.0.taken a x can.1) sound
filled (steps.card (steps.sends_linear a note bytes)) s can free b sound =
    let x = side_in s.apps a in
    IsFilledByOne-sent_linear b s.nic s.apps a note bytes x can.2 can.0.numbers can.1 (can.0.taken a x can.1) sound
filled (steps.card (steps.shuts it last)) s can free b sound = IsFilledByOne-shut b s.nic s.apps it last can sound
filled (steps.card (steps.honours a entry p last)) s can free b sound =
    let x = side_in s.apps a in
    let owes : Owes p.buffer s.nic x = record {
      owes = omega (arith, ap length can.2.owes, owed-count p.buffer s.nic x);
      returning = (can.0.ended a p.buffer x can.1).returning;
    } in
    IsFilledByOne-gave_up b (nic_at s.nic (honoured s.nic.view a entry p.buffer)) s.apps p.buffer last
    (IsFilledByOne-honoured b s.nic s.apps a p.buffer entry x can.0.numbers can.1 owes sound)
filled (steps.card (steps.strays a entry)) s can free b sound = IsFilledByOne-passed_over b s.nic s.apps a entry sound
filled (steps.card step) s can free b sound = IsFilledByOne-nic b s.nic (card_view step s.nic.view) s.apps refl refl refl refl refl sound
filled (steps.app a step) s can free b sound = app-filled b s a (side_in s.apps a) can.0 sound step can.1 free
