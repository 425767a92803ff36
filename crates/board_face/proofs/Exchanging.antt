-- The exchange of every step.
use Rattle.board_face.specs.{Laws.{by_app, AllSides}, Sides.{IsApp}, BoardSteps.{AppStep, AppCan}, Holdings.{Hold, weigh}, declared.views.app.AppSide.{AppSide}}
use Rattle.std.proofs.Common.{◌≡◌, ℕ, ◌+◌, ap, arith}
use Rattle.board_face.{specs.{Sides.{app_at, side_in}, BoardSteps.{card, app, app_view}}, proofs.Tallies.{total-set}}
use Rattle.board_face.{specs.Holdings.{ExchangeLaw, app_weight, weight_in, app_ends, app_begins}, proofs.{CardExchange.{card-exchange}, AppExchange.{app-exchange}}}

-- of an application that is known by its number
pub app-exchanged : (step : AppStep) (s : AllSides) (a : ℕ) (x : AppSide) → IsApp s.apps a x → AppCan step s.nic x → (w : Hold → ℕ) (b : ℕ)
    → weigh w b (by_app s a x (app_view step x.view)) + weight_in w b (app_ends a step x.view) ≡ weigh w b s + weight_in w b (app_begins a step x.view)
app-exchanged step s a x at can w b =
    omega (
      arith,
      app-exchange step s.nic x can w b,
      total-set (app_weight w b s.nic) s.apps a x (app_at x (app_view step x.view)) at.there at.is,
      ap (λ n. weight_in w b (app_ends n step x.view)) at.number,
      ap (λ n. weight_in w b (app_begins n step x.view)) at.number,
    )

pub exchange : ExchangeLaw
exchange (card step) s can w b = card-exchange step s can w b
exchange (app a step) s can w b = app-exchanged step s a (side_in s.apps a) can.0 can.1 w b
