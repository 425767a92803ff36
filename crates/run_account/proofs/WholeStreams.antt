-- Where no application was stopped but to quit, streams are whole.
use Rattle.std.{proofs.Common.{◌≡◌, ◌≢◌, ℕ, List, Option, Some, None, sym, ap, ◌∙◌, ◌⊎◌, ⊎_elim, arith}, specs.List.{slice_get}}
use Rattle.zr_kinds.specs.declared.{behaviour.Stopped.{Stopped}, outcome.AppLine.{AppLine}}
use Rattle.zr_kinds.specs.declared.behaviour.Stopped.TheVariants as stop
use Rattle.zr_io.proofs.Moved.{Gained-weaker}
use Rattle.board_face.specs.declared.views.{nic.NicSide.{NicSide}, app.AppSide.{AppSide}}
use Rattle.flow_queues.specs.Totals.{Quits}
use Rattle.card_feed.{specs.{Plan.{how_of}, declared.plan.Plan.{Plan}}, proofs.OfFlow.{there}}
use Rattle.run_account.{specs.{Ran.{HaveWholeStreams, Ran, Told}, Views.{Ends, Streams, kept_at}}, proofs.{AppLines.{one-value, is-there, found-there}, Places.{get-within}}}

-- one that hasn't written as many bytes as it was to didn't quit
not-quit : (quit : Option ℕ) (written : ℕ) (stopped : Stopped) → Quits quit written stopped → quit ≢ Some written → stopped ≢ stop.Quit
not-quit None written stopped quits other = quits
not-quit (Some n) written stopped quits other = λ is. other (ap Some (sym (quits.1.0 is)))

module _ {S T : Type 0} {m : Streams S T} (was now : Ends m) (plan : Plan) (told : Told) (nic : NicSide) (apps : List AppSide)
    (ran : Ran was now plan told nic apps)
    (going : (number : ℕ) (app : AppLine) → slice_get told.apps number ≡ Some app → (app.stopped ≡ stop.No) ⊎ (app.stopped ≡ stop.Quit)) where
  unstopped : (number : ℕ) (app : AppLine) → slice_get told.apps number ≡ Some app → (how_of plan).quit ≢ Some app.written → app.stopped ≡ stop.No
  unstopped number app at other =
      let (port, port_at) = there plan.ports.items number (omega (arith, get-within told.apps number app at, ran.many_apps)) in
      let (line, line_at, is) = found-there (slice_get told.apps number) _ (ran.app number port port_at) in
      let same : line ≡ app = one-value (sym line_at ∙ at) in
      ⊎_elim (λ no. no) (λ quit. absurd (not-quit (how_of plan).quit line.written line.stopped is.quits
      (λ wrote. other (wrote ∙ ap (λ (l : AppLine). Some l.written) same)) (ap (λ (l : AppLine). l.stopped) same ∙ quit))) (going number app at)

  pub whole-streams : HaveWholeStreams was now plan.ports.items (how_of plan).quit ran.before told
  whole-streams number flow at =
      let (flow_line, flow_line_at, its_app) = found-there (slice_get told.flows number) _ (ran.flow number flow at) in
      let (app, app_at, both) = found-there (slice_get told.apps flow.app) _ its_app in
      is-there (slice_get told.apps flow.app) app _ app_at (λ other.
      Gained-weaker (kept_at was flow.app number) (kept_at now flow.app number) _ _
      (λ bytes streamed. streamed.whole (unstopped flow.app app app_at other)) both.1)
