-- What is told behind the flush, by what the run left.
use Rattle.std.proofs.Common.{◌≡◌, ◌≢◌, ℕ, ◌<◌, Bool, true, false, List, length, Option, Some, None, sym, ap, subst, ◌∙◌, ◌⊎◌, inl, inr, arith}
use Rattle.std.{specs.{Prelude.{option_map}, List.{slice_get}, Io.KnownBytes.{Keeps}}, proofs.KnownBytes.{Keeps-trans}}
use Rattle.zr_kinds.specs.declared.{behaviour.Stopped.{Stopped}, outcome.AppLine.{AppLine}, event.Event.{Event}}
use Rattle.zr_kinds.specs.declared.behaviour.Stopped.TheVariants as stop
use Rattle.zr_io.{specs.Moved.{Gained, Rose, ShelfCounts, raised_by}, proofs.Moved.{Gained-weaker}}
use Rattle.flow_table.specs.{Flows.{Flow, flows_of}, Stream.{stream_of}}
use Rattle.card_feed.{specs.{Ending.{steered_in}, Account.{kept_in}, declared.plan.Plan.{Plan}}, proofs.OfFlow.{there}}
use Rattle.board_face.specs.declared.views.{nic.NicSide.{NicSide}, app.AppSide.{AppSide}}
use Rattle.run_account.specs.{Ran.{HaveWholeStreams, IsLineOf, IsStreamed, Ran, There, Told}, Views.{Ends, Streams, counts_at, ends_at, kept_at, shelf_seen}}
use Rattle.run_account.proofs.{AppLines.{found-there, is-there, one-value}, Places.{get-within}}
use Rattle.top_call.specs.{Flushing.{Flushes, HasFlushed, stopped_or_lost}, declared.card.Card.{Card}}
use Rattle.top_call.specs.Records.{HasRecord, IsReportOf, IsLineOfEvents as IsRecordedLine}

-- ---- one line

not-no : (stopped : Stopped) → stopped_or_lost stopped ≢ stop.No
not-no stop.No = λ is. cc
not-no stop.Quit = λ is. cc
not-no stop.Write = λ is. cc
not-no stop.Memory = λ is. cc

module _ (losses losses_now : ℕ) (line told : AppLine) where
  -- its shelf failed at the flush, or the line is as it was
  pub rose-or-same : (failed : Bool) → HasFlushed losses losses_now line told failed → Rose losses losses_now ⊎ (told ≡ line)
  rose-or-same false flushed = inr flushed.1
  rose-or-same true flushed = inl flushed.0

  told-no : (failed : Bool) → HasFlushed losses losses_now line told failed → told.stopped ≡ stop.No → line.stopped ≡ stop.No
  told-no false flushed is = ap (λ (l : AppLine). l.stopped) (sym flushed.1) ∙ is
  told-no true flushed is = absurd (not-no line.stopped (ap (λ (l : AppLine). l.stopped) (sym flushed.1) ∙ is))

  told-written : (failed : Bool) → HasFlushed losses losses_now line told failed → told.written ≡ line.written
  told-written false flushed = ap (λ (l : AppLine). l.written) flushed.1
  told-written true flushed = ap (λ (l : AppLine). l.written) flushed.1

  told-other : (failed : Bool) → HasFlushed losses losses_now line told failed → told.stopped ≢ stop.Write → line.stopped ≢ stop.Write
  told-other false flushed other = λ write. other (ap (λ (l : AppLine). l.stopped) flushed.1 ∙ write)
  told-other true flushed other = λ write. other (ap (λ (l : AppLine). l.stopped) flushed.1 ∙ ap stopped_or_lost write)

  told-streamed : (failed : Bool) → HasFlushed losses losses_now line told failed → (stream bytes : List ℕ) (count : ℕ)
      → IsStreamed line.stopped stream bytes count → IsStreamed told.stopped stream bytes count
  told-streamed failed flushed stream bytes count was = record {
    rest = was.rest;
    front = was.front;
    whole = λ is. was.whole (told-no failed flushed is);
    counted = λ other. was.counted (told-other failed flushed other);
    at_least = was.at_least;
  }

  told-line : (failed : Bool) → HasFlushed losses losses_now line told failed → (count : ℕ → ℕ) (number : ℕ) (events : List Event)
      → IsRecordedLine count number line events → IsRecordedLine count number told events
  told-line false flushed count number events was = subst (λ l. IsRecordedLine count number l events) (sym flushed.1) was
  told-line true flushed count number events was = subst (λ l. IsRecordedLine count number l events) (sym flushed.1) (record {
    loans = was.loans;
    copied = was.copied;
    written = λ is. absurd (not-no line.stopped is);
    within = was.within;
  })

-- ---- the record

module _ {T : Type 0} {kept : T → ℕ → Option (List ℕ)} {losses : T → ShelfCounts} {many : ℕ} {shelves shelves_now : List T} (outcome : Told)
    {lines : List AppLine} {lost : Bool} (flushes : Flushes (shelf_seen kept losses) many shelves shelves_now outcome.apps lines lost)
    (many_is : length outcome.apps ≡ many) where
  report-told : (count : ℕ → ℕ) (events : List Event) → IsReportOf count outcome events → IsReportOf count (record outcome { apps = lines }) events
  report-told count events was = record {
    apps = λ number line at.
        let (first, first_at) = there outcome.apps number (omega (arith, get-within lines number line at, flushes.many_lines)) in
        let (failed, told, told_at, flushed) = flushes.line number first (omega (arith, get-within outcome.apps number first first_at, many_is)) first_at in
        subst (λ l. IsRecordedLine count number l events) (one-value (sym told_at ∙ at))
        (told-line _ _ first told failed flushed count number events (was.apps number first first_at));
    strays = was.strays;
  }

  pub record-told : (plan : Plan) (card : Card) → HasRecord plan outcome card → HasRecord plan (record outcome { apps = lines }) card
  record-told plan Card.Blank recorded = tt
  record-told plan (Card.Found found) recorded = tt
  record-told plan (Card.Plain board) recorded = λ asked.
      let tells = recorded asked in
      record {
        all = tells.all;
        tallied = tells.tallied;
        holdings = tells.holdings;
        reached = tells.reached;
        over = tells.over;
        log_is = tells.log_is;
        legal = tells.legal;
        told = report-told _ tells.all tells.told;
        exact = λ whole. report-told (λ n. n) board.log.events (tells.exact whole);
        full = tells.full;
      }
  record-told plan (Card.Words board desk) recorded = tt

-- ---- the streams

-- what was gained, and then kept
Gained-kept : (a b c : Option (List ℕ)) (P : List ℕ → Type 0) → Gained a b P → Keeps b c → Gained a c P
Gained-kept None b c P gained keeps = tt
Gained-kept (Some xs) None c P gained keeps = absurd gained
Gained-kept (Some xs) (Some ys) None P gained keeps = absurd keeps
Gained-kept (Some xs) (Some ys) (Some zs) P (bytes, is, holds) keeps = (bytes, keeps ∙ is, holds)

module _ {S T : Type 0} {m : Streams S T} {first : Ends m} (last : Ends m) {at : S} {shelves_run : List T} {plan : Plan} {outcome : Told}
    {lines : List AppLine} {flush_failed : Bool} {nic : NicSide} {apps : List AppSide}
    (replayed : Ran first (ends_at m at shelves_run) plan outcome nic apps)
    (flushes : Flushes m.shelf (length plan.ports.items) shelves_run last.shelves outcome.apps lines flush_failed) where
  pub told-flow : (number : ℕ) (flow : Flow) → slice_get (flows_of (steered_in plan.ports.items replayed.before)) number ≡ Some flow →
      There (slice_get outcome.flows number) (λ line. There (slice_get lines flow.app) (λ app.
      IsLineOf flow line × Gained (kept_at first flow.app number) (kept_at last flow.app number)
      (λ bytes. IsStreamed app.stopped (stream_of (steered_in plan.ports.items replayed.before) outcome.refused number) bytes line.bytes)))
  told-flow number flow at =
      let (line, line_at, its_app) = found-there (slice_get outcome.flows number) _ (replayed.flow number flow at) in
      let (app, app_at, both) = found-there (slice_get outcome.apps flow.app) _ its_app in
      let own : flow.app < length plan.ports.items = omega (arith, get-within outcome.apps flow.app app app_at, replayed.many_apps) in
      let (fails, told, told_at, flushed) = flushes.line flow.app app own app_at in
      is-there (slice_get outcome.flows number) line _ line_at (is-there (slice_get lines flow.app) told _ told_at (
        both.0,
        Gained-kept (kept_at first flow.app number) (kept_in m.shelf.kept shelves_run flow.app number) (kept_at last flow.app number) _
            (Gained-weaker (kept_at first flow.app number) (kept_in m.shelf.kept shelves_run flow.app number) _ _
            (λ bytes was. told-streamed _ _ app told fails flushed _ bytes line.bytes was) both.1)
            (flushes.keeps flow.app number),
      ))

  pub told-others : (app number : ℕ)
      → option_map (λ (flow : Flow). flow.app) (slice_get (flows_of (steered_in plan.ports.items replayed.before)) number) ≢ Some app
      → Keeps (kept_at first app number) (kept_at last app number)
  told-others app number other = Keeps-trans (kept_at first app number) (kept_in m.shelf.kept shelves_run app number) (kept_at last app number)
      (replayed.others app number other) (flushes.keeps app number)

  pub told-appended : (app : ℕ) (line : AppLine) → slice_get lines app ≡ Some line
      → (counts_at last app).appended ≡ raised_by (counts_at first app).appended line.written
  told-appended app line at =
      let own : app < length plan.ports.items = omega (arith, get-within lines app line at, flushes.many_lines, replayed.many_apps) in
      let (port, port_at) = there plan.ports.items app own in
      let (was, was_at, is_line) = found-there (slice_get outcome.apps app) _ (replayed.app app port port_at) in
      let (fails, told, told_at, flushed) = flushes.line app was own was_at in
      let written : line.written ≡ was.written =
      ap (λ (l : AppLine). l.written) (one-value (sym at ∙ told_at)) ∙ told-written _ _ was told fails flushed in
      flushes.appended app ∙ is_line.appended ∙ ap (raised_by (counts_at first app).appended) (sym written)

  -- whole streams stay so where no line changed
  pub told-streams : (quit : Option ℕ) → lines ≡ outcome.apps
      → HaveWholeStreams first (ends_at m at shelves_run) plan.ports.items quit replayed.before outcome
      → HaveWholeStreams first last plan.ports.items quit replayed.before (record outcome { apps = lines })
  told-streams quit same whole number flow at =
      let (app, app_at, streams) = found-there (slice_get outcome.apps flow.app) _ (whole number flow at) in
      is-there (slice_get lines flow.app) app _ (ap (λ ls. slice_get ls flow.app) same ∙ app_at) (λ other.
      Gained-kept (kept_at first flow.app number) (kept_in m.shelf.kept shelves_run flow.app number) (kept_at last flow.app number) _
      (streams other) (flushes.keeps flow.app number))
