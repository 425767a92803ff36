-- What is told of a run that is over is how it went.
use Rattle.std.proofs.Common.{◌≡◌, ◌≢◌, ℕ, zero, suc, ◌+◌, ◌*◌, ◌-◌, ◌^◌, ◌<◌, ◌≤◌, List, [], ◌∷◌, length, drop, append-nil, true, Option, Some, None}
use Rattle.std.{proofs.Common.{refl, sym, ap, subst, ◌∙◌, arith, ⊎_elim}, specs.{Prelude.{option_map, option_and_then, count_by}, List.{slice_get}}}
use Rattle.std.{specs.Io.KnownBytes.{Keeps}, proofs.{KnownBytes.{Keeps-refl}, lemmas.{Bool.{cases_lt, true≢false}, List.Sums.{count_by-le-length}}}}
use Rattle.std.proofs.lemmas.Option.{slice_get_within}
use Rattle.zr_kinds.specs.{Limits.{most_records}, declared.outcome.{AppLine.{AppLine}, FlowLine.{FlowLine}, PoolStats.{PoolStats}}}
use Rattle.zr_kinds.specs.declared.behaviour.Stopped.TheVariants as stop
use Rattle.zr_io.specs.Moved.{Gained}
use Rattle.flow_table.specs.{Flows.{Flow, flows_of}, Stream.{stream_of}}
use Rattle.card_feed.specs.{Ending.{steered_in}, FramesRead.{HasEnded}}
use Rattle.board_face.specs.{Ended.{HaveEnded}, Sides.{IsApp, side_in}, declared.views.{nic.NicSide.{NicSide}, app.AppSide.{AppSide}}}
use Rattle.page_pool.specs.Pool.{all_notes}
use Rattle.flow_queues.specs.Ends.{AppEnd, IsCounted, IsTorn, bytes_written_of}
use Rattle.card_feed.specs.{Account.{AccountsFor, IsStreamedTo}, Coming.{ComesTo, is_over}, Feed.{FeedState, fault_of_stage}, Plan.{how_of}}
use Rattle.card_feed.specs.{Offered.{AreRefused, AreSettled, offers_of}, Outcomes.{AreLinesOf, line_of_flow as flow_line_of}, declared.intake.Stage.{Stage}}
use Rattle.card_feed.{specs.{declared.plan.Plan.{Plan}, Counts.{AreOffersCounted, begins_fresh, found_in, is_long, long_in, searches_in}}, proofs.Bridge.{give_streams}}
use Rattle.card_feed.specs.{Counts.{sweeping_in, sweeps_in}, declared.outcome.Outcome.{Outcome}}
use Rattle.card_feed.{specs.Need.{AreNeeded, RefusesByNeed}, proofs.{Needing.{refuses-by-need}, OfFlow.{there}}}
use Rattle.card_feed.specs.declared.intake.Stage.TheVariants as stage
use Rattle.run_account.specs.Laws.{RunsAreTold, RunsEndWell}
use Rattle.run_account.specs.Ran.{There, IsLineOf, IsStreamed, HasFailed, IsAppLine, all_loans, app_line_of, app_lines_of, AreCounts, Ran, TellsOfEnds, Told, told_of}
use Rattle.run_account.{specs.{Running.{HasRun}, Views.{Ends, Streams, counts_at, failed_at, kept_at, left_at}}, proofs.AppLines.{one-value, is-there, line-at, many-lines, ports-of-lines}}
use Rattle.run_account.proofs.{Accounting.{IsTold, told, line-known, side-is, accounts}, Counted.{gained-both}, Ports.{flows-have-apps}}
use Rattle.run_account.{proofs.{SentFew.{frames-read, offers-few}, Strays.{strays-within}, Tellable.{OutcomeTells, all-told, all-tells}}, specs.Ways.{HasCome}}
use Rattle.run_account.proofs.Written.{all-own, app-below, flow-line, written-is}

-- ---- small steps

-- a reading that is over has ended
comes-over : {S : Type 0} (Wants : List (List ℕ) → List ℕ → Type 0) (left : S → Option (List ℕ)) (faults : S → ℕ) (first now : S)
    (ports : List ℕ) (at : Stage) (frames : List (List ℕ)) → is_over at ≡ true → ComesTo Wants left faults first now ports at frames
    → HasEnded Wants (left first) (left now) (faults first) (faults now) ports frames (fault_of_stage at)
comes-over Wants left faults first now ports stage.Unopened frames over comes = absurd (true≢false (sym over))
comes-over Wants left faults first now ports (stage.Open capture) frames over comes = absurd (true≢false (sym over))
comes-over Wants left faults first now ports (stage.Over end) frames over comes = comes

pub slice-drop : {A : Type 0} (n : ℕ) (xs : List A) (i : ℕ) → slice_get (drop n xs) i ≡ slice_get xs (n + i)
slice-drop zero xs i = let same : i ≡ 0 + i = omega arith in ap (slice_get xs) same
slice-drop (suc n) [] i = refl
slice-drop (suc n) (x ∷ xs) i = let same : suc (n + i) ≡ suc n + i = omega arith in slice-drop n xs i ∙ ap (slice_get (x ∷ xs)) same

-- what follows so many is the same, so each of it is
same-beyond : {A : Type 0} (n : ℕ) (xs ys : List A) (i : ℕ) → drop n xs ≡ drop n ys → n ≤ i → slice_get xs i ≡ slice_get ys i
same-beyond n xs ys i same behind =
    let place : n + (i - n) ≡ i = omega (arith, behind) in
    ap (slice_get xs) (sym place) ∙ sym (slice-drop n xs (i - n)) ∙ ap (λ zs. slice_get zs (i - n)) same ∙ slice-drop n ys (i - n)
    ∙ ap (slice_get ys) place

module _ {S T : Type 0} {m : Streams S T} (was now : Ends m) (plan : Plan) (nic : NicSide) (apps : List AppSide) (feed : FeedState)
    (ends : List AppEnd) (told_is : Told) (ended : HaveEnded nic apps)
    (runs : HasRun was now plan nic apps feed ends)
    (tells : OutcomeTells feed ends plan.ports.items told_is) where
  here-is : (a : ℕ) → a < length plan.ports.items → IsApp apps a (side_in apps a)
  here-is = side-is was now plan nic apps feed ends ended runs

  told-at : (a : ℕ) → a < length plan.ports.items
      → IsTold plan.options.split (steered_in plan.ports.items runs.frames) feed.refused nic a (side_in apps a)
  told-at a within = told was now plan nic apps feed ends ended runs a (side_in apps a) (here-is a within)

  end-there : (a : ℕ) → a < length plan.ports.items → (end : AppEnd) × (slice_get ends a ≡ Some end)
  end-there a within = there ends a (omega (arith, within, runs.many))

  accounts-told : AccountsFor m.shelf.kept was.shelves now.shelves plan runs.frames told_is.refused nic apps told_is.apps
      told_is.pool.strays
  accounts-told =
      subst (λ refused. AccountsFor m.shelf.kept was.shelves now.shelves plan runs.frames refused nic apps told_is.apps told_is.pool.strays)
      (sym tells.refused)
      (subst (λ lines. AccountsFor m.shelf.kept was.shelves now.shelves plan runs.frames feed.refused nic apps lines told_is.pool.strays)
      (sym tells.apps_are)
      (subst (λ (stats : PoolStats). AccountsFor m.shelf.kept was.shelves now.shelves plan runs.frames feed.refused nic apps
      (app_lines_of plan.ports.items ends) stats.strays) (sym tells.pool) (accounts was now plan nic apps feed ends ended runs)))

  counts-are : AreCounts (flows_of (steered_in plan.ports.items runs.frames)) ends tells.counts
  counts-are = subst (λ flows. AreCounts flows ends tells.counts) runs.stands.knows.flows_are tells.are

  lines-are : AreLinesOf (flows_of (steered_in plan.ports.items runs.frames)) tells.counts told_is.flows
  lines-are = subst (λ flows. AreLinesOf flows tells.counts told_is.flows) runs.stands.knows.flows_are
      (tells.flows (ports-of-lines plan.ports.items ends runs.many ∙ sym runs.stands.knows.ports_are))

  app-line-at : (a port : ℕ) (end : AppEnd) → slice_get plan.ports.items a ≡ Some port → slice_get ends a ≡ Some end
      → slice_get told_is.apps a ≡ Some (app_line_of port end)
  app-line-at a port end port_at end_at = ap (λ lines. slice_get lines a) tells.apps_are ∙ line-at plan.ports.items ends a port end port_at end_at

  refused-are : AreRefused plan.options.split (offers_of (steered_in plan.ports.items runs.frames)) told_is.refused
  refused-are =
      let settled : AreSettled plan.options.split (offers_of (steered_in plan.ports.items runs.frames)) feed.refused None _ =
      rw (runs.ready.fits.none runs.closed) at runs.stands.knows.settled in
      subst (AreRefused plan.options.split (offers_of (steered_in plan.ports.items runs.frames))) (sym tells.refused)
      (subst (λ offers. AreRefused plan.options.split offers feed.refused) settled.awaits settled.refused_are)

  counted : AreOffersCounted plan.options.split (offers_of (steered_in plan.ports.items runs.frames)) told_is.refused None nic.view.dealt told_is.pool
  counted =
      let pool : AreOffersCounted plan.options.split (offers_of (steered_in plan.ports.items runs.frames)) feed.refused None nic.view.dealt _ =
      rw (runs.ready.fits.none runs.closed) at runs.stands.knows.counted in
      subst (λ refused. AreOffersCounted plan.options.split (offers_of (steered_in plan.ports.items runs.frames)) refused None nic.view.dealt told_is.pool)
      (sym tells.refused)
      (subst (λ (stats : PoolStats). AreOffersCounted plan.options.split (offers_of (steered_in plan.ports.items runs.frames)) feed.refused None
      nic.view.dealt stats) (sym tells.pool) pool)

  by-need : RefusesByNeed plan (offers_of (steered_in plan.ports.items runs.frames)) told_is.refused
  by-need =
      let needed : AreNeeded nic.view.setting.layout plan.options.split (offers_of (steered_in plan.ports.items runs.frames)) feed.refused None _ _ =
      rw (runs.ready.fits.none runs.closed) at runs.stands.knows.needed in
      subst (RefusesByNeed plan (offers_of (steered_in plan.ports.items runs.frames))) (sym tells.refused)
      (refuses-by-need plan nic.view.setting _ feed.refused _ _ runs.setting needed)

  searched : searches_in told_is.pool ≤ long_in plan.options.split (offers_of (steered_in plan.ports.items runs.frames))
  searched = omega (arith, counted.searches)

  strays-few : told_is.pool.strays ≤ (how_of plan).stray * all_loans told_is.apps
  strays-few =
      let most = strays-within was now plan nic apps feed ends ended runs in
      subst (λ lines. told_is.pool.strays ≤ (how_of plan).stray * all_loans lines) (sym tells.apps_are) (omega (arith, counted.strays, most))

  -- there are too few searches for a count to stop
  pub searches-few : searches_in told_is.pool ≤ most_records
  searches-few =
      let few : long_in plan.options.split (offers_of (steered_in plan.ports.items runs.frames)) ≤ length (offers_of (steered_in plan.ports.items runs.frames)) =
      count_by-le-length (is_long plan.options.split) (offers_of (steered_in plan.ports.items runs.frames)) in
      omega (
        arith,
        searched,
        few,
        offers-few plan.ports.items runs.frames,
        frames-read m.source.left m.source.failed was.source now.source plan.ports.items plan.options.split runs.frames feed nic.view runs.stands
            runs.records,
      )

  -- as many found too few as frames were refused
  found-none : told_is.pool.empty ≡ length told_is.refused
  found-none = omega (arith, counted.empty, searches-few)

  -- no more swept the free list than the card did
  swept-few : sweeping_in told_is.pool ≤ sweeps_in nic.view
  swept-few = omega (arith, runs.stands.knows.swept, ap sweeping_in tells.pool)

  -- and as many found enough as frames begin in a fresh buffer
  found-fresh : found_in told_is.pool ≡ count_by begins_fresh nic.view.sent
  found-fresh =
      let none = runs.ready.fits.sent runs.closed in
      let notes : all_notes feed.pool nic.view ≡ nic.view.sent = rw (none.short, none.pieces) (append-nil nic.view.sent) in
      let few : found_in told_is.pool < 2 ^ 64 - 1 = omega (arith, searches-few) in
      ⊎_elim
      (λ (same : found_in feed.pool.stats ≡ count_by begins_fresh (all_notes feed.pool nic.view)).
      ap found_in tells.pool ∙ same ∙ ap (count_by begins_fresh) notes)
      (λ (full : 2 ^ 64 - 1 ≤ found_in feed.pool.stats). absurd (omega (arith, few, full, ap found_in tells.pool)))
      runs.stands.knows.found.found

  one-stream : (number port : ℕ) (flow : Flow) (end : AppEnd) → slice_get (flows_of (steered_in plan.ports.items runs.frames)) number ≡ Some flow
      → slice_get plan.ports.items flow.app ≡ Some port → slice_get ends flow.app ≡ Some end → flow.app < length plan.ports.items
      → Gained (kept_at was flow.app number) (kept_at now flow.app number)
      (λ bytes. IsStreamed end.stopped (stream_of (steered_in plan.ports.items runs.frames) told_is.refused number) bytes
      (bytes_written_of number end.flows))
  one-stream number port flow end at port_at end_at within =
      let stream : List ℕ = stream_of (steered_in plan.ports.items runs.frames) told_is.refused number in
      let count : ℕ = bytes_written_of number end.flows in
      let streamed = give_streams m.shelf.kept was.shelves now.shelves plan runs.frames told_is.refused nic apps told_is.apps
      told_is.pool.strays accounts-told number flow (side_in apps flow.app) (app_line_of port end) at (here-is flow.app within)
      (app-line-at flow.app port end port_at end_at) (told-at flow.app within).reads in
      gained-both (kept_at was flow.app number) (kept_at now flow.app number)
      (IsStreamedTo end.stopped stream) (IsCounted end.stopped count) (λ bytes. IsStreamed end.stopped stream bytes count)
      (λ bytes s c. record { rest = s.rest; front = s.front; whole = s.whole; counted = c.counted; at_least = c.at_least })
      streamed ((runs.app flow.app end end_at).counted number)

  streams : (number : ℕ) (flow : Flow) → slice_get (flows_of (steered_in plan.ports.items runs.frames)) number ≡ Some flow
      → There (slice_get told_is.flows number) (λ line. There (slice_get told_is.apps flow.app) (λ app.
      IsLineOf flow line × Gained (kept_at was flow.app number) (kept_at now flow.app number)
      (λ bytes. IsStreamed app.stopped (stream_of (steered_in plan.ports.items runs.frames) told_is.refused number) bytes line.bytes)))
  streams number flow at =
      let have = flows-have-apps plan.ports.items runs.frames in
      let below : flow.app < length plan.ports.items = app-below plan.ports.items _ have number flow at in
      let (port, port_at) = there plan.ports.items flow.app below in
      let (end, end_at) = end-there flow.app below in
      is-there (slice_get told_is.flows number) (flow_line_of flow (bytes_written_of number end.flows)) _
      (flow-line plan.ports.items _ ends tells.counts told_is.flows have counts-are lines-are number flow end at end_at)
      (is-there (slice_get told_is.apps flow.app) (app_line_of port end) _ (app-line-at flow.app port end port_at end_at)
      (record { port = refl; base = refl; fin = refl; end = refl }, one-stream number port flow end at port_at end_at below))

  others : (a number : ℕ) → option_map (λ (flow : Flow). flow.app) (slice_get (flows_of (steered_in plan.ports.items runs.frames)) number) ≢ Some a
      → Keeps (kept_at was a number) (kept_at now a number)
  others a number other = ⊎_elim
      (λ (below : a < length plan.ports.items). accounts-told.others a number (omega (arith, below, accounts-told.many_apps))
      (λ flow at same. other (ap (option_map (λ (f : Flow). f.app)) at ∙ ap Some same)))
      (λ (past : length plan.ports.items ≤ a).
      let same : kept_at now a number ≡ kept_at was a number =
      ap (option_and_then (λ (shelf : T). m.shelf.kept shelf number))
      (same-beyond (length plan.ports.items) now.shelves was.shelves a runs.beyond past) in
      subst (Keeps (kept_at was a number)) (sym same) (Keeps-refl (kept_at was a number)))
      (cases_lt a (length plan.ports.items))

  one-app : (a port : ℕ) (end : AppEnd) → slice_get plan.ports.items a ≡ Some port → slice_get ends a ≡ Some end → a < length plan.ports.items
      → IsAppLine (how_of plan) port (counts_at was a) (counts_at now a) told_is.flows (app_line_of port end)
  one-app a port end port_at end_at within =
      let went = runs.app a end end_at in
      let has = told-at a within in
      record {
        port_is = refl;
        written = written-is plan.ports.items (flows_of (steered_in plan.ports.items runs.frames)) ends tells.counts told_is.flows
            (flows-have-apps plan.ports.items runs.frames) counts-are lines-are runs.plan_is.distinct runs.many a port end port_at end_at
            (all-own (flows_of (steered_in plan.ports.items runs.frames)) a (side_in apps a).view.taken _ has.taken has.own end.flows went.noted)
            went.once went.written;
        copies = went.copies;
        loans = went.counts;
        quits = went.quits;
        later = went.later;
        cause = went.cause;
        still = went.still;
        appended = went.appended;
      }

  app-lines : (a port : ℕ) → slice_get plan.ports.items a ≡ Some port
      → There (slice_get told_is.apps a) (IsAppLine (how_of plan) port (counts_at was a) (counts_at now a) told_is.flows)
  app-lines a port port_at =
      let within = slice_get_within plan.ports.items a port port_at in
      let (end, end_at) = end-there a within in
      is-there (slice_get told_is.apps a) (app_line_of port end) _ (app-line-at a port end port_at end_at) (one-app a port end port_at end_at within)

  -- where its shelf failed
  failed-at : (a : ℕ) (app : AppLine) → slice_get told_is.apps a ≡ Some app → app.stopped ≡ stop.Write
      → HasFailed was now (flows_of (steered_in plan.ports.items runs.frames)) told_is.flows a (side_in apps a).view
  failed-at a line at is_write =
      let known = line-known was now plan nic apps feed ends ended runs a line
      (ap (λ lines. slice_get lines a) (sym tells.apps_are) ∙ at) in
      let end : AppEnd = known.end in
      let within = slice_get_within plan.ports.items a known.port known.port_at in
      let fails = (runs.app a end known.end_at).torn (sym (ap (λ (l : AppLine). l.stopped) known.is) ∙ is_write) (told-at a within).whole in
      record {
        torn = fails.torn;
        each = λ number flow flow_line flow_at goes flow_line_at.
            let same : slice_get ends flow.app ≡ Some end = ap (slice_get ends) goes ∙ known.end_at in
            let is : flow_line_of flow (bytes_written_of number end.flows) ≡ flow_line = one-value (sym (flow-line plan.ports.items _ ends
            tells.counts told_is.flows (flows-have-apps plan.ports.items runs.frames) counts-are lines-are number flow end flow_at same)
            ∙ flow_line_at) in
            subst (λ (l : FlowLine). Gained (kept_at was a number) (kept_at now a number)
            (IsTorn (side_in apps a).view fails.torn number l.bytes)) is (fails.each number);
      }

  -- and by what turns it came to its line
  came-to : (a port : ℕ) (line : AppLine) → slice_get plan.ports.items a ≡ Some port → slice_get told_is.apps a ≡ Some line
      → (end : AppEnd) × (line ≡ app_line_of port end)
      × HasCome plan (kept_at was a) (kept_at now a) (counts_at was a) (counts_at now a) (side_in apps a).view end
  came-to a port line port_at at =
      let within = slice_get_within plan.ports.items a port port_at in
      let (end, end_at) = end-there a within in
      (end, one-value (sym at ∙ app-line-at a port end port_at end_at), runs.came a end end_at)

  ran : Ran was now plan told_is nic apps
  ran = record {
    before = runs.frames;
    ended = subst (HasEnded _ (left_at was) (left_at now) (failed_at was) (failed_at now) plan.ports.items runs.frames) (sym tells.end)
        (comes-over _ m.source.left m.source.failed was.source now.source plan.ports.items feed.stage runs.frames
        (runs.ready.fits.over runs.closed) runs.stands.comes);
    tally = tells.tally ∙ runs.stands.knows.tally_is;
    refused = refused-are;
    need = by-need;
    searches = searched;
    found = found-fresh;
    empty = found-none;
    swept = swept-few;
    strays = strays-few;
    flow = streams;
    many_flows = lines-are.many;
    others = others;
    app = app-lines;
    many_apps = ap length tells.apps_are ∙ many-lines plan.ports.items ends runs.many;
    failed = failed-at;
    many_shelves = runs.many_shelves;
    beyond = runs.beyond;
    turns = record {
      feed = feed;
      turns = runs.turns;
      tally = tells.tally;
      refused = tells.refused;
      pool = tells.pool;
      end = tells.end;
    };
    came = came-to;
    over = ended;
    accounts = accounts-told;
  }

outcome-tells : (feed : FeedState) (ends : List AppEnd) (ports : List ℕ) (outcome : Outcome) → TellsOfEnds feed ends ports outcome
    → OutcomeTells feed ends ports (told_of outcome)
outcome-tells feed ends ports outcome tells = record {
  counts = tells.counts;
  are = tells.are;
  tally = tells.is.tally;
  apps_are = tells.is.apps_are;
  flows = tells.is.flows;
  refused = tells.is.refused;
  pool = tells.is.pool;
  end = tells.is.end;
}

-- Once all are gone, the outcome that is told is that of the run.
pub end-well : {S T : Type 0} (m : Streams S T) → RunsEndWell m
end-well m was now plan nic apps feed ends outcome ended runs tells =
    ran was now plan nic apps feed ends (told_of outcome) ended runs (outcome-tells feed ends plan.ports.items outcome tells)

-- It tells of no more searches than records are read at most.
pub end-few : {S T : Type 0} {m : Streams S T} (was now : Ends m) (plan : Plan) (nic : NicSide) (apps : List AppSide) (feed : FeedState)
    (ends : List AppEnd) (outcome : Outcome) → HaveEnded nic apps → HasRun was now plan nic apps feed ends
    → TellsOfEnds feed ends plan.ports.items outcome → searches_in outcome.pool ≤ most_records
end-few was now plan nic apps feed ends outcome ended runs tells =
    searches-few was now plan nic apps feed ends (told_of outcome) ended runs
    (outcome-tells feed ends plan.ports.items outcome tells)

-- And there is something to tell, whether there is memory for it or not.
pub end-told : {S T : Type 0} (m : Streams S T) → RunsAreTold m
end-told m was now plan nic apps feed ends ended runs =
    let told_is = all-told feed ends plan.ports.items in
    let tells = all-tells feed ends plan.ports.items in
    (told_is, tells.end, ran was now plan nic apps feed ends told_is ended runs tells)
