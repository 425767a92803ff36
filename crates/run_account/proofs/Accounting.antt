-- The sides of the roles of a run that is over account for it.
use Rattle.std.{proofs.Common.{◌≡◌, ℕ, ◌<◌, ◌==◌, List, length, map, Some, sym, ap, subst, ◌∙◌, arith}, specs.{Prelude.{All}, List.{slice_get}}}
use Rattle.std.proofs.lemmas.{List.Elements.{All-filter}, Option.{slice_get_within}}
use Rattle.zr_kinds.specs.declared.outcome.AppLine.{AppLine}
use Rattle.zr_io.specs.Moved.{Gained}
use Rattle.flow_table.specs.{Steered.{SteeredTcp}, Flows.{flows_of}}
use Rattle.card_feed.specs.{Ending.{steered_in}, Account.{offered_to, AppAccounts, AccountsFor, IsFlowRead}, Feed.{FeedState}, Sent.{IsOfOwnFlow}, Plan.{how_of}}
use Rattle.board_face.specs.{Blank.{blank_app}, Ended.{HaveEnded, IsServed}, Sides.{IsApp, side_in}, Holders.{sent_to}}
use Rattle.board_face.specs.{Relay.{as_taken, IsAsSent, IsProper, HasNoLoanStray}, declared.views.{nic.NicSide.{NicSide}, app.AppSide.{AppSide}}}
use Rattle.board_face.proofs.SideLemmas.{IsApp-at}
use Rattle.page_pool.specs.Frames.{ShowFrames}
use Rattle.app_worker.specs.Marks.{FramesStandTogether, marks_of}
use Rattle.flow_queues.specs.{Ends.{AppEnd, HasLeft}, Returned.{HasReturned}}
use Rattle.card_feed.{specs.declared.plan.Plan.{Plan}, proofs.{Sharing.{closed_show}, SentNotes.{notes-whole, notes-own}, OwnFlows.{own-marks}, OfFlow.{there}}}
use Rattle.run_account.{specs.{Ran.{app_line_of, app_lines_of}, Running.{HasRun}, Views.{Ends, Streams, counts_at, kept_at}}, proofs.{AppLines.{one-value, line-at, many-lines}, Gone.{side-at, many-sides}}}
use Rattle.run_account.proofs.OwnReads.{flow-read, no-flow-read}

-- What was sent to an application, and what it took and read.
pub record IsTold (split : ℕ) (steered : List SteeredTcp) (refused : List ℕ) (nic : NicSide) (a : ℕ) (app : AppSide) : Type 0 where
  pub notes : ShowFrames split (offered_to a refused steered) (sent_to a nic)
  pub taken : app.view.taken ≡ map as_taken (sent_to a nic)
  pub reads : All (IsAsSent (sent_to a nic)) app.view.reads
  pub no_stray : HasNoLoanStray nic app
  pub whole : FramesStandTogether app.view.taken
  pub own : All (IsOfOwnFlow (flows_of steered) a) (sent_to a nic)

-- the line is that of this application
pub record IsLineAt (ports : List ℕ) (ends : List AppEnd) (a : ℕ) (line : AppLine) : Type 0 where
  pub port : ℕ
  pub end : AppEnd
  pub port_at : slice_get ports a ≡ Some port
  pub end_at : slice_get ends a ≡ Some end
  pub is : line ≡ app_line_of port end

module _ {S T : Type 0} {m : Streams S T} (was now : Ends m) (plan : Plan) (nic : NicSide) (apps : List AppSide) (feed : FeedState)
    (ends : List AppEnd) (ended : HaveEnded nic apps)
    (runs : HasRun was now plan nic apps feed ends) where
  sides : length apps ≡ length plan.ports.items
  sides = many-sides plan nic apps ended.one_setting runs.setting

  pub side-is : (a : ℕ) → a < length plan.ports.items → IsApp apps a (side_in apps a)
  side-is a within = IsApp-at apps a blank_app ended.numbers (omega (arith, within, sides))

  pub told : (a : ℕ) (app : AppSide) → IsApp apps a app
      → IsTold plan.options.split (steered_in plan.ports.items runs.frames) feed.refused nic a app
  told a app here =
      let one : IsServed nic app = subst (IsServed nic) here.is (ended.served a app here.there) in
      let shown : ShowFrames plan.options.split (offered_to a feed.refused (steered_in plan.ports.items runs.frames)) (sent_to a nic) =
      closed_show m.source.left m.source.failed was.source now.source plan.ports.items plan.options.split runs.frames feed nic runs.stands runs.ready
      runs.closed a in
      let taken : app.view.taken ≡ map as_taken (sent_to a nic) =
      subst (λ b. app.view.taken ≡ map as_taken (sent_to b nic)) here.number one.taken in
      let proper : All IsProper (sent_to a nic) = All-filter (λ s. s.app == a) IsProper nic.view.sent ended.proper in
      record {
        notes = shown;
        taken = taken;
        reads = subst (λ b. All (IsAsSent (sent_to b nic)) app.view.reads) here.number one.reads;
        no_stray = one.strays;
        whole = subst FramesStandTogether (sym taken)
            (notes-whole plan.options.split plan.ports.items runs.frames feed.refused a (sent_to a nic) shown proper);
        own = notes-own plan.options.split plan.ports.items runs.frames feed.refused a (sent_to a nic) shown;
      }

  pub left-at : (a : ℕ) (app : AppSide) (end : AppEnd) → IsApp apps a app → slice_get ends a ≡ Some end
      → HasLeft (how_of plan) (kept_at was a) (kept_at now a) (counts_at was a) (counts_at now a) app.view end
  left-at a app end here at = subst (λ (side : AppSide). HasLeft (how_of plan) (kept_at was a) (kept_at now a)
      (counts_at was a) (counts_at now a) side.view end) (side-at apps a app here) (runs.app a end at)

  pub line-known : (a : ℕ) (line : AppLine) → slice_get (app_lines_of plan.ports.items ends) a ≡ Some line
      → IsLineAt plan.ports.items ends a line
  line-known a line at =
      let below : a < length plan.ports.items = omega (
        arith,
        slice_get_within (app_lines_of plan.ports.items ends) a line at,
        many-lines plan.ports.items ends runs.many,
      ) in
      let port = there plan.ports.items a below in
      let own = there ends a (omega (arith, below, runs.many)) in
      record {
        port = port.0;
        end = own.0;
        port_at = port.1;
        end_at = own.1;
        is = one-value (sym at ∙ line-at plan.ports.items ends a port.0 own.0 port.1 own.1);
      }

  app-accounts : (a : ℕ) (app : AppSide) (line : AppLine) → IsApp apps a app → slice_get (app_lines_of plan.ports.items ends) a ≡ Some line
      → AppAccounts (how_of plan) plan.options.split (steered_in plan.ports.items runs.frames) feed.refused nic a app line
  app-accounts a app line here at =
      let known = line-known a line at in
      let went = left-at a app known.end here known.end_at in
      let has = told a app here in
      subst (λ (l : AppLine). AppAccounts (how_of plan) plan.options.split (steered_in plan.ports.items runs.frames) feed.refused nic a app l) (sym known.is)
      (record {
        has_left = went.left;
        notes = has.notes;
        taken = has.taken;
        loans = went.loans;
        copied = went.copied;
        all_lent = went.all_lent;
        within_lent = went.within_lent;
        returned = subst (λ (side : AppSide). HasReturned (how_of plan) known.end.stopped known.end.written side.view) (side-at apps a app here)
            (runs.returned a known.end known.end_at);
        no_stray = has.no_stray;
      })

  flow-accounts : (number a : ℕ) (app : AppSide) (line : AppLine) → IsApp apps a app → slice_get (app_lines_of plan.ports.items ends) a ≡ Some line
      → Gained (kept_at was a number) (kept_at now a number) (IsFlowRead app line.stopped number)
  flow-accounts number a app line here at =
      let known = line-known a line at in
      subst (λ (l : AppLine). Gained (kept_at was a number) (kept_at now a number) (IsFlowRead app l.stopped number)) (sym known.is)
      (flow-read (kept_at was a) (kept_at now a) (counts_at was a) (counts_at now a) (how_of plan) app
      known.end (left-at a app known.end here known.end_at) (told a app here).whole number)

  pub accounts : AccountsFor m.shelf.kept was.shelves now.shelves plan runs.frames feed.refused nic apps (app_lines_of plan.ports.items ends)
      feed.pool.stats.strays
  accounts = record {
    opened = runs.setting;
    ended = ended.card;
    many_apps = sides;
    numbers = ended.numbers;
    one_setting = ended.one_setting;
    many_lines = many-lines plan.ports.items ends runs.many ∙ sym sides;
    app = λ a app line here at. app-accounts a app line here at;
    flow = λ number flow app line at here line_at. flow-accounts number flow.app app line here line_at;
    others = λ a number below none.
        let within : a < length plan.ports.items = omega (arith, below, sides) in
        let own = there ends a (omega (arith, within, runs.many)) in
        let app : AppSide = side_in apps a in
        let has = told a app (side-is a within) in
        no-flow-read (kept_at was a) (kept_at now a) (counts_at was a) (counts_at now a) (how_of plan)
        app own.0 (runs.app a own.0 own.1) has.whole number
        (ap (marks_of number) has.taken ∙ own-marks (flows_of (steered_in plan.ports.items runs.frames)) a (sent_to a nic) has.own number none);
    strays_are = runs.stands.knows.counted.strays;
  }
