-- The account of a run: what the roles of a board did, read off once the card has ended and all have left, says where each
-- byte of each stream came from. It is over the sides of the roles alone, so it is the same for every board.
use Rattle.std.specs.{Prelude.{◌≡◌, ℕ, ◌==◌, true, List, ◌++◌, length, map, filter, All, Option, Some, ◌≢◌, ◌<◌, ◌≤◌, option_and_then}, List.{slice_get}}
use Rattle.std.specs.Io.KnownBytes.{Keeps}
use Rattle.zr_kinds.specs.declared.{behaviour.{Behaviour.{Behaviour}, Stopped.{Stopped}}, outcome.AppLine.{AppLine}}
use Rattle.zr_kinds.specs.declared.behaviour.Stopped.TheVariants as stop
use Rattle.zr_io.specs.Moved.{Gained}
use Rattle.flow_table.specs.{Steered.{SteeredTcp}, Flows.{Flow, flows_of}, Stream.{stream_of}}
use Rattle.card_feed.specs.Ending.{steered_in}
use Rattle.board_face.specs.{Sides.{IsApp, AreNumbered, HaveOneSetting}, Holders.{sent_to}, Relay.{as_taken, IsAsSent, HasNoLoanStray}}
use Rattle.board_face.specs.declared.views.{nic.NicSide.{NicSide}, app.AppSide.{AppSide}}
use Rattle.page_pool.specs.{Frames.{Offered, ShowFrames}, Dealing.{strays_in}}
use Rattle.app_worker.specs.{Core.{total}, Marks.{marks_of}}
use Rattle.flow_queues.specs.{Totals.{lent_len}, Streams.{IsFront}, Returned.{HasReturned}}
use Rattle.card_feed.specs.{Offered.{offers_of, offers_without}, Feed.{FeedState, FeedStands, IsFeedReady}, declared.plan.Plan.{Plan}, Plan.{layout_of, how_of}}
pub use Rattle.card_feed.specs.Counts.{capped}

-- ---- the account

-- the frames that are offered to an application, but those that are left out
abbrev pub offered_to : ℕ → List ℕ → List SteeredTcp → List Offered
offered_to a left_out steered = filter (λ o. o.app == a) (offers_without left_out (offers_of steered))

-- what the shelf of an application keeps of a flow
abbrev pub kept_in : {T : Type 0} → (T → ℕ → Option (List ℕ)) → List T → ℕ → ℕ → Option (List ℕ)
kept_in kept shelves app flow = option_and_then (λ shelf. kept shelf flow) (slice_get shelves app)

-- The bytes of a flow are those at its marks, from the first on, and all of them where its application wasn't stopped.
pub record IsFlowRead (app : AppSide) (stopped : Stopped) (number : ℕ) (bytes : List ℕ) : Type 0 where
  pub front : IsFront app.view.taken app.view.reads (marks_of number app.view.taken) bytes
  pub whole : stopped ≡ stop.No → length bytes ≡ length (marks_of number app.view.taken)

-- One application: the notes that were sent to it show its frames and are those that it took; and its line says how many
-- loans it gave back or abandoned and how many spares it was given, and that it wrote all that these loans had where it wasn't
-- stopped, and no more where it was. Where it wasn't, it kept back as many loans as it was to, or all outside its reserve where
-- these are fewer; and so many strays followed each entry of a loan, but for those that may be left out (`HasReturned`).
pub record AppAccounts (how : Behaviour) (split : ℕ) (steered : List SteeredTcp) (left_out : List ℕ) (nic : NicSide) (a : ℕ) (app : AppSide)
    (line : AppLine) : Type 0 where
  pub has_left : app.view.left ≡ true
  pub notes : ShowFrames split (offered_to a left_out steered) (sent_to a nic)
  pub taken : app.view.taken ≡ map as_taken (sent_to a nic)
  pub loans : line.loans ≡ capped (length app.view.returned)
  pub copied : line.copied ≡ capped app.view.spares
  pub all_lent : line.stopped ≡ stop.No → line.written ≡ capped (total lent_len app.view.returned)
  pub within_lent : line.written ≤ total lent_len app.view.returned
  pub returned : HasReturned how line.stopped line.written app.view
  pub no_stray : HasNoLoanStray nic app

-- A board on which the card has ended and all have left accounts for a run: it was opened by the plan, each application
-- accounts for its frames, what the shelves gained is what was read there, and the strays are those that were judged.
pub record AccountsFor {T : Type 0} (kept : T → ℕ → Option (List ℕ)) (shelves shelves_now : List T) (plan : Plan) (frames : List (List ℕ))
    (left_out : List ℕ) (nic : NicSide) (apps : List AppSide) (lines : List AppLine) (strays : ℕ) : Type 0 where
  pub opened : nic.view.setting ≡ record { layout = layout_of plan; places = plan.options.ring }
  pub ended : nic.view.ended ≡ true
  pub many_apps : length apps ≡ length plan.ports.items
  pub numbers : AreNumbered 0 apps
  pub one_setting : HaveOneSetting nic apps
  pub many_lines : length lines ≡ length apps
  pub app : (a : ℕ) (app : AppSide) (line : AppLine) → IsApp apps a app → slice_get lines a ≡ Some line
      → AppAccounts (how_of plan) plan.options.split (steered_in plan.ports.items frames) left_out nic a app line
  pub flow : (number : ℕ) (flow : Flow) (app : AppSide) (line : AppLine) → slice_get (flows_of (steered_in plan.ports.items frames)) number ≡ Some flow
      → IsApp apps flow.app app → slice_get lines flow.app ≡ Some line
      → Gained (kept_in kept shelves flow.app number) (kept_in kept shelves_now flow.app number) (IsFlowRead app line.stopped number)
  -- no other flow of its shelf gained anything
  pub others : (a number : ℕ) → a < length apps
      → ((flow : Flow) → slice_get (flows_of (steered_in plan.ports.items frames)) number ≡ Some flow → flow.app ≢ a)
      → Keeps (kept_in kept shelves a number) (kept_in kept shelves_now a number)
  pub strays_are : strays ≡ capped (strays_in nic.view.dealt)

-- ---- what was sent, once the card is closed

-- The notes that were sent to each application show its frames, but those that were refused.
abbrev pub ClosedFeedsShow : {S : Type 0} → (S → Option (List ℕ)) → (S → ℕ) → Type 0
ClosedFeedsShow {S} left faults =
    (first source : S) (ports : List ℕ) (split : ℕ) (frames : List (List ℕ)) (feed : FeedState) (nic : NicSide)
    → FeedStands left faults first source ports split frames feed nic.view → IsFeedReady feed nic.view → feed.closed ≡ true
    → (a : ℕ) → ShowFrames split (offered_to a feed.refused (steered_in ports frames)) (sent_to a nic)

-- ---- the bridge

-- a front of the stream, and all of it where the application wasn't stopped
pub record IsStreamedTo (stopped : Stopped) (stream bytes : List ℕ) : Type 0 where
  pub rest : List ℕ
  pub front : stream ≡ bytes ++ rest
  pub whole : stopped ≡ stop.No → bytes ≡ stream

-- A board that accounts for a run, and on which what was read is what was sent, gives each flow a front of what the copying
-- receiver has of the flow's frames, but those that are left out; and all of it where its application wasn't stopped.
abbrev pub AccountsGiveStreams : {T : Type 0} → (T → ℕ → Option (List ℕ)) → Type 0
AccountsGiveStreams {T} kept =
    (shelves shelves_now : List T) (plan : Plan) (frames : List (List ℕ)) (left_out : List ℕ) (nic : NicSide) (apps : List AppSide) (lines : List AppLine)
    (strays : ℕ)
    → AccountsFor kept shelves shelves_now plan frames left_out nic apps lines strays
    → (number : ℕ) (flow : Flow) (app : AppSide) (line : AppLine) → slice_get (flows_of (steered_in plan.ports.items frames)) number ≡ Some flow
    → IsApp apps flow.app app → slice_get lines flow.app ≡ Some line → All (IsAsSent (sent_to flow.app nic)) app.view.reads
    → Gained (kept_in kept shelves flow.app number) (kept_in kept shelves_now flow.app number)
    (IsStreamedTo line.stopped (stream_of (steered_in plan.ports.items frames) left_out number))
