-- What the log of a board that is over tells of its run, and how the record goes out behind the report.
use Rattle.std.proofs.Common.{◌≡◌, ℕ, ◌+◌, ◌*◌, ◌-◌, ◌^◌, ◌<◌, ◌≤◌, nat_le, nat_lt, Bool, true, false, List, [], ◌∷◌, ◌++◌, length, take, drop, get_or}
use Rattle.std.proofs.Common.{Option, None, Some, Err, refl, sym, ap, subst, ◌∙◌, append_assoc, take-append-drop, arith, lt-ltb}
use Rattle.std.{specs.{Prelude.{◌==◌, All, sum_by, if◌then◌else◌}, List.{AllByRecursion, slice_get}}, proofs.lemmas.Bool.{leb-false, leb-true}}
use Rattle.std.{proofs.lemmas.List.{length-take-le, take_all, Sums.{count_by-le-length, sum_by-cons}}, specs.Io.KnownBytes.{Appends}}
use Rattle.zr_kinds.specs.{Setting.{most_events}, declared.{event.Event.{Event}, holding.Holding.{Holding}}, Holders.{all_after, no_holdings}}
use Rattle.zr_kinds.{specs.LegalRun.{HasSmallNumbers, IsLegalRun}, proofs.Weighing.{weight-length}}
use Rattle.zr_io.specs.Moved.{Gained}
use Rattle.zr_kinds.specs.declared.{behaviour.Behaviour.{Behaviour}, outcome.AppLine.{AppLine}}
use Rattle.area_layout.specs.Layout.{IsLayout, MakeLayout, shape_of_areas}
use Rattle.zr_kinds.specs.declared.event.Event.TheVariants as event
use Rattle.board_face.{specs.{Laws.{AllSides, pool_of}, Blank.{blank_app}, Sides.{IsApp}, declared.views.nic.NicSide.{NicSide}}, proofs.SideLemmas.{IsApp-at}}
use Rattle.board_face.specs.declared.views.{app.{AppSide.{AppSide}, LentPiece.{LentPiece}}, parts.Setting.{Setting as Shared}}
use Rattle.flow_queues.specs.{Core.{total}, Totals.{lent_len}}
use Rattle.flow_table.specs.Steered.{SteeredTcp}
use Rattle.plain_board.specs.{IsLogged.{IsLogged, setting_of_sides}, Logs.{KeptEvents, log_of}, Settings.{areas_of, setting_of_layout as run_setting}}
use Rattle.plain_board.specs.{Tallies.{IsTallied, bytes_lent_in, copies_in, is_copy_event, is_loan, is_stray_event, len_of_loan, loan_bytes, loans_in}, Plain.{weight}}
use Rattle.plain_board.proofs.Runs.{ended-law, no-holders}
use Rattle.plain_board.specs.{Board.{Board, sides_of, stand_of}, Finish.{IsBoardOver}, Recorded.{IsRecorded}, Sound.{IsPhased, IsSound}}
use Rattle.plain_board.proofs.Ending.{boards-end_well}
use Rattle.replay_turns.specs.Events.{log_room_of}
use Rattle.card_feed.specs.{Account.{AccountsFor, AppAccounts}, Counts.{capped}, Plan.{IsPlan}, declared.plan.Plan.{Plan}}
use Rattle.run_account.{specs.{Ran.{Ran, Told}, Views.{Ends, Streams}}, proofs.Places.{get-within}}
use Rattle.top_call.specs.{Report.{Reports}, declared.report.Unreported.{Unreported}}
use Rattle.top_call.specs.declared.report.Unreported.TheVariants as unreported
use Rattle.top_call.specs.{Records.{HasRecord, IsLineOfEvents, IsReportOf, TellsRun, setting_of_plan}, declared.card.Card.{Card}}

-- ---- the areas

-- an area that is there, as the layout lists it
there : (areas : List (ℕ × ℕ)) (k : ℕ) → ((k : ℕ) → k < length areas → 1 ≤ (get_or areas k (0, 0)).0) → k < length areas
    → nat_lt 0 (get_or areas k (0, 0)).0 ≡ true
there areas k each within = lt-ltb 0 _ (each k within)

areas-said : (areas : List (ℕ × ℕ)) (reserves : ℕ) → length areas ≤ 4 → ((k : ℕ) → k < length areas → 1 ≤ (get_or areas k (0, 0)).0)
    → areas_of (shape_of_areas areas reserves).areas ≡ areas
areas-said [] reserves few each = refl
areas-said (a ∷ []) reserves few each = rw (there (a ∷ []) 0 each (omega arith)) refl
areas-said (a ∷ b ∷ []) reserves few each =
    rw (there (a ∷ b ∷ []) 0 each (omega arith), there (a ∷ b ∷ []) 1 each (omega arith)) refl
areas-said (a ∷ b ∷ c ∷ []) reserves few each =
    rw (
      there (a ∷ b ∷ c ∷ []) 0 each (omega arith),
      there (a ∷ b ∷ c ∷ []) 1 each (omega arith),
      there (a ∷ b ∷ c ∷ []) 2 each (omega arith),
    ) refl
areas-said (a ∷ b ∷ c ∷ d ∷ []) reserves few each =
    rw (
      there (a ∷ b ∷ c ∷ d ∷ []) 0 each (omega arith),
      there (a ∷ b ∷ c ∷ d ∷ []) 1 each (omega arith),
      there (a ∷ b ∷ c ∷ d ∷ []) 2 each (omega arith),
      there (a ∷ b ∷ c ∷ d ∷ []) 3 each (omega arith),
    ) refl
areas-said (a ∷ b ∷ c ∷ d ∷ e ∷ more) reserves few each = absurd (omega (arith, few))

-- ---- the greatest number that a report can say

capped-small : (n : ℕ) → n ≤ 2 ^ 64 - 1 → capped n ≡ n
capped-small n small = omega arith

few-bytes : (a : ℕ) (e : Event) → HasSmallNumbers e → loan_bytes a e ≤ 2 ^ 32
few-bytes a (event.Lend app b o l p u) small = at (app == a)
  where
    at : (same : Bool) → (if same then l else 0) ≤ 2 ^ 32
    at true = omega (arith, small.1.1.1.0)
    at false = omega arith
few-bytes a (event.Own app b l p u) small = at (app == a)
  where
    at : (same : Bool) → (if same then l else 0) ≤ 2 ^ 32
    at true = omega (arith, small.1.1.0)
    at false = omega arith
few-bytes a (event.Take b p) small = omega arith
few-bytes a (event.Place b o l p) small = omega arith
few-bytes a (event.Sent app b o l) small = omega arith
few-bytes a (event.Held app b o l) small = omega arith
few-bytes a (event.Cut app b o l m p) small = omega arith
few-bytes a (event.Back app b o l u) small = omega arith
few-bytes a (event.Honour app b p u) small = omega arith
few-bytes a (event.Stray app) small = omega arith
few-bytes a (event.Free app b o l p) small = omega arith
few-bytes a (event.Spare app b p) small = omega arith
few-bytes a (event.Shut b p) small = omega arith
few-bytes a (event.Scrub app b p u) small = omega arith

bytes-small : (a : ℕ) (events : List Event) → AllByRecursion HasSmallNumbers events → bytes_lent_in a events ≤ 2 ^ 32 * length events
bytes-small a [] small = omega arith
bytes-small a (e ∷ events) small =
    omega (arith, sum_by-cons (loan_bytes a) e events, few-bytes a e small.0, bytes-small a events small.1)

-- ---- the lines of the report

total-sum : (loans : List LentPiece) → total lent_len loans ≡ sum_by len_of_loan loans
total-sum [] = refl
total-sum (loan ∷ loans) = ap (λ n. lent_len loan + n) (total-sum loans) ∙ sym (sum_by-cons len_of_loan loan loans)

line-told : (how : Behaviour) (split : ℕ) (steered : List SteeredTcp) (left_out : List ℕ) (nic : NicSide) (a : ℕ) (app : AppSide) (line : AppLine)
    (events : List Event) → AppAccounts how split steered left_out nic a app line → app.view.loans ≡ [] → app.view.owns ≡ []
    → IsTallied a app.view events → IsLineOfEvents capped a line events
line-told how split steered left_out nic a app line events accounts no_loans no_spares tallied =
    let no_loan : length app.view.loans ≡ 0 = ap length no_loans in
    let no_spare : length app.view.owns ≡ 0 = ap length no_spares in
    let no_byte : sum_by len_of_loan app.view.loans ≡ 0 = ap (sum_by len_of_loan) no_loans in
    let loans : loans_in a events ≡ length app.view.returned = omega (arith, tallied.loans, no_loan) in
    let copies : copies_in a events ≡ app.view.spares = omega (arith, tallied.copies, no_spare) in
    let bytes : bytes_lent_in a events ≡ total lent_len app.view.returned = omega (arith, tallied.bytes, no_byte, total-sum app.view.returned) in
    record {
      loans = accounts.loans ∙ ap capped (sym loans);
      copied = accounts.copied ∙ ap capped (sym copies);
      written = λ no. accounts.all_lent no ∙ ap capped (sym bytes);
      within = subst (λ n. line.written ≤ n) (sym bytes) accounts.within_lent;
    }

-- a report that says what few events tell says it exactly
exactly : (outcome : Told) (events : List Event) → AllByRecursion HasSmallNumbers events → length events ≤ most_events → IsReportOf capped outcome events
    → IsReportOf (λ n. n) outcome events
exactly outcome events small few told = record {
  apps = λ number line at.
      let of_line = told.apps number line at in
      record {
        loans = of_line.loans ∙ capped-small _ (omega (arith, count_by-le-length (is_loan number) events));
        copied = of_line.copied ∙ capped-small _ (omega (arith, count_by-le-length (is_copy_event number) events));
        written = λ no. of_line.written no ∙ capped-small _ (omega (arith, bytes-small number events small));
        within = of_line.within;
      };
  strays = told.strays ∙ capped-small _ (omega (arith, count_by-le-length is_stray_event events));
}

-- ---- the log of a board that is over

-- whose sides these are
module _ {T : Type 0} (kept : T → ℕ → Option (List ℕ)) (shelves shelves_now : List T) (plan : Plan) (outcome : Told) (before : List (List ℕ))
    (s : AllSides) (log : KeptEvents)
    (layout : MakeLayout plan.areas.items (length plan.ports.items))
    (accounts : AccountsFor kept shelves shelves_now plan before outcome.refused s.nic s.apps outcome.apps outcome.pool.strays)
    (logged : IsLogged s log) (room : log.room ≡ most_events)
    (is_layout : IsLayout s.nic.view.setting.layout) (over : (b : ℕ) → pool_of s b ≡ 0)
    (none_left : (a : ℕ) (app : AppSide) → IsApp s.apps a app → (app.view.loans ≡ []) × (app.view.owns ≡ [])) where
  length-none : (held : List Holding) → length held ≡ 0 → held ≡ []
  length-none [] none = refl
  length-none (x ∷ held) none = absurd (omega (arith, none))

  log-all : log ≡ log_of most_events logged.all
  log-all = subst (λ n. log ≡ log_of n logged.all) room logged.log_is

  is-setting : setting_of_sides s ≡ setting_of_plan plan
  is-setting =
      ap (λ (set : Shared). run_setting set.layout) accounts.opened
      ∙ ap (λ areas. record { areas = areas; apps = length plan.ports.items })
      (areas-said plan.areas.items (length plan.ports.items) layout.few.1 (λ k within. (layout.each k (0, 0) within).some.0))

  told-all : IsReportOf capped outcome logged.all
  told-all = record {
    apps = λ number line at.
        let app = app-of number line at in
        let none = none_left number app.0 app.1 in
        line-told _ _ _ _ _ number app.0 line logged.all (accounts.app number app.0 line app.1 at) none.0 none.1 (logged.tallied.apps number app.0 app.1);
    strays = accounts.strays_are ∙ ap capped (sym logged.tallied.strays);
  }
    where
      app-of : (number : ℕ) (line : AppLine) → slice_get outcome.apps number ≡ Some line → (app : AppSide) × IsApp s.apps number app
      app-of number line at =
          let within : number < length s.apps = omega (arith, get-within outcome.apps number line at, accounts.many_lines) in
          (get_or s.apps number blank_app, IsApp-at s.apps number blank_app accounts.numbers within)

  whole-all : log.whole ≡ true → (length logged.all ≤ most_events) × (log.events ≡ logged.all)
  whole-all whole =
      let few : length logged.all ≤ most_events = leb-true _ _ (sym (ap (λ (k : KeptEvents). k.whole) log-all) ∙ whole) in
      (few, ap (λ (k : KeptEvents). k.events) log-all ∙ take_all most_events logged.all few)

  pub tells-run : TellsRun plan outcome s log
  tells-run = record {
    all = logged.all;
    tallied = logged.tallied;
    holdings = logged.holdings;
    reached = subst (λ set. all_after set no_holdings logged.all ≡ Some logged.holdings) is-setting logged.reached;
    over = λ b. length-none (logged.holdings b)
        (sym (weight-length (logged.holdings b)) ∙ logged.same b (λ h. 1) ∙ ap (weight (λ h. 1)) (no-holders s b (over b)));
    log_is = log-all;
    legal = subst (λ set. IsLegalRun set log.events log.whole) is-setting (ended-law s log is_layout logged (λ whole b. over b));
    told = told-all;
    exact = λ whole.
        let are = whole-all whole in
        subst (IsReportOf (λ n. n) outcome) (sym are.1) (exactly outcome logged.all logged.small are.0 told-all);
    full = λ cut.
        let many : nat_le (length logged.all) most_events ≡ false = sym (ap (λ (k : KeptEvents). k.whole) log-all) ∙ cut in
        ap (λ (k : KeptEvents). length k.events) log-all ∙ length-take-le most_events logged.all
        (omega (arith, leb-false (length logged.all) most_events many));
  }

-- ---- the text behind the report

-- where the sink failed in the report
pub front-behind : (sent now : Option (List ℕ)) (text more : List ℕ)
    → Gained sent now (λ front. (rest : List ℕ) × (text ≡ front ++ rest))
    → Gained sent now (λ front. (rest : List ℕ) × (text ++ more ≡ front ++ rest))
front-behind None now text more gained = tt
front-behind (Some xs) None text more gained = absurd gained
front-behind (Some xs) (Some ys) text more (front, is, (rest, parts)) =
    (front, is, (rest ++ more, ap (λ l. l ++ more) parts ∙ append_assoc front rest more))

-- where it failed behind it
pub front-within : (sent between now : Option (List ℕ)) (text more : List ℕ) (n : ℕ) → Appends sent between text → Appends between now (take n more)
    → Gained sent now (λ front. (rest : List ℕ) × (text ++ more ≡ front ++ rest))
front-within None between now text more n first second = tt
front-within (Some xs) None now text more n first second = absurd first
front-within (Some xs) (Some ys) None text more n first second = absurd second
front-within (Some xs) (Some ys) (Some zs) text more n first second = (
  text ++ take n more,
  second ∙ ap (λ l. l ++ take n more) first ∙ append_assoc xs text (take n more),
  (drop n more, ap (λ l. text ++ l) (sym (take-append-drop n more)) ∙ sym (append_assoc text (take n more) (drop n more))),
)

-- what a lost report is with a text behind it
pub lost-behind : (sent now : Option (List ℕ)) (faults faults_now : ℕ) (text more : List ℕ) (error : Unreported)
    → Reports sent now faults faults_now text (Err error) → Reports sent now faults faults_now (text ++ more) (Err error)
lost-behind sent now faults faults_now text more unreported.Memory report = report
lost-behind sent now faults faults_now text more unreported.Write report = (front-behind sent now text more report.0, report.1)

-- ---- the board in the card

-- what holds of every application
of-app : (P : AppSide → Type 0) (apps : List AppSide) (a : ℕ) (app : AppSide) → IsApp apps a app → All P apps → P app
of-app P apps a app at all = subst P at.is (all a app at.there)

-- the record of a board that is over, where it is asked for
pub board-records : {S T : Type 0} {m : Streams S T} (was now : Ends m) (plan : Plan) (outcome : Told) (board : Board)
    → IsPlan plan → Ran was now plan outcome board.nic board.apps
    → IsSound (stand_of board) → IsRecorded (sides_of board) board.log → board.log.room ≡ log_room_of plan
    → HasRecord plan outcome (Card.Plain board)
board-records {m} was now plan outcome board is_plan ran sound recorded room asked =
    let roomy : board.log.room ≡ most_events = rw asked at room in
    let over : IsBoardOver (stand_of board) = record { card = ran.over.card; apps = ran.over.left } in
    let none = (boards-end_well (stand_of board) sound over).counts in
    let layout : IsLayout board.nic.view.setting.layout = subst (λ (set : Shared). IsLayout set.layout) (sym sound.set.card) sound.sizes.layout in
    tells-run m.shelf.kept was.shelves now.shelves plan outcome ran.before (sides_of board) board.log is_plan.layout ran.accounts recorded.logged
    roomy layout none.holders
    (λ a app at.
    let gone = (of-app (IsPhased board.nic) board.apps a app at sound.phased.sides).left (of-app (λ app. app.view.left ≡ true) board.apps a app at ran.over.left) in
    (gone.loans, gone.spares))
