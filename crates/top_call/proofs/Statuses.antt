-- What the status of a replay says of how it went.
use Rattle.std.proofs.Common.{◌≡◌, ◌≢◌, nat_eq, ℕ, suc, List, [], ◌∷◌, ◌++◌, take, drop, length, ◌<◌, Bool, true, false, ◌||◌, Option, None, Some}
use Rattle.std.proofs.{Common.{refl, sym, ap, subst, ◌∙◌, ◌⊎◌, ⊎_elim, inl, inr, arith, get_or, ◌≤◌, option_map}, lemmas.List.Folds.{list_any_at}}
use Rattle.std.{proofs.lemmas.Option.{get_or_from_slice_get}, specs.{Prelude.{IfSome, OnOk, Result, Ok, Err, ◌==◌, if◌then◌else◌, is_some}, List.{slice_get}}}
use Rattle.std.proofs.{Math.Seq.{take-append_seam}, lemmas.Bool.{cases_Bool, cases_eq, cases_lt, or_cases, Decides.{nat_tests}}}
use Rattle.zr_kinds.specs.declared.fault.Fault.{Fault, TheVariants.{Memory, Usage, NotPcap, Version, LinkType, Cut, LongRecord, Read, Write, TooManyFlows}}
use Rattle.zr_kinds.specs.declared.{fault.Fault.TheVariants.{TooManyFrames, BadBlock, BadRun}, behaviour.Stopped.{Stopped}, outcome.AppLine.{AppLine}}
use Rattle.zr_kinds.specs.declared.behaviour.Stopped.TheVariants as stop
use Rattle.zr_io.{specs.Moved.{Rose, Took}, proofs.Moved.{Rose-earlier, Took-then, Took-weaker}}
use Rattle.card_feed.{specs.{Ending.{Ending, ended_of, steered_in}, FramesRead.{ShowsEnding, BreaksOff, TakenEnds, IsEnding, IsReadToEnd}}, proofs.Endings.{some-weaker}}
use Rattle.board_face.specs.declared.views.{nic.NicSide.{NicSide}, app.AppSide.{AppSide}}
use Rattle.card_feed.{specs.{Need.{buffers_of, need_in}, Offered.{offers_of, WantsRoom}, declared.plan.Plan.{Plan}, Plan.{how_of}}, proofs.OfFlow.{there}}
use Rattle.run_account.{specs.{Ran.{HasReadOn, HaveWholeStreams, IsAppLine, Ran, Told}, Views.{Ends, Streams, counts_at, ends_at, failed_at, left_at, losses_in, losses_or}}, proofs.WholeStreams.{whole-streams}}
use Rattle.run_account.proofs.{AppLines.{found-there, one-value}, Places.{get-within}}
use Rattle.zr_kinds.specs.Options.{BehavesPlainly, plain_behaviour}
use Rattle.command_words.specs.Words.{ReplayShown}
use Rattle.top_call.specs.Worlds.{Seen, World, left_in, sink_in, sunk}
use Rattle.top_call.{specs.{Planned.{IsPlanOf}, Records.{HasRecord, record_in}, declared.card.Card.{Card}}, proofs.{Behind.{ended_of-behind}, Found.{get-same_rest}}}
use Rattle.top_call.{specs.Flushing.{Flushes, HasLost}, proofs.ToldLines.{record-told, rose-or-same, told-appended, told-flow, told-others, told-streams}}
use Rattle.top_call.specs.Status.{is_memory, is_write, any_stopped, end_number, status_from, status_of}
use Rattle.top_call.specs.StreamTheorem.{Finishes, asked_by, IsStatusOf, IsStatus, IsBrokenOff, RanWith, Replays}
use Rattle.top_call.specs.{Report.{Reports, answer_of}, declared.report.Unreported.{Unreported}}
use Rattle.top_call.specs.declared.report.Unreported.TheVariants as unreported

-- ---- the ways in which a reading ends

ending_cases : (P : Option Fault → Type 0) → P None → P (Some Memory) → P (Some NotPcap) → P (Some Version) → P (Some LinkType) → P (Some Cut)
    → P (Some LongRecord) → P (Some Read) → P (Some TooManyFlows) → P (Some TooManyFrames) → P (Some BadBlock)
    → (end : Option Fault) → IsEnding end → P end
ending_cases P none memory not_pcap version link_type cut long_record read flows frames bad_block None is = none
ending_cases P none memory not_pcap version link_type cut long_record read flows frames bad_block (Some Memory) is = memory
ending_cases P none memory not_pcap version link_type cut long_record read flows frames bad_block (Some NotPcap) is = not_pcap
ending_cases P none memory not_pcap version link_type cut long_record read flows frames bad_block (Some Version) is = version
ending_cases P none memory not_pcap version link_type cut long_record read flows frames bad_block (Some LinkType) is = link_type
ending_cases P none memory not_pcap version link_type cut long_record read flows frames bad_block (Some Cut) is = cut
ending_cases P none memory not_pcap version link_type cut long_record read flows frames bad_block (Some LongRecord) is = long_record
ending_cases P none memory not_pcap version link_type cut long_record read flows frames bad_block (Some Read) is = read
ending_cases P none memory not_pcap version link_type cut long_record read flows frames bad_block (Some TooManyFlows) is = flows
ending_cases P none memory not_pcap version link_type cut long_record read flows frames bad_block (Some TooManyFrames) is = frames
ending_cases P none memory not_pcap version link_type cut long_record read flows frames bad_block (Some Usage) is = absurd is
ending_cases P none memory not_pcap version link_type cut long_record read flows frames bad_block (Some Write) is = absurd is
ending_cases P none memory not_pcap version link_type cut long_record read flows frames bad_block (Some BadBlock) is = bad_block
ending_cases P none memory not_pcap version link_type cut long_record read flows frames bad_block (Some BadRun) is = absurd is

-- and what stopped applications
all_cases : (P : Bool → Bool → Option Fault → Type 0) → ((lost : Bool) (end : Option Fault) → IsEnding end → P true lost end)
    → ((end : Option Fault) → IsEnding end → P false true end) → ((end : Option Fault) → IsEnding end → P false false end)
    → (wanting lost : Bool) (end : Option Fault) → IsEnding end → P wanting lost end
all_cases P if_wanting if_lost else_ true lost end is = if_wanting lost end is
all_cases P if_wanting if_lost else_ false true end is = if_lost end is
all_cases P if_wanting if_lost else_ false false end is = else_ end is

-- by the status itself
Says : Bool → Bool → Option Fault → Type 0
Says wanting lost end = (status_from wanting lost end ≡ 1)
    ⊎ (((status_from wanting lost end ≡ 9) × (lost ≡ true)) ⊎ (status_from wanting lost end ≡ end_number end))

says : (wanting lost : Bool) (end : Option Fault) → IsEnding end → Says wanting lost end
unfolding Says
says = all_cases Says (λ lost end is. inl refl)
    (ending_cases (Says false true) (inr (inl (refl, refl))) (inl refl) (inr (inl (refl, refl))) (inr (inl (refl, refl))) (inr (inl (refl, refl)))
    (inr (inl (refl, refl))) (inr (inl (refl, refl))) (inr (inl (refl, refl))) (inr (inl (refl, refl))) (inr (inl (refl, refl)))
    (inr (inl (refl, refl))))
    (ending_cases (Says false false) (inr (inr refl)) (inl refl) (inr (inr refl)) (inr (inr refl)) (inr (inr refl)) (inr (inr refl)) (inr (inr refl))
    (inr (inr refl)) (inr (inr refl)) (inr (inr refl)) (inr (inr refl)))

-- each way of ending by its number
IsNumbered : Option Fault → Type 0
IsNumbered end = (end_number end ≢ 9) × (end_number end ≡ 8 → end ≡ Some Read) × (end_number end ≡ 0 → end ≡ None)

numbered : (end : Option Fault) → IsEnding end → IsNumbered end
unfolding IsNumbered
numbered = ending_cases IsNumbered
    ((λ e. omega arith), (λ e. absurd (omega arith)), (λ e. refl))
    ((λ e. omega arith), (λ e. absurd (omega arith)), (λ e. absurd (omega arith)))
    ((λ e. omega arith), (λ e. absurd (omega arith)), (λ e. absurd (omega arith)))
    ((λ e. omega arith), (λ e. absurd (omega arith)), (λ e. absurd (omega arith)))
    ((λ e. omega arith), (λ e. absurd (omega arith)), (λ e. absurd (omega arith)))
    ((λ e. omega arith), (λ e. absurd (omega arith)), (λ e. absurd (omega arith)))
    ((λ e. omega arith), (λ e. absurd (omega arith)), (λ e. absurd (omega arith)))
    ((λ e. omega arith), (λ e. refl), (λ e. absurd (omega arith)))
    ((λ e. omega arith), (λ e. absurd (omega arith)), (λ e. absurd (omega arith)))
    ((λ e. omega arith), (λ e. absurd (omega arith)), (λ e. absurd (omega arith)))
    ((λ e. omega arith), (λ e. absurd (omega arith)), (λ e. absurd (omega arith)))

-- ---- what the bytes show

-- what ended the reading, where the bytes show it
shown-number : (end : Option Fault) → IsEnding end → (ended : Ending) (before : List (List ℕ)) → ShowsEnding ended before end
    → (end_number end ≡ end_number ended.fault) ⊎ ((end_number end ≡ 1) ⊎ (end_number end ≡ 8))
shown-number = ending_cases (λ end. (ended : Ending) (before : List (List ℕ)) → ShowsEnding ended before end
    → (end_number end ≡ end_number ended.fault) ⊎ ((end_number end ≡ 1) ⊎ (end_number end ≡ 8)))
    (λ ended before shows. inl (ap (λ e. end_number e.fault) (sym shows))) (λ ended before shows. inr (inl refl))
    (λ ended before shows. inl (ap (λ e. end_number e.fault) (sym shows))) (λ ended before shows. inl (ap (λ e. end_number e.fault) (sym shows)))
    (λ ended before shows. inl (ap (λ e. end_number e.fault) (sym shows))) (λ ended before shows. inl (ap (λ e. end_number e.fault) (sym shows)))
    (λ ended before shows. inl (ap (λ e. end_number e.fault) (sym shows))) (λ ended before shows. inr (inr refl))
    (λ ended before shows. inl (ap (λ e. end_number e.fault) (sym shows))) (λ ended before shows. inl (ap (λ e. end_number e.fault) (sym shows)))
    (λ ended before shows. inl (ap (λ e. end_number e.fault) (sym shows)))

-- what was taken ends as all bytes do, unless memory ran out or a read failed
same-ending : (Wants : List (List ℕ) → List ℕ → Type 0) (end : Option Fault) → IsEnding end
    → ((ports taken : List ℕ) (all : Ending) (before : List (List ℕ)) → TakenEnds Wants ports taken before end → ShowsEnding all before end
    → ended_of ports taken ≡ all)
    ⊎ ((end ≡ Some Memory) ⊎ (end ≡ Some Read))
same-ending Wants = ending_cases (λ end. ((ports taken : List ℕ) (all : Ending) (before : List (List ℕ)) → TakenEnds Wants ports taken before end
    → ShowsEnding all before end → ended_of ports taken ≡ all) ⊎ ((end ≡ Some Memory) ⊎ (end ≡ Some Read)))
    (inl (λ ports taken all before ends shows. ends ∙ sym shows)) (inr (inl refl)) (inl (λ ports taken all before ends shows. ends ∙ sym shows))
    (inl (λ ports taken all before ends shows. ends ∙ sym shows)) (inl (λ ports taken all before ends shows. ends ∙ sym shows))
    (inl (λ ports taken all before ends shows. ends ∙ sym shows)) (inl (λ ports taken all before ends shows. ends ∙ sym shows)) (inr (inr refl))
    (inl (λ ports taken all before ends shows. ends ∙ sym shows)) (inl (λ ports taken all before ends shows. ends ∙ sym shows))
    (inl (λ ports taken all before ends shows. ends ∙ sym shows))

-- by which endings something may have been read on behind them
pub record IsApart (end : Option Fault) : Type 0 where
  pub memory : end ≢ Some Memory
  pub flows : end ≢ Some TooManyFlows

apart : (end : Option Fault) → IsEnding end → IsApart end ⊎ ((end ≡ Some Memory) ⊎ (end ≡ Some TooManyFlows))
apart = ending_cases (λ end. IsApart end ⊎ ((end ≡ Some Memory) ⊎ (end ≡ Some TooManyFlows)))
    (inl (record { memory = λ e. cc; flows = λ e. cc })) (inr (inl refl)) (inl (record { memory = λ e. cc; flows = λ e. cc }))
    (inl (record { memory = λ e. cc; flows = λ e. cc })) (inl (record { memory = λ e. cc; flows = λ e. cc }))
    (inl (record { memory = λ e. cc; flows = λ e. cc })) (inl (record { memory = λ e. cc; flows = λ e. cc }))
    (inl (record { memory = λ e. cc; flows = λ e. cc })) (inr (inr refl)) (inl (record { memory = λ e. cc; flows = λ e. cc }))
    (inl (record { memory = λ e. cc; flows = λ e. cc }))

broken_off : (ended : Ending) (before : List (List ℕ)) → BreaksOff ended before → IsBrokenOff ended.fault
broken_off ended before broke = ⊎_elim (λ none. inl (ap (λ e. e.fault) none)) (λ cut. inr (ap (λ e. e.fault) cut)) broke

-- ---- a shelf that failed

is_it : (stopped : Stopped) → is_write stopped ≡ true → stopped ≡ stop.Write
is_it stop.Write is = refl
is_it stop.No is = cc
is_it stop.Quit is = cc
is_it stop.Memory is = cc

record Stands (apps : List AppLine) : Type 0 where
  number : ℕ
  app : AppLine
  at : slice_get apps number ≡ Some app
  why : app.stopped ≡ stop.Write

any-write : (apps : List AppLine) → any_stopped is_write apps ≡ true → Stands apps
any-write [] is = absurd (cc)
any-write (app ∷ apps) is = by_first (is_write app.stopped) refl is (λ others. any-write apps others)
  where
    by_first : (b : Bool) → is_write app.stopped ≡ b → (b || any_stopped is_write apps) ≡ true → (any_stopped is_write apps ≡ true → Stands apps)
        → Stands (app ∷ apps)
    by_first true first all others = record { number = 0; app = app; at = refl; why = is_it app.stopped first }
    by_first false first all others = let rest = others all in record { number = suc rest.number; app = rest.app; at = rest.at; why = rest.why }

stopped-any : (test : Stopped → Bool) (apps : List AppLine) (number : ℕ) (app : AppLine) → slice_get apps number ≡ Some app
    → test app.stopped ≡ true → any_stopped test apps ≡ true
stopped-any test apps number app is holds =
    let at : get_or apps number app ≡ app = get_or_from_slice_get apps number app app is in
    list_any_at (λ (a : AppLine). test a.stopped) apps number app (get-within apps number app is)
    (ap (λ (a : AppLine). test a.stopped) at ∙ holds)

rose-later : (a b c : ℕ) → Rose a b → b ≤ c → Rose a c
rose-later a b c rose later = omega arith

or-true : (b : Bool) → (b || true) ≡ true
or-true true = refl
or-true false = refl

-- where a shelf failed
lost-status : (wanting : Bool) (end : Option Fault) → (status_from wanting true end ≡ 1) ⊎ (status_from wanting true end ≡ 9)
lost-status true end = inl refl
lost-status false None = inr refl
lost-status false (Some Memory) = inl refl
lost-status false (Some fault) = inr refl

-- ---- from the status to the answer

unequal : (a b : ℕ) → a ≢ b → nat_eq a b ≡ false
unequal a b ne = grind (arith, nat_tests)

-- the answer is the status, or memory ran out, or the sink failed
pub record IsAnswer (said answer refusals refusals_now : ℕ) : Type 0 where
  pub cases : (answer ≡ said) ⊎ ((answer ≡ 1) ⊎ ((answer ≡ 9) × Rose refusals refusals_now × (said ≢ 1)))

chosen : (said answer : ℕ) → answer ≡ (if said == 1 then 1 else 9) → (answer ≡ 1) ⊎ ((answer ≡ 9) × (said ≢ 1))
chosen said answer is = ⊎_elim (λ (one : said ≡ 1). inl (is ∙ rw one refl)) (λ (other : said ≢ 1). inr (is ∙ rw (unequal said 1 other) refl, other))
    (cases_eq said 1)

is_answer : (sent now : Option (List ℕ)) (refusals refusals_now said answer : ℕ) (text : List ℕ) (reported : Result (Unit {0}) Unreported)
    → Reports sent now refusals refusals_now text reported → answer ≡ answer_of said reported → IsAnswer said answer refusals refusals_now
is_answer sent now refusals refusals_now said answer text (Ok done) report is = record { cases = inl is }
is_answer sent now refusals refusals_now said answer text (Err unreported.Memory) report is = record { cases = inr (inl is) }
is_answer sent now refusals refusals_now said answer text (Err unreported.Write) report is = record {
  cases = ⊎_elim (λ one. inr (inl one)) (λ nine. inr (inr (nine.0, report.1, nine.1))) (chosen said answer is);
}

-- the answer by its causes
pub record HasCauses (lost : Bool) (end : Option Fault) (answer refusals refusals_now : ℕ) : Type 0 where
  pub cases : (answer ≡ 1) ⊎ (((answer ≡ 9) × ((lost ≡ true) ⊎ Rose refusals refusals_now)) ⊎ (answer ≡ end_number end))

memory-status : (wanting lost : Bool) → status_from wanting lost (Some Memory) ≡ 1
memory-status true lost = refl
memory-status false lost = refl

module _ (wanting lost : Bool) (end : Option Fault) {answer refusals refusals_now : ℕ}
    (is : IsAnswer (status_from wanting lost end) answer refusals refusals_now) (kind : IsEnding end) where
  has_causes : HasCauses lost end answer refusals refusals_now
  unfolding Says
  has_causes = record {
    cases = ⊎_elim
        (λ (same : answer ≡ status_from wanting lost end). ⊎_elim (λ one. inl (same ∙ one))
        (λ others. ⊎_elim (λ (nine, shelf). inr (inl (same ∙ nine, inl shelf))) (λ number. inr (inr (same ∙ number))) others)
        (says wanting lost end kind))
        (λ others. ⊎_elim (λ one. inl one) (λ (nine, rose, other). inr (inl (nine, inr rose))) others) is.cases;
  }

  -- the reading ended by want of memory
  at-memory : end ≡ Some Memory → answer ≡ 1
  at-memory memory =
      let said : status_from wanting lost end ≡ 1 = ap (status_from wanting lost) memory ∙ memory-status wanting lost in
      ⊎_elim (λ same. same ∙ said) (λ others. ⊎_elim (λ one. one) (λ (nine, rose, other). absurd (other said)) others) is.cases

-- ---- the parts of what a replay leaves

module _ {S T : Type 0} {m : Streams S T} {first : Ends m} (last : Ends m) {at : S} {shelves_run : List T} {plan : Plan} {outcome : Told}
    {lines : List AppLine} {flush_failed : Bool} {nic : NicSide} {apps : List AppSide} {answer refusals refusals_now : ℕ}
    (replayed : Ran first (ends_at m at shelves_run) plan outcome nic apps) (ahead : HasReadOn m.source at last.source outcome.end)
    (flushes : Flushes m.shelf (length plan.ports.items) shelves_run last.shelves outcome.apps lines flush_failed)
    (is : IsAnswer (status_of (record outcome { apps = lines }) flush_failed) answer refusals refusals_now) where
  abbrev pub wanting : Bool
  wanting = any_stopped is_memory lines

  abbrev pub lost : Bool
  lost = any_stopped is_write lines || flush_failed

  causes : HasCauses lost outcome.end answer refusals refusals_now
  causes = has_causes wanting lost outcome.end is replayed.ended.kind

  kind-of : IsStatus answer
  kind-of = ⊎_elim (λ one. inr (Some Memory, tt, one))
      (λ others. ⊎_elim (λ (nine, why). inl nine) (λ number. inr (outcome.end, replayed.ended.kind, number)) others) causes.cases

  ending-of : (all : List ℕ) → ShowsEnding (ended_of plan.ports.items all) replayed.before outcome.end → IsStatusOf answer
      (ended_of plan.ports.items all).fault
  ending-of all shows = ⊎_elim (λ one. inr (inl one)) (λ others. ⊎_elim (λ (nine, why). inr (inr (inr nine)))
      (λ number. ⊎_elim (λ same. inl (number ∙ same)) (λ hidden. ⊎_elim (λ one. inr (inl (number ∙ one)))
      (λ eight. inr (inr (inl (number ∙ eight)))) hidden)
      (shown-number outcome.end replayed.ended.kind (ended_of plan.ports.items all) replayed.before shows)) others) causes.cases

  -- what was taken until the ending, and what was taken until now
  ends-at : IfSome (left_at first) (λ all. Took (left_at first) (m.source.left at) (λ taken. ended_of plan.ports.items taken ≡ ended_of plan.ports.items all))
      ⊎ ((outcome.end ≡ Some Memory) ⊎ (outcome.end ≡ Some Read))
  ends-at = ⊎_elim
      (λ same. inl (some-weaker (left_at first) _ _ replayed.ended.shown (λ all shows.
      Took-weaker (left_at first) (m.source.left at)
      (λ taken. TakenEnds (WantsRoom plan.options.split plan.ports.items) plan.ports.items taken replayed.before outcome.end)
      (λ taken. ended_of plan.ports.items taken ≡ ended_of plan.ports.items all)
      (λ taken ends. same plan.ports.items taken (ended_of plan.ports.items all) replayed.before ends shows) replayed.ended.taken)))
      (λ hidden. inr hidden)
      (same-ending (WantsRoom plan.options.split plan.ports.items) outcome.end replayed.ended.kind)

  still-at : IsApart outcome.end → at ≡ last.source
  still-at none = ahead.same none.memory none.flows

  -- what was read on behind a flow too many changes nothing of how the reading ended
  ends-now : outcome.end ≡ Some TooManyFlows
      → IfSome (left_at first) (λ all. Took (left_at first) (left_at last) (λ taken. ended_of plan.ports.items taken ≡ ended_of plan.ports.items all))
  ends-now flows =
      let wants = WantsRoom plan.options.split plan.ports.items in
      let ended : Ending = record { before = replayed.before; fault = Some TooManyFlows } in
      some-weaker (left_at first) _ _ replayed.ended.shown (λ all shows.
      let all_ends : ended_of plan.ports.items all ≡ ended =
      subst (λ e. ShowsEnding (ended_of plan.ports.items all) replayed.before e) flows shows in
      Took-then (left_at first) (m.source.left at) (left_at last)
      (λ taken. TakenEnds wants plan.ports.items taken replayed.before outcome.end) (λ more. Unit {0})
      (λ taken. ended_of plan.ports.items taken ≡ ended_of plan.ports.items all)
      (λ taken more ends any. ended_of-behind plan.ports.items taken more ended refl
      (subst (λ e. TakenEnds wants plan.ports.items taken replayed.before e) flows ends) ∙ sym all_ends)
      replayed.ended.taken ahead.taken)

  reached-of : IfSome (left_at first) (λ all. Took (left_at first) (left_at last) (λ taken. ended_of plan.ports.items taken ≡ ended_of plan.ports.items all))
      ⊎ ((answer ≡ 1) ⊎ (((answer ≡ 8) ⊎ (answer ≡ 9)) × Rose (failed_at first) (failed_at last)))
  reached-of = ⊎_elim
      (λ (none : IsApart outcome.end). ⊎_elim
      (λ ends. inl (subst (λ s. IfSome (left_at first) (λ all. Took (left_at first) (m.source.left s) (λ taken.
      ended_of plan.ports.items taken ≡ ended_of plan.ports.items all))) (still-at none) ends))
      (λ hidden. inr (⊎_elim (λ memory. absurd (none.memory memory))
      (λ failed_read. ⊎_elim (λ one. inl one) (λ others. inr (
        ⊎_elim (λ (nine, why). inr nine) (λ number. inl (number ∙ ap end_number failed_read)) others,
        subst (λ s. Rose (failed_at first) (m.source.failed s)) (still-at none) (replayed.ended.cause failed_read),
      )) causes.cases) hidden)) ends-at)
      (λ others. ⊎_elim
      (λ memory. inr (inl (at-memory wanting lost outcome.end is replayed.ended.kind memory)))
      (λ flows. inl (ends-now flows)) others)
      (apart outcome.end replayed.ended.kind)

  whole-of : answer ≡ 0 → IsReadToEnd (left_at first) (left_at last)
  unfolding IsNumbered
  whole-of zero = ⊎_elim (λ one. absurd (omega arith)) (λ others. ⊎_elim (λ (nine, why). absurd (omega arith))
      (λ number.
      let at_end : outcome.end ≡ None = (numbered outcome.end replayed.ended.kind).2 (sym number ∙ zero) in
      subst (λ s. IsReadToEnd (left_at first) (m.source.left s)) (ahead.same (λ e. cc) (λ e. cc)) (replayed.ended.at_end at_end)) others) causes.cases

  read-of : answer ≡ 8 → Rose (failed_at first) (failed_at last)
      × Took (left_at first) (left_at last) (λ taken. IsBrokenOff (ended_of plan.ports.items taken).fault)
  unfolding IsNumbered
  read-of eight = ⊎_elim (λ one. absurd (omega arith)) (λ others. ⊎_elim (λ (nine, why). absurd (omega arith))
      (λ number.
      let by_read : outcome.end ≡ Some Read = (numbered outcome.end replayed.ended.kind).1 (sym number ∙ eight) in
      subst (λ s. Rose (failed_at first) (m.source.failed s) × Took (left_at first) (m.source.left s) (λ taken. IsBrokenOff (ended_of plan.ports.items taken).fault))
      (ahead.same (λ e. cc) (λ e. cc)) (
        replayed.ended.cause by_read,
        Took-weaker (left_at first) (m.source.left at)
            (λ taken. TakenEnds (WantsRoom plan.options.split plan.ports.items) plan.ports.items taken replayed.before outcome.end)
            (λ taken. IsBrokenOff (ended_of plan.ports.items taken).fault)
            (λ taken ends. broken_off (ended_of plan.ports.items taken) replayed.before
            (subst (λ e. TakenEnds (WantsRoom plan.options.split plan.ports.items) plan.ports.items taken replayed.before e) by_read ends)) replayed.ended.taken,
      )) others) causes.cases

  -- the line of an application as the run left it
  IsRunLine : ℕ → AppLine → Type 0
  IsRunLine number line = (port : ℕ)
      × IsAppLine (how_of plan) port (counts_at first number) (losses_in m.shelf.counts shelves_run number) outcome.flows line

  run-line : (number : ℕ) → number < length plan.ports.items
      → (line : AppLine) × (slice_get outcome.apps number ≡ Some line) × IsRunLine number line
  unfolding IsRunLine
  run-line number own =
      let (port, port_is) = there plan.ports.items number own in
      let (line, line_at, is_line) = found-there (slice_get outcome.apps number) _ (replayed.app number port port_is) in
      (line, line_at, (port, is_line))

  later-run : (number : ℕ) → number < length plan.ports.items → (counts_at first number).faults ≤ (losses_in m.shelf.counts shelves_run number).faults
  unfolding IsRunLine
  later-run number own = (run-line number own).2.1.later

  -- where a line that is told says `write`, a call of its shelf failed in the run, or its flush
  written-lost : (number : ℕ) (app : AppLine) → number < length plan.ports.items → slice_get lines number ≡ Some app → app.stopped ≡ stop.Write
      → Rose (counts_at first number).faults (counts_at last number).faults
  unfolding IsRunLine
  written-lost number app own at write =
      let before = (counts_at first number).faults in
      let run = (losses_in m.shelf.counts shelves_run number).faults in
      let now = (counts_at last number).faults in
      let (was, was_at, is_line) = run-line number own in
      let (fails, told, told_at, flushed) = flushes.line number was own was_at in
      let same : told ≡ app = one-value (sym told_at ∙ at) in
      ⊎_elim (λ rose. Rose-earlier before run now (later-run number own) rose)
      (λ (kept : told ≡ was).
      let rose : Rose before run = is_line.1.cause (ap (λ (l : AppLine). l.stopped) (sym kept ∙ same) ∙ write) in
      rose-later before run now rose (flushes.later number))
      (rose-or-same run now was told fails flushed)

  shelf-failed : lost ≡ true → HasLost m.shelf first.shelves last.shelves (length plan.ports.items)
  shelf-failed some = ⊎_elim
      (λ (write : any_stopped is_write lines ≡ true).
      let stands : Stands lines = any-write lines write in
      let own : stands.number < length plan.ports.items =
      omega (arith, get-within lines stands.number stands.app stands.at, flushes.many_lines, replayed.many_apps) in
      (stands.number, own, written-lost stands.number stands.app own stands.at stands.why))
      (λ flush.
      let (app, own, rose) = flushes.failed_at flush in (
        app,
        own,
        Rose-earlier (counts_at first app).faults (losses_in m.shelf.counts shelves_run app).faults (counts_at last app).faults
            (later-run app own) rose,
      ))
      (or_cases (any_stopped is_write lines) flush_failed some)

  lost-of : answer ≡ 9 → HasLost m.shelf first.shelves last.shelves (length plan.ports.items) ⊎ Rose refusals refusals_now
  unfolding IsNumbered
  lost-of nine = ⊎_elim (λ one. absurd (omega arith)) (λ others. ⊎_elim
      (λ (at_nine, why). ⊎_elim (λ shelf. inl (shelf-failed shelf)) (λ sink. inr sink) why)
      (λ number. absurd ((numbered outcome.end replayed.ended.kind).0 (sym number ∙ nine))) others) causes.cases

  -- ---- what an answer shows by none of its faults

  settled-of : answer ≢ 1 → answer ≢ 9 → answer ≢ 10 → at ≡ last.source
  settled-of not_1 not_9 not_10 = ahead.same
      (λ memory. not_1 (at-memory wanting lost outcome.end is replayed.ended.kind memory))
      (λ flows. ⊎_elim not_1 (λ others. ⊎_elim (λ (nine, why). not_9 nine) (λ number. not_10 (number ∙ ap end_number flows)) others) causes.cases)

  read_well : answer ≢ 1 → answer ≢ 8 → answer ≢ 9 → m.source.failed at ≡ failed_at first
  read_well not_1 not_8 not_9 = replayed.ended.still (λ by_read. ⊎_elim (λ one. not_1 one) (λ others. ⊎_elim (λ (nine, why). not_9 nine)
      (λ number. not_8 (number ∙ ap end_number by_read)) others) causes.cases)

  -- ---- what stopped applications

  wanting-of : (number : ℕ) (app : AppLine) → slice_get lines number ≡ Some app → app.stopped ≡ stop.Memory → answer ≡ 1
  wanting-of number app at memory =
      let some : wanting ≡ true = stopped-any is_memory lines number app at (ap is_memory memory) in
      let said : status_from wanting lost outcome.end ≡ 1 = ap (λ w. status_from w lost outcome.end) some in
      ⊎_elim (λ same. same ∙ said) (λ others. ⊎_elim (λ one. one) (λ (nine, rose, other). absurd (other said)) others) is.cases

  -- the answer where a shelf failed
  lost-answer : lost ≡ true → (answer ≡ 1) ⊎ (answer ≡ 9)
  lost-answer some =
      let said : (status_from wanting lost outcome.end ≡ 1) ⊎ (status_from wanting lost outcome.end ≡ 9) =
      subst (λ l. (status_from wanting l outcome.end ≡ 1) ⊎ (status_from wanting l outcome.end ≡ 9)) (sym some) (lost-status wanting outcome.end) in
      ⊎_elim (λ same. ⊎_elim (λ one. inl (same ∙ one)) (λ nine. inr (same ∙ nine)) said)
      (λ others. ⊎_elim (λ one. inl one) (λ (nine, rose, other). inr nine) others) is.cases

  failing-of : (number : ℕ) (app : AppLine) → slice_get lines number ≡ Some app → app.stopped ≡ stop.Write
      → (answer ≡ 1) ⊎ (answer ≡ 9)
  failing-of number app at write =
      lost-answer (ap (λ b. b || flush_failed) (stopped-any is_write lines number app at (ap is_write write)))

  unflushed-of : flush_failed ≡ true → (answer ≡ 1) ⊎ (answer ≡ 9)
  unflushed-of failed_one = lost-answer (ap (λ b. any_stopped is_write lines || b) failed_one ∙ or-true (any_stopped is_write lines))

  -- where the answer is neither, all flushes went well
  all-flushed : answer ≢ 1 → answer ≢ 9 → flush_failed ≡ false
  all-flushed not_1 not_9 = ⊎_elim (λ failed_one. absurd (⊎_elim not_1 not_9 (unflushed-of failed_one))) (λ none. none) (cases_Bool flush_failed)

  kept_well : answer ≢ 1 → answer ≢ 9 → (app : ℕ) → (counts_at last app).faults ≡ (counts_at first app).faults
  kept_well not_1 not_9 app =
      let none = all-flushed not_1 not_9 in
      flushes.still none app ∙ ⊎_elim
      (λ (within : app < length plan.ports.items).
      let (port, port_is) = there plan.ports.items app within in
      let (line, line_is, was) = found-there (slice_get outcome.apps app) _ (replayed.app app port port_is) in
      was.still (λ write. ⊎_elim not_1 not_9 (failing-of app line (ap (λ ls. slice_get ls app) (flushes.as_before none) ∙ line_is) write)))
      (λ (past : length plan.ports.items ≤ app). ap (λ s. (losses_or (option_map m.shelf.counts s)).faults)
      (get-same_rest (length plan.ports.items) first.shelves shelves_run app replayed.beyond past))
      (cases_lt app (length plan.ports.items))

  -- ---- completeness

  complete-of : (all : List ℕ) → left_at first ≡ Some all → (ended_of plan.ports.items all).fault ≡ None → ¬ Rose (failed_at first) (failed_at last)
      → ¬ (HasLost m.shelf first.shelves last.shelves (length plan.ports.items) ⊎ Rose refusals refusals_now)
      → (answer ≡ 0) ⊎ (answer ≡ 1)
  complete-of all told_all none reads writes =
      let shows : ShowsEnding (ended_of plan.ports.items all) replayed.before outcome.end = rw told_all at replayed.ended.shown in
      let said : IsStatusOf answer None = subst (IsStatusOf answer) none (ending-of all shows) in
      ⊎_elim (λ zero. inl zero) (λ others. ⊎_elim (λ one. inr one) (λ more. ⊎_elim
      (λ eight. absurd (reads (read-of eight).0))
      (λ nine. absurd (writes (lost-of nine))) more) others) said

  all_read-of : answer ≡ 0 → (all : List ℕ) → left_at first ≡ Some all
      → ended_of plan.ports.items all ≡ record { before = replayed.before; fault = None }
  unfolding IsNumbered
  all_read-of zero all told_all = ⊎_elim (λ one. absurd (omega arith)) (λ others. ⊎_elim (λ (nine, why). absurd (omega arith))
      (λ number.
      let at_end : outcome.end ≡ None = (numbered outcome.end replayed.ended.kind).2 (sym number ∙ zero) in
      let shows : ShowsEnding (ended_of plan.ports.items all) replayed.before outcome.end = rw told_all at replayed.ended.shown in
      subst (λ e. ShowsEnding (ended_of plan.ports.items all) replayed.before e) at_end shows) others) causes.cases

  going-of : answer ≡ 0 → (number : ℕ) (app : AppLine) → slice_get lines number ≡ Some app → (app.stopped ≡ stop.No) ⊎ (app.stopped ≡ stop.Quit)
  going-of zero number app at = by_cause app.stopped refl
    where
      by_cause : (stopped : Stopped) → app.stopped ≡ stopped → (app.stopped ≡ stop.No) ⊎ (app.stopped ≡ stop.Quit)
      by_cause stop.No is = inl is
      by_cause stop.Quit is = inr is
      by_cause stop.Write is = ⊎_elim (λ one. absurd (omega (arith, one, zero))) (λ nine. absurd (omega (arith, nine, zero))) (failing-of number app at is)
      by_cause stop.Memory is = let one = wanting-of number app at is in absurd (omega (arith, one, zero))

  enough-of : answer ≡ 0 → (all : List ℕ) → left_at first ≡ Some all
      → need_in plan (offers_of (steered_in plan.ports.items (ended_of plan.ports.items all).before)) ≤ buffers_of plan → outcome.refused ≡ []
  enough-of zero all told_all fits = replayed.need.enough
      (subst (λ (e : Ending). need_in plan (offers_of (steered_in plan.ports.items e.before)) ≤ buffers_of plan) (all_read-of zero all told_all) fits)

  streams-of : answer ≡ 0 → (all : List ℕ) → left_at first ≡ Some all
      → HaveWholeStreams first last plan.ports.items (how_of plan).quit (ended_of plan.ports.items all).before
      (record outcome { apps = lines })
  streams-of zero all told_all =
      let same : lines ≡ outcome.apps = flushes.as_before (all-flushed (λ one. absurd (omega (arith, one, zero))) (λ nine. absurd (omega (arith, nine, zero)))) in
      subst (λ (e : Ending). HaveWholeStreams first last plan.ports.items (how_of plan).quit e.before (record outcome { apps = lines }))
      (sym (all_read-of zero all told_all))
      (told-streams last replayed flushes (how_of plan).quit same
      (whole-streams first (ends_at m at shelves_run) plan outcome nic apps replayed
      (λ number app at. going-of zero number app (ap (λ ls. slice_get ls number) same ∙ at))))

-- the plan is of what it is told itself
pub same_plan : {plan : Plan} {turns : Option (List ℕ)} → IsPlanOf (asked_by plan turns) plan
same_plan = record { ports_are = refl; areas_are = refl; options_are = refl }

-- each application behaves as the options say
how-said : (told : ReplayShown) (plan : Plan) → BehavesPlainly told.options → IsPlanOf told plan → how_of plan ≡ told.options.how
how-said told plan plainly planned = rw planned.options_are (go (told.options.polled || is_some told.options.forward) refl)
  where
    go : (b : Bool) → (told.options.polled || is_some told.options.forward) ≡ b
        → (if told.options.polled || is_some told.options.forward then plain_behaviour else told.options.how) ≡ told.options.how
    go true other = rw other (sym (plainly other))
    go false other = rw other refl

-- what was lent as a slice is the vector's again
back : {T : Type 0} (room : ℕ) (xs all : List T) → length xs ≡ room → take room (xs ++ drop (length xs) all) ≡ xs
back room xs all same = ap (λ k. take k (xs ++ drop (length xs) all)) (sym same) ∙ take-append_seam xs (drop (length xs) all)

-- the report went out whole
told_well : (refusals refusals_now said answer : ℕ) (reported : Result (Unit {0}) Unreported) → OnOk reported (refusals_now ≡ refusals)
    → answer ≡ answer_of said reported → answer ≢ 1 → answer ≢ 9 → refusals_now ≡ refusals
told_well refusals refusals_now said answer (Ok done) still is not_1 not_9 = still
told_well refusals refusals_now said answer (Err unreported.Memory) still is not_1 not_9 = absurd (not_1 is)
told_well refusals refusals_now said answer (Err unreported.Write) still is not_1 not_9 =
    ⊎_elim (λ one. absurd (not_1 one)) (λ nine. absurd (not_9 nine.0)) (chosen said answer is)

module _ {S T O : Type 0} {m : Seen S T O} (before : World m) (ends : Ends m.streams) (out_now : O) (card_now : Card) {shelves_run : List T}
    {plan : Plan} {outcome : Told} {answer : ℕ} where
  replays-so : (told : ReplayShown) → BehavesPlainly told.options → IsPlanOf told plan
      → RanWith before.ends (record ends { shelves = shelves_run }) card_now told.turns plan outcome → HasRecord plan outcome card_now
      → (given : List T) → given ≡ shelves_run
      → Finishes m.streams.shelf given ends.shelves (sink_in before) (sunk m.sink out_now) (outcome, record_in plan card_now) answer
      → Replays before (record { ends = ends; out = out_now; card = card_now }) told answer
  replays-so told plainly planned with recorded given given_is finishes =
      let ran = with.ran in
      let ahead = with.ahead in
      let tells = finishes.tells in
      let flushes : Flushes m.streams.shelf (length plan.ports.items) shelves_run ends.shelves outcome.apps finishes.lines finishes.lost =
      subst (λ n. Flushes m.streams.shelf n shelves_run ends.shelves outcome.apps finishes.lines finishes.lost) ran.many_apps
      (subst (λ them. Flushes m.streams.shelf (length outcome.apps) them ends.shelves outcome.apps finishes.lines finishes.lost) given_is finishes.flushes) in
      let outcome_now : Told = record outcome { apps = finishes.lines } in
      let was = (sink_in before).failed in
      let now = m.sink.failed out_now in
      let is : IsAnswer (status_of outcome_now finishes.lost) answer was now = is_answer (sink_in before).sent (m.sink.sent out_now) was now
      (status_of outcome_now finishes.lost) answer _ tells.reported tells.report tells.answered in
      let same : plan.ports.items ≡ told.ports = planned.ports_are in
      record {
        plan = plan;
        planned = planned;
        shelves_run = shelves_run;
        outcome_run = outcome;
        ran = with;
        outcome = outcome_now;
        flush_failed = finishes.lost;
        flushes = rw (← same) flushes;
        told_is = refl;
        streams = record {
          flow = rw (← same) (told-flow ends ran flushes);
          others = rw (← same) (told-others ends ran flushes);
          appended = told-appended ends ran flushes;
        };
        report = tells;
        recorded = record-told outcome flushes ran.many_apps plan card_now recorded;
        kind = kind-of ends ran ahead flushes is;
        reading = record {
          reached = rw (← same) (reached-of ends ran ahead flushes is);
          ending = rw (← same) (some-weaker (left_in before) _ _ ran.ended.shown (λ all shows. ending-of ends ran ahead flushes is all shows));
          whole = whole-of ends ran ahead flushes is;
          read = rw (← same) (read-of ends ran ahead flushes is);
          settled = settled-of ends ran ahead flushes is;
          sound_reads = read_well ends ran ahead flushes is;
        };
        writing = record {
          lost = rw (← same) (lost-of ends ran ahead flushes is);
          wanting = wanting-of ends ran ahead flushes is;
          failing = failing-of ends ran ahead flushes is;
          unflushed = unflushed-of ends ran ahead flushes is;
          sound_shelves = kept_well ends ran ahead flushes is;
          sound_sink = told_well was now (status_of outcome_now finishes.lost) answer tells.reported tells.still tells.answered;
          going = going-of ends ran ahead flushes is;
        };
        complete = rw (← same) (complete-of ends ran ahead flushes is);
        done = λ zero all told_all. record {
          all_read = rw (← same) (all_read-of ends ran ahead flushes is zero all told_all);
          enough = rw (← same) (enough-of ends ran ahead flushes is zero all told_all);
          streams = rw (← same, ← how-said told plan plainly planned) (streams-of ends ran ahead flushes is zero all told_all);
        };
      }

  pub replays : (told : ReplayShown) → BehavesPlainly told.options → IsPlanOf told plan
      → RanWith before.ends (record ends { shelves = shelves_run }) card_now told.turns plan outcome → HasRecord plan outcome card_now
      → (given : List T) → given ≡ shelves_run → (room : ℕ) → room ≡ length shelves_run
      → Finishes m.streams.shelf given ends.shelves (sink_in before) (sunk m.sink out_now) (outcome, record_in plan card_now) answer
      → Replays before (record {
        ends = record ends { shelves = take room (ends.shelves ++ drop (length ends.shelves) shelves_run) };
        out = out_now;
        card = card_now;
      }) told answer
  replays told plainly planned with recorded given given_is room size finishes =
      subst (λ them. Replays before (record { ends = record ends { shelves = them }; out = out_now; card = card_now }) told answer)
      (sym (back room ends.shelves shelves_run (finishes.flushes.many ∙ ap length given_is ∙ sym size)))
      (replays-so told plainly planned with recorded given given_is finishes)
