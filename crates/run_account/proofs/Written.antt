-- What an application wrote is what the lines of its flows say.
use Rattle.std.proofs.Common.{◌≡◌, ◌≢◌, ℕ, suc, ◌+◌, ◌<◌, ◌≤◌, ◌==◌, if◌then◌else◌, List, [], ◌∷◌, length, map, true, false, Some}
use Rattle.std.{proofs.Common.{refl, sym, ap, subst, ◌∙◌, arith, ⊎_elim, All}, specs.{Prelude.{nat_eq}, List.{slice_get, sum_by, IsDistinct}}}
use Rattle.std.proofs.lemmas.{Bool.{cases_Bool, cases_eq, eq-eqb, eqb-true, ne_eqb}, List.{Elements.{All-head, All-tail}, Quantifiers.{position-Some}}}
use Rattle.std.proofs.lemmas.Option.{slice_get_within}
use Rattle.zr_kinds.specs.declared.outcome.FlowLine.{FlowLine}
use Rattle.flow_table.{specs.Flows.{Flow}, proofs.FlowLaws.{HaveApps}}
use Rattle.board_face.specs.{Relay.{as_taken}, declared.views.{nic.SentNote.{SentNote}, app.TakenNote.{TakenNote}}}
use Rattle.app_worker.specs.{Marks.{numbered_notes, notes_of_flow}, Core.{total, Each, own_notes}}
use Rattle.flow_queues.specs.{Ends.{AppEnd, bytes_written_of, times_written}, Totals.{capped}}
use Rattle.card_feed.{specs.{Outcomes.{AreLinesOf, line_of_flow as flow_line_of}, Sent.{IsOfOwnFlow}}, proofs.OfFlow.{there}}
use Rattle.run_account.{specs.Ran.{AreCounts, written_to}, proofs.{AppLines.{one-value}, FlowSums.{sum-by-place, bytes-by-number}, Ports.{is-to-port}}}

-- the number is that of a flow of this application
pub record IsOwn (flows : List Flow) (a number : ℕ) : Type 0 where
  pub flow : Flow
  pub known : slice_get flows number ≡ Some flow
  pub app : flow.app ≡ a

-- a flow that has a note among these is one of the application
begun-own : (flows : List Flow) (a number : ℕ) (notes : List SentNote) (k : ℕ) → All (IsOfOwnFlow flows a) notes
    → notes_of_flow number (numbered_notes k (map as_taken notes)) ≢ [] → IsOwn flows a number
begun-own flows a number [] k own some = absurd (some refl)
begun-own flows a number (s ∷ notes) k own some = ⊎_elim
    (λ (mine : (s.note.flow == number) ≡ true).
    let one = All-head (IsOfOwnFlow flows a) s notes own in
    record { flow = one.flow; known = ap (slice_get flows) (sym (eqb-true s.note.flow number mine)) ∙ one.known; app = one.app })
    (λ (other : (s.note.flow == number) ≡ false).
    begun-own flows a number notes (suc k) (All-tail (IsOfOwnFlow flows a) s notes own) (rw other at some))
    (cases_Bool (s.note.flow == number))

pub all-own : (flows : List Flow) (a : ℕ) (taken : List TakenNote) (notes : List SentNote) → taken ≡ map as_taken notes
    → All (IsOfOwnFlow flows a) notes → (own : List (ℕ × ℕ)) → Each (λ f. own_notes f.0 taken ≢ []) own → Each (λ f. IsOwn flows a f.0) own
all-own flows a taken notes same all [] each = tt
all-own flows a taken notes same all (f ∷ fs) each = (
  begun-own flows a f.0 notes 0 all (subst (λ (ts : List TakenNote). own_notes f.0 ts ≢ []) same each.0),
  all-own flows a taken notes same all fs each.1,
)

pub app-below : (ports : List ℕ) (flows : List Flow) → HaveApps ports flows → (number : ℕ) (flow : Flow) → slice_get flows number ≡ Some flow
    → flow.app < length ports
app-below ports flows have number flow at = (position-Some (λ p. p == flow.key.dport) ports flow.app 0 (have number flow at)).0

-- of a flow of another application nothing is counted
none-of : (flows : List Flow) (a number : ℕ) (flow : Flow) → slice_get flows number ≡ Some flow → flow.app ≢ a
    → (own : List (ℕ × ℕ)) → Each (λ f. IsOwn flows a f.0) own → bytes_written_of number own ≡ 0
none-of flows a number flow at other [] each = refl
none-of flows a number flow at other (f ∷ fs) each = ⊎_elim
    (λ (same : f.0 ≡ number).
    let one : flow ≡ each.0.flow = one-value (sym at ∙ ap (slice_get flows) (sym same) ∙ each.0.known) in
    absurd (other (ap (λ (g : Flow). g.app) one ∙ each.0.app)))
    (λ (apart : f.0 ≢ number).
    let test : (f.0 == number) ≡ false = ne_eqb f.0 number apart in
    rw test (none-of flows a number flow at other fs each.1))
    (cases_eq f.0 number)

module _ (ports : List ℕ) (flows : List Flow) (ends : List AppEnd) (counts : List ℕ) (lines : List FlowLine) (have : HaveApps ports flows)
    (are : AreCounts flows ends counts) (of : AreLinesOf flows counts lines) where
  pub flow-line : (number : ℕ) (flow : Flow) (end : AppEnd) → slice_get flows number ≡ Some flow → slice_get ends flow.app ≡ Some end
      → slice_get lines number ≡ Some (flow_line_of flow (bytes_written_of number end.flows))
  flow-line number flow end at end_at = of.each number flow (bytes_written_of number end.flows) at (are.each number flow end at end_at)

  module _ (distinct : IsDistinct nat_eq ports) (ends_many : length ends ≡ length ports) (a port : ℕ) (end : AppEnd)
      (port_at : slice_get ports a ≡ Some port) (end_at : slice_get ends a ≡ Some end) (own : Each (λ f. IsOwn flows a f.0) end.flows) where
    one-line : (number : ℕ) (flow : Flow) (e : AppEnd) → slice_get flows number ≡ Some flow → slice_get ends flow.app ≡ Some e
        → (if flow.key.dport == port then bytes_written_of number e.flows else 0) ≡ bytes_written_of number end.flows
    one-line number flow e at e_at =
        let test : (flow.key.dport == port) ≡ (flow.app == a) =
        is-to-port ports flow.key.dport flow.app port a distinct (have number flow at) port_at in
        ⊎_elim
        (λ (same : flow.app ≡ a).
        let yes : (flow.key.dport == port) ≡ true = test ∙ eq-eqb flow.app a same in
        let one : e ≡ end = one-value (sym e_at ∙ ap (slice_get ends) same ∙ end_at) in
        rw yes (ap (λ (v : AppEnd). bytes_written_of number v.flows) one))
        (λ (other : flow.app ≢ a).
        let no : (flow.key.dport == port) ≡ false = test ∙ ne_eqb flow.app a other in
        let none : bytes_written_of number end.flows ≡ 0 = none-of flows a number flow at other end.flows own in
        rw (no, none) refl)
        (cases_eq flow.app a)

    known-line : (number : ℕ) (line : FlowLine) (flow : Flow) (e : AppEnd) → slice_get lines number ≡ Some line
        → slice_get flows number ≡ Some flow → slice_get ends flow.app ≡ Some e
        → (if line.port == port then line.bytes else 0) ≡ bytes_written_of number end.flows
    known-line number line flow e at flow_at e_at =
        let is : flow_line_of flow (bytes_written_of number e.flows) ≡ line = one-value (sym (flow-line number flow e flow_at e_at) ∙ at) in
        subst (λ (l : FlowLine). (if l.port == port then l.bytes else 0) ≡ bytes_written_of number end.flows) is (one-line number flow e flow_at e_at)

    line-counts : (number : ℕ) (line : FlowLine) → slice_get lines number ≡ Some line
        → (if line.port == port then line.bytes else 0) ≡ bytes_written_of number end.flows
    line-counts number line at =
        let (flow, flow_at) = there flows number (omega (arith, slice_get_within lines number line at, of.many)) in
        let (e, e_at) = there ends flow.app (omega (arith, app-below ports flows have number flow flow_at, ends_many)) in
        known-line number line flow e at flow_at e_at

    all-below : (fs : List (ℕ × ℕ)) → Each (λ f. IsOwn flows a f.0) fs → Each (λ f. f.0 < length lines) fs
    all-below [] each = tt
    all-below (f ∷ fs) each = (
      omega (arith, slice_get_within flows f.0 each.0.flow each.0.known, of.many),
      all-below fs each.1,
    )

    pub written-is : ((number : ℕ) → times_written number end.flows ≤ 1) → end.written ≡ capped (total (λ f. f.1) end.flows)
        → end.written ≡ written_to port lines
    written-is once counted =
        let by_place : sum_by (λ (line : FlowLine). if line.port == port then line.bytes else 0) lines ≡ total (λ f. f.1) end.flows =
        sum-by-place (λ (line : FlowLine). if line.port == port then line.bytes else 0) (λ n. bytes_written_of n end.flows) lines 0
        (λ n line at. let place : n ≡ 0 + n = omega arith in line-counts n line at ∙ ap (λ k. bytes_written_of k end.flows) place)
        ∙ bytes-by-number end.flows (length lines) once (all-below end.flows own) in
        counted ∙ ap capped (sym by_place)
