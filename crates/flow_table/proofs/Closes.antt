-- How a flow is closed behind a list of steered segments: as its own segments close it, one after another.
use Rattle.std.proofs.Common.{◌≡◌, ◌≢◌, ℕ, zero, suc, ◌≤◌, List, [], ◌∷◌, ◌++◌, length, Option, Some, None, Bool, true, false, refl, sym, ap, ◌∙◌}
use Rattle.std.{proofs.{Common.{if◌then◌else◌, ◌==◌, arith}, lemmas.Bool.{cond-false, ne_eqb, Decides.{nat_tests}}}, specs.List.{slice_get}}
use Rattle.flow_table.specs.{Steered.{SteeredTcp}, CountedPart.{FlowClose, not_closed, closed_by}}
use Rattle.flow_table.{specs.Flows.{Flow, number_of_flow, with_segment, flows_with, flows_after, of_flow_after}, proofs.FlowLaws.{number_of_flow-within}}
use Rattle.flow_table.proofs.Laws.{closed_after}

-- how a flow is closed that may not have begun
abbrev pub close_or : Option Flow → FlowClose
close_or None = not_closed
close_or (Some flow) = flow.close

abbrev pub close_at : List Flow → ℕ → FlowClose
close_at flows n = close_or (slice_get flows n)

-- ---- one more segment

if-suc : (k n : ℕ) (a b : FlowClose) → (if k == n then a else b) ≡ (if suc k == suc n then a else b)
if-suc k n a b = ap (λ t. if t then a else b) (let e : (k == n) ≡ (suc k == suc n) = grind (arith, nat_tests) in e)

-- another flow's segment
other : (k n : ℕ) → k ≢ n → (before after : FlowClose) → before ≡ (if k == n then after else before)
other k n differ before after = sym (cond-false (k == n) after before (ne_eqb k n differ))

with_segment-close : (flows : List Flow) (k n : ℕ) (s : SteeredTcp) → k ≤ length flows
    → close_at (with_segment flows k s) n ≡ (if k == n then closed_by (close_at flows n) s.segment else close_at flows n)
with_segment-close [] zero zero s within = refl
with_segment-close [] zero (suc n) s within = other 0 (suc n) (λ e. omega arith) not_closed (closed_by not_closed s.segment)
with_segment-close [] (suc k) n s within = absurd (omega arith)
with_segment-close (flow ∷ flows) zero zero s within = refl
with_segment-close (flow ∷ flows) zero (suc n) s within =
    other 0 (suc n) (λ e. omega arith) (close_at flows n) (closed_by (close_at flows n) s.segment)
with_segment-close (flow ∷ flows) (suc k) zero s within = other (suc k) 0 (λ e. omega arith) flow.close (closed_by flow.close s.segment)
with_segment-close (flow ∷ flows) (suc k) (suc n) s within =
    with_segment-close flows k n s (omega arith) ∙ if-suc k n (closed_by (close_at flows n) s.segment) (close_at flows n)

pub flows_with-close : (flows : List Flow) (s : SteeredTcp) (n : ℕ)
    → close_at (flows_with flows s) n ≡ (if number_of_flow flows s == n then closed_by (close_at flows n) s.segment else close_at flows n)
unfolding flows_with
flows_with-close flows s n = with_segment-close flows (number_of_flow flows s) n s (number_of_flow-within flows s)

-- ---- all of them

own_or_not : (own : Bool) (close : FlowClose) (s : SteeredTcp) (others : List SteeredTcp)
    → closed_after (if own then closed_by close s.segment else close) others ≡ closed_after close ((if own then s ∷ [] else []) ++ others)
own_or_not true close s others = refl
own_or_not false close s others = refl

pub flows_after-close : (flows : List Flow) (xs : List SteeredTcp) (n : ℕ)
    → close_at (flows_after flows xs) n ≡ closed_after (close_at flows n) (of_flow_after n flows xs)
flows_after-close flows [] n = refl
flows_after-close flows (s ∷ xs) n =
    flows_after-close (flows_with flows s) xs n
    ∙ ap (λ close. closed_after close (of_flow_after n (flows_with flows s) xs)) (flows_with-close flows s n)
    ∙ own_or_not (number_of_flow flows s == n) (close_at flows n) s (of_flow_after n (flows_with flows s) xs)
