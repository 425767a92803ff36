-- A list of flows of which one sees a segment.
use Rattle.std.proofs.Common.{◌≡◌, ℕ, zero, suc, ◌<◌, ◌≤◌, List, [], ◌∷◌, ◌++◌, length, map, set, get_or, ap, arith}
use Rattle.flow_table.specs.{Steered.{SteeredTcp}, Flows.{new_flow, seen_by, with_segment}, declared.plain.flows.PlainFlow.{PlainFlow}, Plain.{flow_shown}}

pub seen_at : (flows : List PlainFlow) (n : ℕ) (steered : SteeredTcp) (d later : PlainFlow) → n < length flows
    → flow_shown later ≡ seen_by (flow_shown (get_or flows n d)) steered.segment
    → map flow_shown (set flows n later) ≡ with_segment (map flow_shown flows) n steered
seen_at [] n steered d later below seen = absurd (omega arith)
seen_at (flow ∷ flows) zero steered d later below seen = ap (λ f. f ∷ map flow_shown flows) seen
seen_at (flow ∷ flows) (suc n) steered d later below seen = ap (λ fs. flow_shown flow ∷ fs) (seen_at flows n steered d later (omega arith) seen)

pub begun_at : (flows : List PlainFlow) (n : ℕ) (steered : SteeredTcp) (later : PlainFlow) → length flows ≤ n → flow_shown later ≡ new_flow steered
    → map flow_shown (flows ++ later ∷ []) ≡ with_segment (map flow_shown flows) n steered
begun_at [] n steered later past begun = ap (λ f. f ∷ []) begun
begun_at (flow ∷ flows) zero steered later past begun = absurd (omega arith)
begun_at (flow ∷ flows) (suc n) steered later past begun = ap (λ fs. flow_shown flow ∷ fs) (begun_at flows n steered later (omega arith) begun)
